use Rattle.std.proofs.Common.{rules}
use Rattle.dispatch_room_cli.proofs.argument_parser.terminals_of.Goals as goal

pub returns-in_err-new-clause-asked : goal.returns-in_err-new-clause-asked
returns-in_err-new-clause-asked c = search (rules, c.in_err-new.ensures c.args.file.now)

pub returns-in_err-revoked-clause-asked : goal.returns-in_err-revoked-clause-asked
returns-in_err-revoked-clause-asked c = search (rules, c.in_err-revoked.ensures c.args.file.now)
