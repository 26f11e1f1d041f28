use Rattle.std.proofs.Common.{map}
use Rattle.std.specs.String.{string_bytes}
use Rattle.dispatch_room_cli.proofs.MatchLemmas.{is_read}
use Rattle.dispatch_room_cli.proofs.argument_parser.task.Goals as goal

pub returns-in-Ok-clause-asked : goal.returns-in-Ok-clause-asked
returns-in-Ok-clause-asked c =
    is_read c.args.command.now (map string_bytes c.args.words.now) c.in_ok-matches.matches c.in-Ok.task c.requires
    c.in_ok-matches.ensures.ok.2 c.in-Ok.ensures.asked
