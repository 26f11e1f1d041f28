use Rattle.std.proofs.Common.{rules}
use Rattle.dispatch_room_cli.proofs.TerminalNameLemmas.{number_absent, number_read}
use Rattle.dispatch_room_cli.proofs.who.number.Goals as goal

pub returns-then-not-begins_number : goal.returns-then-not-begins_number
returns-then-not-begins_number c = number_absent c.args.text.now (search rules)

pub returns : goal.returns
returns c =
    rw c.ok.ensures.value (number_read c.args.text.now c.parse.result (search rules) c.parse.ensures.value.0)
