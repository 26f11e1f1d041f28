use Rattle.std.proofs.Common.{arith, codes}
use Rattle.dispatch_room_cli.proofs.TerminalNameLemmas.{no_desk, no_position, out_of_range}
use Rattle.dispatch_room_cli.proofs.TerminalNameLemmas.{stripped}
use Rattle.dispatch_room_cli.proofs.who.who_of.Goals as goal

pub returns-in_err-new : goal.returns-in_err-new
returns-in_err-new c =
    rw c.from_residual-in_err-new.ensures (no_desk c.args.text.now c.in-Some.division.now
    (stripped (codes "desk:") c.args.text.now c.in-Some.division.now c.in-Some.ensures.cases)
    (out_of_range c.in-Some.division.now _ 9 (omega arith) c.in_ok-number.ensures c.in_err-new.ensures))

pub returns-in_err-new-2 : goal.returns-in_err-new-2
returns-in_err-new-2 c =
    rw c.from_residual-in_err-new-2.ensures (no_position c.args.text.now c.in-Some-strip_prefix.position.now
    (stripped (codes "position:") c.args.text.now c.in-Some-strip_prefix.position.now
    c.in-Some-strip_prefix.ensures.cases)
    (out_of_range c.in-Some-strip_prefix.position.now _ 99 (omega arith) c.in_ok-number-2.ensures
    c.in_err-new-2.ensures))
