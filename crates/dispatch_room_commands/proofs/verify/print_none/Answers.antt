use Rattle.std.proofs.Common.{Ok, refl}
use Rattle.dispatch_room_disk.proofs.WorkLemmas.{stops}
use Rattle.dispatch_room_commands.proofs.verify.print_none.Goals as goal

pub returns-in_err-print : goal.returns-in_err-print
returns-in_err-print g c =
    stops _ _ _ _ c.from_residual.result _ c.from_residual.ensures.1 (λ fault is. rw is c.in_err-print.ensures)

pub returns : goal.returns
returns g c = record { between = _; found = Ok _; is = c.in_ok-print.ensures; rest = (refl, refl) }
