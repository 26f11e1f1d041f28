use Rattle.std.proofs.Common.{Ok, refl}
use Rattle.dispatch_room_disk.proofs.WorkLemmas.{stops}
use Rattle.dispatch_room_changes.proofs.replan.replan_by.Goals as goal

pub returns-in_err-make_in_file : goal.returns-in_err-make_in_file
returns-in_err-make_in_file g c =
    stops _ _ _ _ c.from_residual.result _ c.from_residual.ensures.1
    (λ fault is. rw is (c.in_err-make_in_file.ensures _))

pub returns : goal.returns
returns g c =
    record {
      between = record { printed = _; done = _ };
      found = Ok tt;
      is = c.in_ok-make_in_file.ensures _;
      rest = (c.print.ensures, refl);
    }
