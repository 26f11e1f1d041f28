use Rattle.std.proofs.Common.{Ok, refl}
use Rattle.dispatch_room_disk.proofs.WorkLemmas.{stops}
use Rattle.dispatch_room_changes.proofs.replan.replan_text.Goals as goal

pub returns-in_err-plan : goal.returns-in_err-plan
returns-in_err-plan g c =
    stops _ _ _ _ c.from_residual.result _ c.from_residual.ensures.1
    (λ fault is. (rw is c.in_err-plan.ensures.none, refl))

pub returns : goal.returns
returns g c =
    record {
      between = _;
      found = Ok c.in_ok-plan.plan;
      is = (c.in_ok-plan.ensures.plan, refl);
      rest = c.replan_by.ensures;
    }
