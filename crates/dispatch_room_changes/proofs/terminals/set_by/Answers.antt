use Rattle.std.proofs.Common.{Ok, refl}
use Rattle.dispatch_room_disk.proofs.WorkLemmas.{stops}
use Rattle.dispatch_room_changes.proofs.terminals.set_by.Goals as goal

pub returns-in_err-listed : goal.returns-in_err-listed
returns-in_err-listed g c =
    stops _ _ _ _ c.from_residual.result _ c.from_residual.ensures.1
    (λ fault is. (rw is c.in_err-listed.ensures.none, refl))

pub returns : goal.returns
returns g c =
    record {
      between = _;
      found = Ok c.in_ok-listed.listed;
      is = (c.in_ok-listed.ensures.given, refl);
      rest = c.set.ensures;
    }
