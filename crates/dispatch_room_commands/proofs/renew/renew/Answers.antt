use Rattle.std.proofs.Common.{Ok, refl}
use Rattle.dispatch_room_disk.proofs.WorkLemmas.{stops}
use Rattle.dispatch_room_commands.proofs.renew.renew.Goals as goal

pub returns-in_err-left : goal.returns-in_err-left
returns-in_err-left g c =
    stops _ _ _ _ c.from_residual.result _ c.from_residual.ensures.1
    (λ fault is. rw is (c.in_err-left.ensures _))

pub returns : goal.returns
returns g c =
    record {
      between = record { printed = _; done = _ };
      found = Ok c.in_ok-left.left;
      is = c.in_ok-left.ensures _;
      rest = c.begin.ensures;
    }
