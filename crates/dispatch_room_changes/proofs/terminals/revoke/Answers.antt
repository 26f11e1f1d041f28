use Rattle.std.proofs.Common.{Ok, refl}
use Rattle.dispatch_room_disk.proofs.WorkLemmas.{stops}
use Rattle.dispatch_room_changes.proofs.terminals.revoke.Goals as goal

pub returns-in_err-withdraw : goal.returns-in_err-withdraw
returns-in_err-withdraw g c =
    stops _ _ _ _ c.from_residual.result _ c.from_residual.ensures.1
    (λ fault is. rw is (c.in_err-withdraw.ensures _))

pub returns : goal.returns
returns g c =
    record {
      between = record { printed = _; done = _ };
      found = Ok tt;
      is = c.in_ok-withdraw.ensures _;
      rest = (c.print.ensures, refl);
    }
