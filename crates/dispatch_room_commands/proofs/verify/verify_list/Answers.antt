use Rattle.std.proofs.Common.{Ok, refl}
use Rattle.dispatch_room_disk.proofs.WorkLemmas.{stops}
use Rattle.dispatch_room_commands.proofs.verify.verify_list.Goals as goal

pub returns-in_err-open_list : goal.returns-in_err-open_list
returns-in_err-open_list g c =
    stops _ _ _ _ c.from_residual.result _ c.from_residual.ensures.1
    (λ fault is. rw is (c.in_err-open_list.ensures.fault, c.in_err-open_list.ensures.done, refl))

pub returns : goal.returns
returns g c = record {
  between = record { printed = _; done = _ };
  found = Ok _;
  is = (tt, c.in_ok-open_list.ensures.done, refl);
  rest = (_, _, rw c.new-list.ensures.left at c.verify_in-done.ensures, c.leave_list.ensures);
}
