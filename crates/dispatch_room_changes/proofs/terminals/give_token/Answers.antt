use Rattle.std.proofs.Common.{Ok, refl}
use Rattle.dispatch_room_disk.proofs.WorkLemmas.{stops}
use Rattle.dispatch_room_changes.proofs.terminals.give_token.Goals as goal

pub returns-in_err-token : goal.returns-in_err-token
returns-in_err-token g c =
    stops _ _ _ _ c.from_residual.result _ c.from_residual.ensures.1
    (λ fault is. rw is (c.in_err-token.ensures _))

pub returns-in-Ok : goal.returns-in-Ok
returns-in-Ok g c = record {
  between = record { printed = _; done = _ };
  found = Ok c.in_ok-token.token;
  is = c.in_ok-token.ensures _;
  rest = ((refl, rw c.as_str.ensures.text at c.in-Ok.ensures.bytes), refl);
}

pub returns-in-Err : goal.returns-in-Err
returns-in-Err g c = record {
  between = record { printed = _; done = _ };
  found = Ok c.in_ok-token.token;
  is = c.in_ok-token.ensures _;
  rest = (refl, refl);
}
