use Rattle.std.proofs.Common.{Ok, inl, inr, refl}
use Rattle.dispatch_room_disk.proofs.WorkLemmas.{stops}
use Rattle.dispatch_room_changes.proofs.terminals.new_token.Goals as goal

pub returns-in_err-fill_random : goal.returns-in_err-fill_random
returns-in_err-fill_random g c printed =
    stops _ _ _ _ c.from_residual.result _ c.from_residual.ensures.1
    (λ fault is. rw is (c.in_err-fill_random.ensures.fault, c.in_err-fill_random.ensures.done, refl))

pub returns-in-Ok-Some : goal.returns-in-Ok-Some
returns-in-Ok-Some g c printed = record {
  between = record { printed = _; done = _ };
  found = Ok _;
  is = (tt, c.in_ok-fill_random.ensures.done, refl);
  rest = (rw c.in-Ok-Some.field-0-is at c.in-Ok-Some.ensures, refl);
}

pub returns-in-Ok-None : goal.returns-in-Ok-None
returns-in-Ok-None g c printed = record {
  between = record { printed = _; done = _ };
  found = Ok _;
  is = (tt, c.in_ok-fill_random.ensures.done, refl);
  rest = (inr (refl, rw c.in-Ok-None.field-0-is at c.in-Ok-None.ensures), refl);
}

pub returns-in-Err : goal.returns-in-Err
returns-in-Err g c printed = record {
  between = record { printed = _; done = _ };
  found = Ok _;
  is = (tt, c.in_ok-fill_random.ensures.done, refl);
  rest = (inl refl, refl);
}
