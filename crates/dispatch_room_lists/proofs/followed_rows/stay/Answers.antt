use Rattle.std.proofs.Common.{inl, inr, refl}
use Rattle.dispatch_room_lists.proofs.FollowLemmas.{elsewhere}
use Rattle.dispatch_room_lists.proofs.followed_rows.stay.Goals as goal

pub returns-in-Ok-true-clause-there : goal.returns-in-Ok-true-clause-there
returns-in-Ok-true-clause-there g c = record {
  stays = c.has_come_to-met.ensures.stays;
  met = λ clean. c.in-Ok-true.ensures.found.met clean c.in-Ok-true.field-0-test;
}

pub returns-in-Ok-false-clause-fault : goal.returns-in-Ok-false-clause-fault
returns-in-Ok-false-clause-fault g c =
    inr (
      refl,
      elsewhere _ _ _ _ _ c.has_come_to-met.ensures.stays c.in-Ok-false.ensures.found c.in-Ok-false.field-0-test,
    )

pub returns-in-Err-clause-fault : goal.returns-in-Err-clause-fault
returns-in-Err-clause-fault g c = inl (c.in-Err.ensures.unavailable, c.has_come_to-met.ensures.stays)
