use Rattle.std.proofs.Common.{inl, inr, refl}
use Rattle.dispatch_room_changes.proofs.kept_enrolments.keep_end.Goals as goal

pub returns-in-Ok-keep_place-clause-place : goal.returns-in-Ok-keep_place-clause-place
returns-in-Ok-keep_place-clause-place g c = (c.in-Ok.head, c.in-Ok.ensures.head, c.in-Ok-keep_place.ensures.kept)

pub returns-in-Err-keep_place-clause-place : goal.returns-in-Err-keep_place-clause-place
returns-in-Err-keep_place-clause-place g c = inr (refl, c.in-Err-keep_place.ensures.unkept)

pub returns-in-Err-clause-place : goal.returns-in-Err-clause-place
returns-in-Err-clause-place g c = inl (c.in-Err.ensures.fault, refl)
