use Rattle.std.proofs.Common.{inl, inr, refl}
use Rattle.std.proofs.lemmas.Result.{IfErr-weaker, IfOk-weaker, on_ok_weaker}
use Rattle.dispatch_room_lists.proofs.FollowLemmas.{in_part, stays_same}
use Rattle.dispatch_room_lists.proofs.LegLemmas.{follows_by}
use Rattle.dispatch_room_lists.proofs.followed_rows.follow.Goals as goal

pub returns-in-Ok-Some-Fleet-clause-followed : goal.returns-in-Ok-Some-Fleet-clause-followed
returns-in-Ok-Some-Fleet-clause-followed g c =
    on_ok_weaker c.enrol.result.0
    (λ due. inr (inl (
      c.in-Ok-Some-Fleet.rows.items,
      rw c.in-Ok-Some-Fleet.field-0-0-is at (rw c.in-Ok-Some-Fleet.field-0-is at c.in-Ok-Some-Fleet.ensures.listed),
      rw c.as_slice.ensures.value at due,
    )))
    c.enrol.ensures.enrolled

pub returns-in-Ok-Some-Fleet-clause-fault : goal.returns-in-Ok-Some-Fleet-clause-fault
returns-in-Ok-Some-Fleet-clause-fault g c =
    in_part _ _ _ c.args.text.now _ c.in-Ok-Some-Fleet.rows.items c.enrol.result.0
    (rw c.in-Ok-Some-Fleet.field-0-0-is at (rw c.in-Ok-Some-Fleet.field-0-is at c.in-Ok-Some-Fleet.ensures.listed))
    (rw c.as_slice.ensures.value at c.enrol.ensures.part) c.enrol.ensures.unavailable

pub returns-in-Ok-Some-Change-clause-followed : goal.returns-in-Ok-Some-Change-clause-followed
returns-in-Ok-Some-Change-clause-followed g c =
    let its =
    rw c.in-Ok-Some-Change.field-0-0-is at (rw c.in-Ok-Some-Change.field-0-is at c.in-Ok-Some-Change.ensures.listed) in
    IfOk-weaker c.make_towards.result _ _
    (λ it made. on_ok_weaker it.0 (λ is. follows_by g.S.Store _ _ _ _ _ its is) made) c.make_towards.ensures.made

pub returns-in-Ok-Some-Change-clause-fault : goal.returns-in-Ok-Some-Change-clause-fault
returns-in-Ok-Some-Change-clause-fault g c =
    let its =
    rw c.in-Ok-Some-Change.field-0-0-is at (rw c.in-Ok-Some-Change.field-0-is at c.in-Ok-Some-Change.ensures.listed) in
    IfOk-weaker c.make_towards.result _ _
    (λ it why. IfErr-weaker it.0 _ _
    (λ fault is. elim is [
      | inl unread ↦ inl unread
      | inr unmade ↦ inr (inr (inr (c.in-Ok-Some-Change.change, its, unmade)))
    ]) why) c.make_towards.ensures.fault

pub returns-in-Ok-Some-Change-clause-lost : goal.returns-in-Ok-Some-Change-clause-lost
returns-in-Ok-Some-Change-clause-lost g c =
    let its =
    rw c.in-Ok-Some-Change.field-0-0-is at (rw c.in-Ok-Some-Change.field-0-is at c.in-Ok-Some-Change.ensures.listed) in
    IfErr-weaker c.make_towards.result _ _ (λ fault is. (c.in-Ok-Some-Change.change, its, is))
    c.make_towards.ensures.lost

pub returns-in-Ok-None-clause-fault : goal.returns-in-Ok-None-clause-fault
returns-in-Ok-None-clause-fault g c =
    IfErr-weaker c.stay.result.0 _ _
    (λ fault is. elim is [
      | inl unread ↦ inl unread
      | inr none ↦ inr (inr (inl (none.0, rw c.in-Ok-None.field-0-is at c.in-Ok-None.ensures.none, none.1)))
    ])
    c.stay.ensures.fault

pub returns-in-Err-clause-fault : goal.returns-in-Err-clause-fault
returns-in-Err-clause-fault g c = inl ((_, refl, inl refl), stays_same _ _)
