use Rattle.std.proofs.Common.{inl, inr, refl}
use Rattle.std.proofs.lemmas.Result.{IfErr-weaker, IfOk-weaker}
use Rattle.dispatch_room_lists.proofs.replayed_segments.follow_between.Goals as goal

pub returns-in-Ok-clause-between : goal.returns-in-Ok-clause-between
returns-in-Ok-clause-between g c =
    let takes = rw c.new-rows.ensures.items at (rw c.in-Ok.is at c.take_rows.ensures.taken) in
    IfOk-weaker c.follow_by.result _ _
    (λ it by. IfOk-weaker it.0 _ _
    (λ goes_on is. (c.take_rows.new.rows.items, c.in-Ok.behind, takes, rw c.as_slice.ensures.value at is)) by)
    c.follow_by.ensures.by

pub returns-in-Ok-clause-fault : goal.returns-in-Ok-clause-fault
returns-in-Ok-clause-fault g c =
    let takes = rw c.new-rows.ensures.items at (rw c.in-Ok.is at c.take_rows.ensures.taken) in
    IfOk-weaker c.follow_by.result _ _
    (λ it why. IfErr-weaker it.0 _ _
    (λ fault is. inr (inr (c.take_rows.new.rows.items, is.0, rw is.1 at takes, rw c.as_slice.ensures.value at is.2)))
    why)
    c.follow_by.ensures.fault

pub returns-in-Ok-clause-lost : goal.returns-in-Ok-clause-lost
returns-in-Ok-clause-lost g c =
    let takes = rw c.new-rows.ensures.items at (rw c.in-Ok.is at c.take_rows.ensures.taken) in
    IfErr-weaker c.follow_by.result _ _
    (λ fault is. (c.take_rows.new.rows.items, is.0, rw is.1 at takes, rw c.as_slice.ensures.value at is.2))
    c.follow_by.ensures.lost

pub returns-in-Err-Read-clause-fault : goal.returns-in-Err-Read-clause-fault
returns-in-Err-Read-clause-fault g c =
    inl (refl, rw c.in-Err-Read.field-0-is at (rw c.in-Err-Read.is at c.take_rows.ensures.failed), refl)
