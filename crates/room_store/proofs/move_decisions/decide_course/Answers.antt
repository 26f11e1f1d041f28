use Rattle.std.proofs.Common.{[], ap, arith, drop, inl, inr, length, sym}
use Rattle.std.proofs.Common.{take, take_all, ⊎_elim, ◌+◌, ◌++◌, ◌∙◌, ◌∷◌, ◌≡◌, ◌≤◌}
use Rattle.std.proofs.lemmas.List.{take_more}
use Rattle.room_model.specs.Step.{course, verdict_of}
use Rattle.room_store.proofs.MoveCourses.{comes_as, comes_none, refused_says, there, there_more}
use Rattle.room_store.proofs.MoveCourses.{there_split}
use Rattle.room_store.proofs.move_decisions.decide_course.Goals as goal

pub loop-other-init : goal.loop-other-init
loop-other-init c room formed is =
    c.in-Ok.ensures.made [] room
    (comes_none c.args.division c.args.at room _ _ _ c.new.ensures c.new-2.ensures formed is)

pub returns-in-Err : goal.returns-in-Err
returns-in-Err c =
    let os = c.args.moves.now.others in
    refused_says c.in-Err.refusal _ (⊎_elim (λ u. inl u) (λ stops. inr (λ room formed is.
    sym (ap verdict_of (stops [] (there os) room
    (comes_none c.args.division c.args.at room _ _ _ c.new.ensures c.new-2.ensures formed is)))))
    c.in-Err.ensures.refused)

pub loop-other-preserved : goal.loop-other-preserved
loop-other-preserved c room formed is =
    let os = c.as_slice-others.result.now in
    let i = c.loop-other.other-index in
    let o = c.other-item.result in
    let more : take (i + 1) os ≡ take i os ++ o ∷ [] = rw c.other-item.is (take_more os i _ c.loop-other-test.true) in
    let first = c.args.moves.now.first in
    comes_as _ _ (ap (λ l. first ∷ l) (sym (ap there more ∙ there_more (take i os) o)))
    (c.in-Ok-make_if.ensures.made (first ∷ there (take i os)) room (c.loop-other.invariant room formed is))

pub returns-in-Err-make_if : goal.returns-in-Err-make_if
returns-in-Err-make_if c =
    let os = c.as_slice-others.result.now in
    let i = c.loop-other.other-index in
    let o = c.other-item.result in
    let more : take (i + 1) os ≡ take i os ++ o ∷ [] = rw c.other-item.is (take_more os i _ c.loop-other-test.true) in
    let first = c.args.moves.now.first in
    refused_says c.in-Err-make_if.refusal _ (⊎_elim (λ u. inl u) (λ stops. inr (λ room formed is.
    sym (ap verdict_of (
    ap (λ l. course c.args.division (first ∷ there l) c.args.at room) (sym c.as_slice-others.ensures)
    ∙ ap (λ l. course c.args.division (first ∷ l) c.args.at room) (there_split os i o more)
    ∙ stops (first ∷ there (take i os)) (there (drop (i + 1) os)) room (c.loop-other.invariant room formed is)))))
    c.in-Err-make_if.ensures.refused)

pub returns : goal.returns
returns c room formed is =
    let os = c.as_slice-others.result.now in
    let past : length os ≤ c.loop-other.other-index = omega (arith, c.loop-other-test.false) in
    let come = rw (take_all c.loop-other.other-index os past, c.as_slice-others.ensures) at
    c.loop-other.invariant room formed is in
    rw c.many.ensures (sym (ap verdict_of come.made))
