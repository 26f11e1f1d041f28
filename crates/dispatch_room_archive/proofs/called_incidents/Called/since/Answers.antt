use Rattle.std.proofs.Common.{ap, arith, get_or, length, subst, sym, take, true, ◌+◌, ◌<◌, ◌≡◌, ◌≤◌}
use Rattle.std.proofs.Common.{◌∙◌}
use Rattle.std.proofs.lemmas.List.{take_all}
use Rattle.std.specs.BTreeSet.{Updates}
use Rattle.std.specs.Prelude.{nat_le}
use Rattle.std.specs.Slice.{IsItemAt}
use Rattle.room_types.specs.Keys.{pair_cmp}
use Rattle.room_model.proofs.Tests.{or_left, or_right}
use Rattle.dispatch_room_archive.specs.CalledIncidents.{AreCalled}
use Rattle.dispatch_room_archive.proofs.CallLaws.{at_least, both_false, end_shows, next_more}
use Rattle.dispatch_room_archive.proofs.CallLaws.{next_same}
use Rattle.dispatch_room_archive.proofs.called_incidents.Called.since.Goals as goal
use Rattle.dispatch_room_archive.proofs.called_incidents.Called.since.Goals.{then-ge+in_ok-insert}
use Rattle.dispatch_room_archive.proofs.called_incidents.Called.since.Goals.{then-ge-via-then-ge}
use Rattle.dispatch_room_archive.proofs.called_incidents.Called.since.Goals.{then-ge-via-else-ge+then-is_end}
use Rattle.dispatch_room_archive.proofs.called_incidents.Called.since.Goals.{else-ge+else-is_end}

pub loop-at-preserved : goal.loop-at-preserved
loop-at-preserved c =
    let calls = c.args.calls.now in
    let at = c.loop-at.at in
    let call = c.index-calls-at.result in
    let same = c.as_slice-calls.ensures.all in
    let keyed = c.as_slice-calls.ensures.keyed in
    let inside : at < length calls = subst (λ xs. at < length xs) same (omega (arith, c.loop-at-test.true)) in
    let here : call ≡ get_or calls at call = c.index-calls-at.is ∙ ap (λ xs. get_or xs at call) same in
    elim c.if-ge.branch [
      | then-ge+in_ok-insert w ↦
          next_more c.args.moment calls at call inside here _ _ c.loop-at.invariant (elim w.then-ge.branch [
            | then-ge-via-then-ge v ↦
                or_left _ _ (sym (at_least call.at c.args.moment) ∙ (sym c.ge.ensures ∙ v.if-ge.true))
            | then-ge-via-else-ge+then-is_end v ↦
                or_right (nat_le c.args.moment call.at) _ (sym (end_shows c.args.moment calls at call inside here
                v.get.result keyed (subst (λ xs. IsItemAt xs (at + 1) v.get.result) same v.get.ensures.lookup))
                ∙ (sym v.is_end.ensures ∙ v.if-is_end.true))
          ]) (subst (λ s. Updates pair_cmp c.loop-at.incidents s (call.division, call.incident) true)
          (sym w.incidents-is)
          w.in_ok-insert.ensures.updates)
      | else-ge+else-is_end w ↦
          subst (λ s. AreCalled c.args.moment calls (take (at + 1) calls) s) (sym w.incidents-is)
          (next_same c.args.moment calls at call inside here _ c.loop-at.invariant
          (both_false _ _ (sym (at_least call.at c.args.moment) ∙ (sym c.ge.ensures ∙ w.if-ge.false))
          (sym (end_shows c.args.moment calls at call inside here w.get.result keyed
          (subst (λ xs. IsItemAt xs (at + 1) w.get.result) same w.get.ensures.lookup))
          ∙ (sym w.is_end.ensures ∙ w.if-is_end.false))))
    ]

pub returns : goal.returns
returns c =
    let calls = c.args.calls.now in
    let past : length calls
    ≤ c.loop-at.at = subst (λ xs. length xs ≤ c.loop-at.at) c.as_slice-calls.ensures.all c.loop-at-test.false in
    subst (λ first. AreCalled c.args.moment calls first c.loop-at.incidents) (take_all c.loop-at.at calls past)
    c.loop-at.invariant
