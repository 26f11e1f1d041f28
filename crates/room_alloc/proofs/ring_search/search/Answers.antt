use Rattle.std.proofs.Common.{ap, arith, inl, inr, subst, sym, take_all, ◌∙◌}
use Rattle.room_place.specs.Choice.{Among}
use Rattle.room_types.specs.KeyedRows.{put_row}
use Rattle.room_alloc.specs.Nearness.{nearness_cmp, whole}
use Rattle.room_alloc.proofs.RingLaws.{among_item, more_only, more_there, seen_or_later}
use Rattle.room_alloc.proofs.ring_search.search.Goals as goal

pub is_enough-requires : goal.is_enough-requires
is_enough-requires c =
    let placed = (c.requires.placed _
    (among_item _ c.loop-candidate.candidate-index _ c.loop-candidate-test.true c.candidate-item.is)).0 in
    omega (arith, placed)

pub loop-candidate-preserved : goal.loop-candidate-preserved
loop-candidate-preserved c =
    let i = c.args.incident.now in
    let xs = c.args.candidates.now in
    let k = c.loop-candidate.candidate-index in
    let put = c.in_ok-put.ensures.ok ∙ ap (put_row nearness_cmp whole c.loop-candidate.found) c.nearness_of.ensures in
    record {
      only =
          more_only i xs k _ c.loop-candidate-test.true c.candidate-item.is c.loop-candidate.found _ put
          c.loop-candidate.invariant.only;
      there =
          more_there i xs k _ c.loop-candidate-test.true c.candidate-item.is c.loop-candidate.found _ put
          c.loop-candidate.invariant.there;
    }

pub returns-then-is_enough-clause-ok : goal.returns-then-is_enough-clause-ok
returns-then-is_enough-clause-ok c = record {
  only = c.loop-candidate.invariant.only;
  there =
      λ x a.
      elim (seen_or_later c.args.candidates.now c.loop-candidate.candidate-index _ x c.requires.rising
      c.loop-candidate-test.true c.candidate-item.is a) [
        | inl t ↦ inl (c.loop-candidate.invariant.there x t)
        | inr le ↦ inr (record { ring = _; later = le; enough = sym c.is_enough.ensures ∙ c.if-is_enough.true })
      ];
}

pub returns-clause-ok : goal.returns-clause-ok
returns-clause-ok c = record {
  only = c.loop-candidate.invariant.only;
  there =
      λ x a.
      inl (c.loop-candidate.invariant.there x (subst (Among x)
      (sym (take_all c.loop-candidate.candidate-index c.args.candidates.now c.loop-candidate-test.false)) a));
}
