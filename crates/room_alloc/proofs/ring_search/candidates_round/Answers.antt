use Rattle.std.proofs.Common.{ap, drop, filter, map, subst, sym, [], ◌+◌, ◌++◌, ◌∙◌, ◌∷◌, ◌≡◌}
use Rattle.std.proofs.Common.{Global, Vec}
use Rattle.room_model.specs.RoomSlices.{unplanned}
use Rattle.room_alloc.specs.Rings.{ArePlaced, candidate_of, is_candidate}
use Rattle.room_alloc.specs.declared.nearness.Candidate.{Candidate}
use Rattle.room_alloc.proofs.CandidateLaws.{drop_item, made_more, made_none}
use Rattle.room_alloc.proofs.RoundLaws.{placed_more}
use Rattle.room_alloc.proofs.ring_search.candidates_round.Goals as goal
use Rattle.room_alloc.proofs.ring_search.candidates_round.Goals.{then-is_candidate+in_ok-push}
use Rattle.room_alloc.proofs.ring_search.candidates_round.Goals.{else-is_candidate}

pub loop-vehicle-preserved : goal.loop-vehicle-preserved
loop-vehicle-preserved c =
    let slice = c.args.slice.now in
    let i = c.args.incident.now in
    let vehicles = slice.rows.vehicles in
    let after = drop (c.loop-vehicle.vehicle-index + 1) vehicles in
    let make = candidate_of slice.division i c.args.at (unplanned slice.rows) in
    let passes = is_candidate slice.division c.args.at c.args.kind in
    let rest = drop_item vehicles c.as_slice-vehicle-items.result.now c.loop-vehicle.vehicle-index c.vehicle-item.result
    c.as_slice-vehicle-items.ensures.all c.loop-vehicle-test.true c.vehicle-item.is in
    let so_far = subst
    (λ ys. c.loop-vehicle.all.items ++ map make (filter passes ys) ≡ map make (filter passes vehicles)) rest
    c.loop-vehicle.invariant.rest in
    elim c.if-is_candidate.branch [
      | then-is_candidate+in_ok-push w ↦
          let items : c.if-is_candidate.all.items
          ≡ c.loop-vehicle.all.items ++ w.candidate.result ∷ [] =
          ap (λ (v : Vec Candidate Global). v.items) w.all-is ∙ w.in_ok-push.ensures.items in
          record {
            rest =
                subst (λ xs. xs ++ map make (filter passes after) ≡ map make (filter passes vehicles)) (sym items)
                (made_more make passes c.loop-vehicle.all.items after _ c.vehicle-item.result so_far w.candidate.result
                w.candidate.ensures.value (sym c.is_candidate.ensures ∙ w.if-is_candidate.true));
            placed =
                subst (ArePlaced i) (sym items)
                (placed_more i c.loop-vehicle.all.items w.candidate.result c.loop-vehicle.invariant.placed
                w.candidate.ensures.placed);
          }
      | else-is_candidate w ↦
          let items : c.if-is_candidate.all.items
          ≡ c.loop-vehicle.all.items = ap (λ (v : Vec Candidate Global). v.items) w.all-is in
          record {
            rest =
                subst (λ xs. xs ++ map make (filter passes after) ≡ map make (filter passes vehicles)) (sym items)
                (made_none make passes c.loop-vehicle.all.items after _ c.vehicle-item.result so_far
                (sym c.is_candidate.ensures ∙ w.if-is_candidate.false));
            placed = subst (ArePlaced i) (sym items) c.loop-vehicle.invariant.placed;
          }
    ]
