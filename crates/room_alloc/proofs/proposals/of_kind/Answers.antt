use Rattle.std.proofs.Common.{refl, subst, sym, ◌∙◌, []}
use Rattle.room_model.specs.RoomSlices.{unplanned}
use Rattle.room_alloc.specs.Rings.{ArePlaced}
use Rattle.room_alloc.proofs.RoundLaws.{are_apart, are_of_kind, proposed_so}
use Rattle.room_alloc.proofs.proposals.of_kind.Goals as goal

pub first_of_both-requires : goal.first_of_both-requires
first_of_both-requires c =
    let slice = c.args.slice.now in
    let all = c.as_slice.ensures.value ∙ c.in_ok-all.ensures.ok in
    record {
      placed = subst (ArePlaced c.args.incident.now) (sym c.as_slice.ensures.value) c.in_ok-all.ensures.placed;
      kind =
          are_of_kind slice.division c.args.incident.now c.args.kind c.args.at (unplanned slice.rows)
          slice.rows.vehicles _ all;
      apart =
          are_apart slice.division c.args.incident.now c.args.kind c.args.at (unplanned slice.rows)
          slice.rows.vehicles _ (c.lemma_in_order.ensures []).vehicles all;
    }

pub returns-clause-ok : goal.returns-clause-ok
returns-clause-ok c =
    let slice = c.args.slice.now in
    let count = c.get-count.ensures.value
    ∙ c.lack.ensures slice.division (unplanned slice.rows) refl c.requires in
    proposed_so slice.division c.args.incident.now c.args.kind c.args.at (unplanned slice.rows) c.get-count.result
    _ _ (c.lemma_in_order.ensures []) count (c.as_slice.ensures.value ∙ c.in_ok-all.ensures.ok)
    c.in_ok-few.ensures.ok
