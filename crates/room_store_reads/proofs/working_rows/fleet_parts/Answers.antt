use Rattle.std.proofs.Common.{ap, eqb-true, sym, ◌∙◌}
use Rattle.room_types.specs.Keys.{pair_cmp}
use Rattle.room_store_reads.proofs.ReadFilters.{filter_own}
use Rattle.room_store_reads.specs.Selections.{reaches}
use Rattle.room_store_reads.proofs.working_rows.fleet_parts.Goals as goal

pub returns : goal.returns
returns c room ask at in_order are selects = record {
  divisions =
      (rw are.divisions at c.in_ok-part_of.ensures.rows) in_order.divisions
      ∙ filter_own _ _ _ room.divisions (λ x own. sym (selects.divisions x.number));
  vehicles =
      (rw are.vehicles at c.in_ok-part_of-2.ensures.rows) in_order.vehicles
      ∙ filter_own _ _ _ room.vehicles (λ v own. sym (selects.vehicles v.callsign));
  assignments =
      (rw are.assignments at c.in_ok-part_of-3.ensures.rows) in_order.assignments
      ∙ filter_own _ _ _ room.assignments (λ x own. sym (selects.assignments x.callsign));
  points =
      (rw are.points at c.in_ok-part_of-4.ensures.rows) in_order.points
      ∙ filter_own _ _ _ room.points
      (λ p own.
      ap (λ m. reaches pair_cmp c.args.reads.now.points (m, p.number)) (eqb-true p.division c.args.division own)
      ∙ sym (selects.points p.number));
  loans =
      (rw are.loans at c.in_ok-part_of-5.ensures.rows) in_order.loans
      ∙ filter_own _ _ _ room.loans (λ l own. sym (selects.loans l.callsign));
  offers =
      (rw are.offers at c.in_ok-part_of-6.ensures.rows) in_order.offers
      ∙ filter_own _ _ _ room.offers (λ o own. sym (selects.offers o.callsign));
}
