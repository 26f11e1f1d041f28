use Rattle.std.proofs.Common.{ap, refl, sym, ◌∙◌}
use Rattle.room_types.specs.KeyedRows.{keep, listed as list_of, row_at}
use Rattle.room_types.specs.Keys.{callsign_cmp, loan_key, owns_loan, owns_vehicle, vehicle_key}
use Rattle.room_types.specs.declared.tables.Loan.{Loan}
use Rattle.room_types.specs.declared.tables.Vehicle.{Vehicle}
use Rattle.room_model.specs.RoomSlices.{room_of}
use Rattle.room_store_cache.specs.Cache.{HasFleetOf}
use Rattle.room_store_cache.specs.declared.fleets.FleetRows.{FleetRows}
use Rattle.room_store_reads.proofs.MoveReads.{held_known, incident_known, lent_known, served_known}
use Rattle.room_store_reads.proofs.MoveReads.{turn_known}
use Rattle.room_store_reads.proofs.move_rows.rows_known.Goals as goal

pub returns : goal.returns
returns c room formed is =
    let d = c.args.division in
    let k = c.args.next.now.callsign in
    let fleet : HasFleetOf c.args.known.now.fleet room = is.fleet (sym c.is_known.ensures ∙ c.if-not-is_known.false) in
    let beside = c.in_ok-beside.ensures room formed.order fleet is in
    record {
      vehicle = held_known d k _ room (c.lend.ensures
          ∙ ap (λ (xs : FleetRows). list_of (keep (owns_vehicle d) (row_at callsign_cmp vehicle_key xs.vehicles k))) c.get-fleet.ensures
          ∙ ap (λ xs. list_of (keep (owns_vehicle d) (row_at callsign_cmp vehicle_key xs k))) fleet.rows.vehicles);
      loan = lent_known d k _ room (c.lend-2.ensures
          ∙ ap (λ (xs : FleetRows). list_of (keep (owns_loan d) (row_at callsign_cmp loan_key xs.loans k))) c.get-fleet.ensures
          ∙ ap (λ xs. list_of (keep (owns_loan d) (row_at callsign_cmp loan_key xs k))) fleet.rows.loans);
      incident = λ n named. incident_known d k _ room n _ (beside.incident n named) refl;
      served = λ n kind named. served_known d k _ room n _ (beside.incident n named) refl kind;
      turn = λ v none there on. turn_known d k _ room 0 formed v there (beside.turn v none there on);
    }
