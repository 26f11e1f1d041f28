-- Which rows of a room are over, by its rows.
use Rattle.std.proofs.Common.{ap, sym, ◌∙◌}
use Rattle.std.specs.BTreeSet.{BTreeSet, contains}
use Rattle.std.specs.Prelude.{Bool, List, None, Some, false, is_some, nat_lt, not, refl, true, ℕ}
use Rattle.std.specs.Prelude.{◌&&◌, ◌≡◌}
use Rattle.room_place.specs.declared.plans.Area.{Area}
use Rattle.room_types.specs.KeyedRows.{keep, row_at}
use Rattle.room_types.specs.Codes.{is_active}
use Rattle.room_types.specs.Keys.{callsign_cmp, incident_key, pair_cmp, vehicle_key}
use Rattle.room_types.specs.declared.slices.DivisionRows.{DivisionRows}
use Rattle.room_types.specs.declared.tables.Incident.{Incident}
use Rattle.room_types.specs.declared.tables.Report.{Report}
use Rattle.room_model.specs.Queries.{incident_of, last_serial, vehicle_at}
use Rattle.room_model.specs.RoomSlices.{room_of}
use Rattle.room_store_check_rows.specs.HistoryChecks.{is_last_report}
use Rattle.dispatch_room_archive.specs.Successor.{has_recent_call, incident_stays_behind, is_over}
use Rattle.dispatch_room_archive.specs.Successor.{is_settled}
use Rattle.dispatch_room_archive.proofs.RowsLeft.{kept_is}
use Rattle.dispatch_room_archive.specs.CalledIncidents.{AreCalled}
use Rattle.dispatch_room_archive.specs.Leftovers.{is_report_over}

grouped : (x y z : Bool) → (x && y) && z ≡ x && (y && z)
grouped true y z = refl
grouped false y z = refl

module _ (since : ℕ) (s : DivisionRows) (plan : List Area) where
  called_is : (set : BTreeSet (ℕ × ℕ)) (i : Incident) → AreCalled since s.calls s.calls set
      → contains pair_cmp set (i.division, i.number) ≡ has_recent_call since (room_of plan s) i
  unfolding last_serial
  called_is set i with_changes = with_changes i.division i.number

  pub over_is : (set : BTreeSet (ℕ × ℕ)) (i : Incident) → AreCalled since s.calls s.calls set
      → (not (is_active i.state) && nat_lt i.opened since)
      && not (contains pair_cmp set (i.division, i.number)) ≡ is_over since (room_of plan s) i
  over_is set i with_changes =
      grouped (not (is_active i.state)) (nat_lt i.opened since) (not (contains pair_cmp set (i.division, i.number)))
      ∙ ap (λ x. not (is_active i.state) && (nat_lt i.opened since && not x)) (called_is set i with_changes)

  pub found_stays : (d n : ℕ) (i : Incident)
      → row_at pair_cmp incident_key s.incidents (d, n) ≡ Some i
      → is_over since (room_of plan s) i ≡ incident_stays_behind since (room_of plan s) d n
  unfolding incident_of
  found_stays d n i e =
      sym (ap (λ o. is_some (keep (is_over since (room_of plan s)) o)) e ∙ kept_is (is_over since (room_of plan s)) i)

  pub none_stays : (d n : ℕ) → row_at pair_cmp incident_key s.incidents (d, n) ≡ None
      → false ≡ incident_stays_behind since (room_of plan s) d n
  unfolding incident_of
  none_stays d n e = sym (ap (λ o. is_some (keep (is_over since (room_of plan s)) o)) e)

  pub report_is : (x : Report) (last : Bool)
      → last ≡ is_last_report x.number (row_at callsign_cmp vehicle_key s.vehicles x.callsign)
      → (is_settled since x && not last) ≡ is_report_over since (room_of plan s) x
  unfolding vehicle_at
  report_is x last e = ap (λ y. is_settled since x && not y) e
