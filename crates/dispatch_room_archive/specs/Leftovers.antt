-- Which rows stay behind, by the rows themselves, and the changes that put the others.
use Rattle.std.specs.Prelude.{Bool, List, filter, map, not, ℕ, ◌&&◌, ◌++◌}
use Rattle.room_types.specs.declared.changes.Change.{Change}
use Rattle.room_types.specs.declared.changes.Change.TheVariants.{PutAssignment, PutCall}
use Rattle.room_types.specs.declared.changes.Change.TheVariants.{PutDivision, PutIncident, PutLoan}
use Rattle.room_types.specs.declared.changes.Change.TheVariants.{PutOffer, PutPoint, PutReport}
use Rattle.room_types.specs.declared.changes.Change.TheVariants.{PutTurn, PutVehicle}
use Rattle.room_types.specs.declared.tables.Call.{Call}
use Rattle.room_types.specs.declared.tables.Report.{Report}
use Rattle.room_types.specs.declared.tables.Turn.{Turn}
use Rattle.room_model.specs.Queries.{vehicle_at}
use Rattle.room_model.specs.Room.{Room}
use Rattle.room_store_check_rows.specs.HistoryChecks.{is_last_report}
use Rattle.dispatch_room_archive.specs.Successor.{incident_stays_behind, is_over, is_settled}

-- calls and turns stay behind with their incident
abbrev pub is_call_over : ℕ → Room → Call → Bool
is_call_over since r c = incident_stays_behind since r c.division c.incident

abbrev pub is_turn_over : ℕ → Room → Turn → Bool
is_turn_over since r t = incident_stays_behind since r t.division t.incident

abbrev pub is_report_over : ℕ → Room → Report → Bool
is_report_over since r x =
    is_settled since x && not (is_last_report x.number (vehicle_at x.callsign r))

-- each row is put that doesn't stay behind, table after table
abbrev pub puts_kept : ℕ → Room → List Change
puts_kept since r =
    map PutDivision r.divisions
    ++ (map PutIncident (filter (λ i. not (is_over since r i)) r.incidents)
    ++ (map PutCall (filter (λ c. not (is_call_over since r c)) r.calls)
    ++ (map PutVehicle r.vehicles
    ++ (map PutTurn (filter (λ t. not (is_turn_over since r t)) r.turns)
    ++ (map PutAssignment r.assignments
    ++ (map PutPoint r.points
    ++ (map PutLoan r.loans
    ++ (map PutOffer r.offers
    ++ map PutReport (filter (λ x. not (is_report_over since r x)) r.reports)))))))))
