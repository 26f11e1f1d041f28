-- Why the tables of a file are not read: where storage is given, one of these reads failed.
use Rattle.std.specs.Ordering.{nat_cmp}
use Rattle.std.specs.Prelude.{Bool, IsTrue, List, Result, [], ℕ, ◌≡◌, ◌≤◌, ◌⊎◌}
use Rattle.std.specs.declared.cmp.Ordering.{Ordering}
use Rattle.sqlite.specs.Held.{Held, state}
use Rattle.sqlite.specs.State.{State}
use Rattle.sqlite_disk.specs.Disk.{MoreFaults}
use Rattle.sqlite_trees.specs.declared.store.Store.{Ghosts}
use Rattle.sqlite_value.specs.Order.{Row}
use Rattle.room_types.specs.Keys.{assignment_key, call_key, callsign_cmp, division_key}
use Rattle.room_types.specs.Keys.{incident_key, loan_key, numbered_cmp, offer_key, pair_cmp}
use Rattle.room_types.specs.Keys.{point_key, report_key, turn_key, vehicle_key}
use Rattle.room_model.specs.FleetRows.{terminal_key, token_cmp}
use Rattle.room_tables_rows.specs.AssignmentSql.{is_assignment_row, assignment_row}
use Rattle.room_tables_rows.specs.CallSql.{is_call_row, call_row}
use Rattle.room_tables_rows.specs.DivisionSql.{is_division_row, division_row}
use Rattle.room_tables_rows.specs.IncidentSql.{is_incident_row, incident_row}
use Rattle.room_tables_rows.specs.LoanSql.{is_loan_row, loan_row}
use Rattle.room_tables_rows.specs.OfferSql.{is_offer_row, offer_row}
use Rattle.room_tables_rows.specs.PointSql.{is_point_row, point_row}
use Rattle.room_tables_rows.specs.ReportSql.{is_report_row, report_row}
use Rattle.room_tables_rows.specs.TurnSql.{is_turn_row, turn_row}
use Rattle.room_tables_rows.specs.VehicleSql.{is_vehicle_row, vehicle_row}
use Rattle.room_tables_rows.specs.MetaSql.{is_meta_row}
use Rattle.room_tables_rows.specs.TerminalSql.{is_terminal_row, terminal_row}
use Rattle.room_tables_rows.specs.declared.area_sql.TheConstants.{ALL_AREAS}
use Rattle.room_tables_rows.specs.declared.assignment_sql.TheConstants.{ALL_ASSIGNMENTS}
use Rattle.room_tables_rows.specs.declared.call_sql.TheConstants.{ALL_CALLS}
use Rattle.room_tables_rows.specs.declared.division_sql.TheConstants.{ALL_DIVISIONS}
use Rattle.room_tables_rows.specs.declared.incident_sql.TheConstants.{ALL_INCIDENTS}
use Rattle.room_tables_rows.specs.declared.loan_sql.TheConstants.{ALL_LOANS}
use Rattle.room_tables_rows.specs.declared.meta_sql.TheConstants.{ALL_META}
use Rattle.room_tables_rows.specs.declared.offer_sql.TheConstants.{ALL_OFFERS}
use Rattle.room_tables_rows.specs.declared.point_sql.TheConstants.{ALL_POINTS}
use Rattle.room_tables_rows.specs.declared.report_sql.TheConstants.{ALL_REPORTS}
use Rattle.room_tables_rows.specs.declared.terminal_sql.TheConstants.{ALL_TERMINALS}
use Rattle.room_tables_rows.specs.declared.turn_sql.TheConstants.{ALL_TURNS}
use Rattle.room_tables_rows.specs.declared.vehicle_sql.TheConstants.{ALL_VEHICLES}
use Rattle.room_tables_schema.specs.declared.database_faults.Fault.{Fault}
use Rattle.room_tables.specs.Failures.{AreNoPlan, AreNoRows, AreNotJustOne, ExplainsWhyAtLast}
use Rattle.room_tables.specs.Failures.{FailsAtLast, FailsToRead}
use Rattle.room_tables.specs.Rowids.{FailsAtRowids}

-- All rows of a table were asked for, and the query failed, not for lack of memory; or what it
-- showed are no rows of this table in the order of their keys.
abbrev pub FailsAtRows : {X K : Type 0} → List ℕ → (Row → Bool) → (K → K → Ordering) → (X → K)
    → (X → Row) → State → State → Type 0
FailsAtRows text is_row order key row old new =
    FailsToRead text [] old new (AreNoRows is_row order key row)

-- So it was of one of the tables of a room, or its rowids were asked for and the query failed; or
-- there is not just one version and zone, or the areas are not numbered from 1 on.
pub data FailsAtTable (old new : State) : Type 0 where
  rowids_fail : FailsAtRowids old new → FailsAtTable old new
  meta_fails : FailsToRead ALL_META.now [] old new (AreNotJustOne (is_meta_row 2))
      → FailsAtTable old new
  areas_fail : FailsToRead ALL_AREAS.now [] old new AreNoPlan → FailsAtTable old new
  terminals_fail : FailsAtRows ALL_TERMINALS.now is_terminal_row token_cmp terminal_key
      terminal_row old new → FailsAtTable old new
  reports_fail : FailsAtRows ALL_REPORTS.now is_report_row numbered_cmp report_key
      report_row old new → FailsAtTable old new
  divisions_fail : FailsAtRows ALL_DIVISIONS.now is_division_row nat_cmp division_key
      division_row old new → FailsAtTable old new
  incidents_fail : FailsAtRows ALL_INCIDENTS.now is_incident_row pair_cmp incident_key
      incident_row old new → FailsAtTable old new
  calls_fail : FailsAtRows ALL_CALLS.now is_call_row pair_cmp call_key call_row old new
      → FailsAtTable old new
  vehicles_fail : FailsAtRows ALL_VEHICLES.now is_vehicle_row callsign_cmp vehicle_key
      vehicle_row old new → FailsAtTable old new
  turns_fail : FailsAtRows ALL_TURNS.now is_turn_row numbered_cmp turn_key turn_row old new
      → FailsAtTable old new
  assignments_fail : FailsAtRows ALL_ASSIGNMENTS.now is_assignment_row callsign_cmp assignment_key
      assignment_row old new → FailsAtTable old new
  points_fail : FailsAtRows ALL_POINTS.now is_point_row pair_cmp point_key point_row old new
      → FailsAtTable old new
  loans_fail : FailsAtRows ALL_LOANS.now is_loan_row callsign_cmp loan_key loan_row old new
      → FailsAtTable old new
  offers_fail : FailsAtRows ALL_OFFERS.now is_offer_row callsign_cmp offer_key offer_row old new
      → FailsAtTable old new

-- Of reads of the tables, one after another, the last failed.
abbrev pub FailsInTables : {S : Type 0} → Ghosts S → Held S → Held S → Type 0
FailsInTables g = FailsAtLast g FailsAtTable

-- storage is reported where that is so
abbrev pub ExplainsTable : {S T : Type 0} → Ghosts S → Held S → Held S → Result T Fault → Type 0
ExplainsTable g old new result = ExplainsWhyAtLast g old new result FailsAtTable

-- where the connection was open, its disk has failed since
abbrev pub DiskFails : State → State → Type 0
DiskFails old new = IsTrue old.is_open → MoreFaults old.faults new.faults

-- From some moment on the tables of a file were judged, which were as they are at first, and this
-- failed.
pub record FailsInFile {S : Type 0} (g : Ghosts S) (old new : Held S) : Type 0 where
  pub first : Held S
  pub last : Held S
  pub same : IsTrue (state g first).is_open → (state g first).now ≡ (state g old).now
  pub is_open : IsTrue (state g old).is_open
      → IsTrue (state g first).is_open ⊎ MoreFaults (state g old).faults (state g first).faults
  pub since : (state g old).faults ≤ (state g first).faults
  pub fails : FailsInTables g first last
  pub until : (state g last).faults ≤ (state g new).faults

-- Or the disk failed before that, and the connection is shut.
abbrev pub FailsToTake : {S : Type 0} → Ghosts S → Held S → Held S → Type 0
FailsToTake g old new = DiskFails (state g old) (state g new) ⊎ FailsInFile g old new
