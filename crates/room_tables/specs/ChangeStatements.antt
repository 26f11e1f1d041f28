-- What a statement that ran makes of the room, and which one makes a change.
use Rattle.std.specs.Prelude.{◌≡◌, ℕ, List, Ok}
use Rattle.sqlite_value.specs.Order.{Row}
use Rattle.sqlite.specs.State.{Executes, State}
use Rattle.room_types.specs.declared.changes.Change.{Change}
use Rattle.room_types.specs.declared.changes.Change.TheVariants as change
use Rattle.room_tables_schema.specs.Outcomes.{Inside}
use Rattle.room_tables_schema.specs.Schema.{room_schema}
use Rattle.room_tables_rows.specs.KeyColumns.{text_cells}
use Rattle.room_tables_rows.specs.DivisionSql.{division_row}
use Rattle.room_tables_rows.specs.IncidentSql.{incident_row}
use Rattle.room_tables_rows.specs.CallSql.{call_row}
use Rattle.room_tables_rows.specs.VehicleSql.{vehicle_row}
use Rattle.room_tables_rows.specs.TurnSql.{turn_row}
use Rattle.room_tables_rows.specs.AssignmentSql.{assignment_row}
use Rattle.room_tables_rows.specs.PointSql.{point_row}
use Rattle.room_tables_rows.specs.LoanSql.{loan_row}
use Rattle.room_tables_rows.specs.OfferSql.{offer_row}
use Rattle.room_tables_rows.specs.ReportSql.{report_row}
use Rattle.room_tables_rows.specs.declared.division_sql.TheConstants.{PUT_DIVISION}
use Rattle.room_tables_rows.specs.declared.incident_sql.TheConstants.{INSERT_INCIDENT}
use Rattle.room_tables_rows.specs.declared.incident_sql.TheConstants.{OVERWRITE_INCIDENT}
use Rattle.room_tables_rows.specs.declared.incident_sql.TheConstants.{PUT_INCIDENT}
use Rattle.room_tables_rows.specs.declared.call_sql.TheConstants.{INSERT_CALL, PUT_CALL}
use Rattle.room_tables_rows.specs.declared.vehicle_sql.TheConstants.{OVERWRITE_VEHICLE, PUT_VEHICLE}
use Rattle.room_tables_rows.specs.declared.turn_sql.TheConstants.{INSERT_TURN, OVERWRITE_TURN}
use Rattle.room_tables_rows.specs.declared.turn_sql.TheConstants.{PUT_TURN}
use Rattle.room_tables_rows.specs.declared.assignment_sql.TheConstants.{DROP_ASSIGNMENT}
use Rattle.room_tables_rows.specs.declared.assignment_sql.TheConstants.{INSERT_ASSIGNMENT}
use Rattle.room_tables_rows.specs.declared.assignment_sql.TheConstants.{PUT_ASSIGNMENT}
use Rattle.room_tables_rows.specs.declared.point_sql.TheConstants.{PUT_POINT}
use Rattle.room_tables_rows.specs.declared.loan_sql.TheConstants.{DROP_LOAN, PUT_LOAN}
use Rattle.room_tables_rows.specs.declared.offer_sql.TheConstants.{DROP_OFFER, PUT_OFFER}
use Rattle.room_tables_rows.specs.declared.report_sql.TheConstants.{INSERT_REPORT, PUT_REPORT}
use Rattle.room_tables.specs.declared.row_changes.WritePlan.{WritePlan}
use Rattle.room_tables.specs.declared.row_changes.WritePlan.TheVariants.{Statement, Inserting}
use Rattle.room_tables.specs.declared.row_changes.WritePlan.TheVariants.{Overwriting, Settling}

-- A statement ran on a room's tables, in a transaction that goes on.
pub record Ran (text : List ℕ) (params : Row) (old new : State) : Type 0 where
  pub room : old.now.schema ≡ room_schema
  pub inside : Inside old new
  pub count : ℕ
  pub ran : Executes text params old new (Ok count)

-- this text, with these values, makes the change
abbrev pub IsStatement : List ℕ → Row → Change → Type 0
IsStatement text params (change.PutDivision row) =
    (text ≡ PUT_DIVISION.now) × (params ≡ division_row row)
IsStatement text params (change.PutIncident row) =
    (text ≡ PUT_INCIDENT.now) × (params ≡ incident_row row)
IsStatement text params (change.PutCall row) = (text ≡ PUT_CALL.now) × (params ≡ call_row row)
IsStatement text params (change.PutVehicle row) =
    (text ≡ PUT_VEHICLE.now) × (params ≡ vehicle_row row)
IsStatement text params (change.PutTurn row) = (text ≡ PUT_TURN.now) × (params ≡ turn_row row)
IsStatement text params (change.PutAssignment row) =
    (text ≡ PUT_ASSIGNMENT.now) × (params ≡ assignment_row row)
IsStatement text params (change.PutPoint row) = (text ≡ PUT_POINT.now) × (params ≡ point_row row)
IsStatement text params (change.PutLoan row) = (text ≡ PUT_LOAN.now) × (params ≡ loan_row row)
IsStatement text params (change.PutOffer row) = (text ≡ PUT_OFFER.now) × (params ≡ offer_row row)
IsStatement text params (change.PutReport row) = (text ≡ PUT_REPORT.now) × (params ≡ report_row row)
IsStatement text params (change.DropAssignment key) =
    (text ≡ DROP_ASSIGNMENT.now) × (params ≡ text_cells key)
IsStatement text params (change.DropLoan key) = (text ≡ DROP_LOAN.now) × (params ≡ text_cells key)
IsStatement text params (change.DropOffer key) = (text ≡ DROP_OFFER.now) × (params ≡ text_cells key)
IsStatement text params (change.Settle callsign division) = ⊥

-- this text inserts the row of the change
abbrev pub IsInsertion : List ℕ → Change → Type 0
IsInsertion text (change.PutIncident row) = text ≡ INSERT_INCIDENT.now
IsInsertion text (change.PutCall row) = text ≡ INSERT_CALL.now
IsInsertion text (change.PutTurn row) = text ≡ INSERT_TURN.now
IsInsertion text (change.PutAssignment row) = text ≡ INSERT_ASSIGNMENT.now
IsInsertion text (change.PutReport row) = text ≡ INSERT_REPORT.now
IsInsertion text _ = ⊥

-- these two, with these values, make the change: the second where the first is refused
abbrev pub AreInsertions : List ℕ → List ℕ → Row → Change → Type 0
AreInsertions insertion put params made =
    IsInsertion insertion made × IsStatement put params made

-- this text writes the row of the change over the one with its key
abbrev pub IsOverwriting : List ℕ → Change → Type 0
IsOverwriting text (change.PutIncident row) = text ≡ OVERWRITE_INCIDENT.now
IsOverwriting text (change.PutVehicle row) = text ≡ OVERWRITE_VEHICLE.now
IsOverwriting text (change.PutTurn row) = text ≡ OVERWRITE_TURN.now
IsOverwriting text _ = ⊥

-- these two, with these values, make the change: the second where the first writes no row
abbrev pub AreStatements : List ℕ → List ℕ → Row → Change → Type 0
AreStatements over put params made = IsOverwriting over made × IsStatement put params made

-- the change is made this way
abbrev pub IsWritePlan : WritePlan → Change → Type 0
IsWritePlan (Statement text params) made = IsStatement text.now params made
IsWritePlan (Inserting insertion put params) made = AreInsertions insertion.now put.now params made
IsWritePlan (Overwriting over put params) made = AreStatements over.now put.now params made
IsWritePlan (Settling callsign division) made = made ≡ change.Settle callsign.now division
