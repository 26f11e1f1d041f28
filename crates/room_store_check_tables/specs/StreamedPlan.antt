-- What is reported of a file's rows that are read one at a time, outside a transaction.
use Rattle.std.specs.List.{list_all}
use Rattle.std.specs.Ordering.{nat_cmp}
use Rattle.std.specs.Prelude.{Bool, IsTrue, List, [], filter, is_none, ◌&&◌, ◌↔◌, ◌≡◌}
use Rattle.sqlite.specs.State.{State}
use Rattle.sqlite_trees.specs.Tree.{Trees}
use Rattle.room_place.specs.declared.plans.Area.{Area}
use Rattle.room_types.specs.Keys.{assignment_key, call_key, callsign_cmp, division_key}
use Rattle.room_types.specs.Keys.{incident_key, loan_key, numbered_cmp, offer_key, pair_cmp}
use Rattle.room_types.specs.Keys.{point_key, report_key, turn_key, vehicle_key}
use Rattle.room_types.specs.declared.fleet.Terminal.{Terminal}
use Rattle.room_types.specs.declared.slices.DivisionRows.{DivisionRows}
use Rattle.room_types.specs.declared.tables.Assignment.{Assignment}
use Rattle.room_types.specs.declared.tables.Call.{Call}
use Rattle.room_types.specs.declared.tables.Division.{Division}
use Rattle.room_types.specs.declared.tables.Incident.{Incident}
use Rattle.room_types.specs.declared.tables.Loan.{Loan}
use Rattle.room_types.specs.declared.tables.Offer.{Offer}
use Rattle.room_types.specs.declared.tables.Point.{Point}
use Rattle.room_types.specs.declared.tables.Report.{Report}
use Rattle.room_types.specs.declared.tables.Turn.{Turn}
use Rattle.room_types.specs.declared.tables.Vehicle.{Vehicle}
use Rattle.room_model.specs.FleetRows.{AreTerminals}
use Rattle.room_model.specs.Room.{IsInOrder}
use Rattle.room_model.specs.RoomSlices.{room_of}
use Rattle.room_model.specs.RoomAgreements.{IsWellFormed}
use Rattle.room_tables_rows.specs.AssignmentSql.{assignment_row}
use Rattle.room_tables_rows.specs.CallSql.{call_row}
use Rattle.room_tables_rows.specs.DivisionSql.{division_row}
use Rattle.room_tables_rows.specs.IncidentSql.{incident_row}
use Rattle.room_tables_rows.specs.LoanSql.{loan_row}
use Rattle.room_tables_rows.specs.OfferSql.{offer_row}
use Rattle.room_tables_rows.specs.PointSql.{point_row}
use Rattle.room_tables_rows.specs.ReportSql.{report_row}
use Rattle.room_tables_rows.specs.TurnSql.{turn_row}
use Rattle.room_tables_rows.specs.VehicleSql.{vehicle_row}
use Rattle.room_tables_schema.specs.Schema.{assignments_table, calls_table, divisions_table}
use Rattle.room_tables_schema.specs.Schema.{incidents_table, loans_table, offers_table}
use Rattle.room_tables_schema.specs.Schema.{points_table, reports_table, turns_table}
use Rattle.room_tables_schema.specs.Schema.{vehicles_table}
use Rattle.room_tables.specs.Rowids.{AreAllNumbered}
use Rattle.room_tables.specs.RowStreams.{AreAll}
use Rattle.room_store_check_rows.specs.FirstFaults.{call_disagreement, report_disagreement}
use Rattle.room_store_check_rows.specs.FirstFaults.{turn_disagreement}
use Rattle.room_store_check_rows.specs.HistoryChecks.{AreOpenings, histories_fit, is_last, kept}
use Rattle.room_store_check_tables.specs.declared.streamed_plan.JudgedRows.{JudgedRows}
use Rattle.room_store_check_tables.specs.declared.streamed_plan.KeptHistory.{KeptHistory}

-- ---- the rows of each table
abbrev pub AreDivisions : Trees → List Division → Type 0
AreDivisions = AreAll nat_cmp division_key division_row (λ r. r.divisions) divisions_table

abbrev pub AreIncidents : Trees → List Incident → Type 0
AreIncidents = AreAll pair_cmp incident_key incident_row (λ r. r.incidents) incidents_table

abbrev pub AreCalls : Trees → List Call → Type 0
AreCalls = AreAll pair_cmp call_key call_row (λ r. r.calls) calls_table

abbrev pub AreVehicles : Trees → List Vehicle → Type 0
AreVehicles = AreAll callsign_cmp vehicle_key vehicle_row (λ r. r.vehicles) vehicles_table

abbrev pub AreTurns : Trees → List Turn → Type 0
AreTurns = AreAll numbered_cmp turn_key turn_row (λ r. r.turns) turns_table

abbrev pub AreAssignments : Trees → List Assignment → Type 0
AreAssignments =
    AreAll callsign_cmp assignment_key assignment_row (λ r. r.assignments) assignments_table

abbrev pub ArePoints : Trees → List Point → Type 0
ArePoints = AreAll pair_cmp point_key point_row (λ r. r.points) points_table

abbrev pub AreLoans : Trees → List Loan → Type 0
AreLoans = AreAll callsign_cmp loan_key loan_row (λ r. r.loans) loans_table

abbrev pub AreOffers : Trees → List Offer → Type 0
AreOffers = AreAll callsign_cmp offer_key offer_row (λ r. r.offers) offers_table

abbrev pub AreReports : Trees → List Report → Type 0
AreReports = AreAll numbered_cmp report_key report_row (λ r. r.reports) reports_table

-- ---- the rows of several
-- The tables that are no history have these rows. Of the history there are none yet.
pub record AreBeside (trees : Trees) (x : DivisionRows) : Type 0 where
  pub divisions : AreDivisions trees x.divisions
  pub incidents : AreIncidents trees x.incidents
  pub vehicles : AreVehicles trees x.vehicles
  pub assignments : AreAssignments trees x.assignments
  pub points : ArePoints trees x.points
  pub loans : AreLoans trees x.loans
  pub offers : AreOffers trees x.offers
  pub no_calls : x.calls ≡ []

-- All tables of rows have these.
pub record AreRows (trees : Trees) (x : DivisionRows) : Type 0 where
  pub divisions : AreDivisions trees x.divisions
  pub incidents : AreIncidents trees x.incidents
  pub calls : AreCalls trees x.calls
  pub vehicles : AreVehicles trees x.vehicles
  pub turns : AreTurns trees x.turns
  pub assignments : AreAssignments trees x.assignments
  pub points : ArePoints trees x.points
  pub loans : AreLoans trees x.loans
  pub offers : AreOffers trees x.offers
  pub reports : AreReports trees x.reports

-- ---- what is reported of them
-- The tables have turns, reports and calls, of which this is kept, and it is reported whether each
-- agrees with the rows beside them.
pub record IsHistory (trees : Trees) (plan : List Area) (x : DivisionRows)
    (history : KeptHistory) : Type 0 where
  pub turns : List Turn
  pub reports : List Report
  pub calls : List Call
  pub turns_are : AreTurns trees turns
  pub reports_are : AreReports trees reports
  pub calls_are : AreCalls trees calls
  pub open_turns : history.turns ≡ filter (λ t. is_none t.ended) turns
  pub last_reports : history.reports ≡ filter (is_last x.vehicles) reports
  pub called : AreOpenings calls history.openings
  pub agree : history.do_agree ≡ list_all (λ t. is_none (turn_disagreement plan x t)) turns
      && (list_all (λ r. is_none (report_disagreement plan x r)) reports
      && list_all (λ c. is_none (call_disagreement x c)) calls)

-- Of these rows, which are in order, this is kept and reported.
pub record IsJudged (plan : List Area) (x : DivisionRows) (judged : JudgedRows) : Type 0 where
  pub in_order : IsInOrder (room_of plan x)
  pub kept_are : judged.rows ≡ kept x
  pub called : AreOpenings x.calls judged.openings
  pub agree : judged.do_agree ≡ histories_fit plan x

-- The tables have rows of which it is.
pub record HasJudged (trees : Trees) (plan : List Area) (judged : JudgedRows) : Type 0 where
  pub rows : DivisionRows
  pub are : AreRows trees rows
  pub is_judged : IsJudged plan rows judged

-- The connection is open, all tables number their rows, and of these this is kept and reported.
pub record IsFound (at : State) (plan : List Area) (judged : JudgedRows) : Type 0 where
  pub is_open : IsTrue at.is_open
  pub numbered : AreAllNumbered at.now.trees
  pub judged_are : HasJudged at.now.trees plan judged

-- It gets whether the rows, whichever were judged so, make a well-formed room that these
-- terminals fit.
abbrev pub ShowsSound : List Area → List Terminal → JudgedRows → Bool → Type 0
ShowsSound plan terminals judged sound =
    (x : DivisionRows) → IsJudged plan x judged
    → (IsTrue sound ↔ (IsWellFormed (room_of plan x) × AreTerminals (room_of plan x) terminals))
