-- What each disagreement says of a room.
use Rattle.std.specs.Ordering.{nat_cmp}
use Rattle.std.specs.Prelude.{IfSome, List, None, Option, Some, false, is_some, true, ℕ, ◌<◌, ◌≡◌}
use Rattle.std.specs.Prelude.{◌≤◌}
use Rattle.room_place.specs.Choice.{Among}
use Rattle.room_place.specs.Plans.{has_division}
use Rattle.room_types.specs.Codes.{is_busy, is_merged}
use Rattle.room_types.specs.KeyedRows.{row_at}
use Rattle.room_types.specs.Keys.{assignment_key, call_key, callsign_cmp, division_key}
use Rattle.room_types.specs.Keys.{incident_key, loan_key, numbered_cmp, offer_key, pair_cmp}
use Rattle.room_types.specs.Keys.{point_key, report_key, turn_key, vehicle_key}
use Rattle.room_types.specs.Texts.{Callsign}
use Rattle.room_types.specs.declared.tables.Call.{Call}
use Rattle.room_types.specs.declared.tables.Incident.{Incident}
use Rattle.room_types.specs.declared.tables.Report.{Report}
use Rattle.room_types.specs.declared.tables.Turn.{Turn}
use Rattle.room_types.specs.declared.tables.Vehicle.{Vehicle}
use Rattle.room_model.specs.Room.{Room}
use Rattle.room_model.specs.RoomAgreements.{AssignmentAgrees, IsWellFormed, LastAgrees, LoanAgrees}
use Rattle.room_model.specs.RoomAgreements.{NumberAgrees, OfferAgrees, OpenAgrees, OpenedAgrees}
use Rattle.room_model.specs.RoomAgreements.{PostAgrees, ReportAgrees, SameIncident, TurnIsActive}
use Rattle.room_store_check_rows.specs.declared.disagreements.CallFault.TheVariants as call
use Rattle.room_store_check_rows.specs.declared.disagreements.CallFault.{CallFault}
use Rattle.room_store_check_rows.specs.declared.disagreements.Disagreement.TheVariants as wrong
use Rattle.room_store_check_rows.specs.declared.disagreements.Disagreement.{Disagreement}
use Rattle.room_store_check_rows.specs.declared.disagreements.IncidentFault.TheVariants as incident
use Rattle.room_store_check_rows.specs.declared.disagreements.IncidentFault.{IncidentFault}
use Rattle.room_store_check_rows.specs.declared.disagreements.ReportFault.TheVariants as report
use Rattle.room_store_check_rows.specs.declared.disagreements.ReportFault.{ReportFault}
use Rattle.room_store_check_rows.specs.declared.disagreements.TurnFault.TheVariants as turn
use Rattle.room_store_check_rows.specs.declared.disagreements.TurnFault.{TurnFault}
use Rattle.room_store_check_rows.specs.declared.disagreements.VehicleFault.TheVariants as vehicle
use Rattle.room_store_check_rows.specs.declared.disagreements.VehicleFault.{VehicleFault}

-- the table has a row of this key, of which this holds
pub record HasRow {R K : Type 0} (key : R → K) (rows : List R) (k : K)
    (Holds : R → Type 0) : Type 0 where
  pub row : R
  pub there : Among row rows
  pub named : key row ≡ k
  pub holds : Holds row

-- there is no such row, and what has to agree with it needs one
abbrev pub IsMissing : {X : Type 0} → (Option X → Type 0) → Option X → Type 0
IsMissing Agrees o = (o ≡ None) × ¬ Agrees None

-- there is such a row, and it does not agree
abbrev pub IsOff : {X : Type 0} → (Option X → Type 0) → Option X → Type 0
IsOff {X} Agrees o = (x : X) × (o ≡ Some x) × ¬ Agrees (Some x)

-- the turn is there, and has not ended
abbrev pub IsOpen : Option Turn → Type 0
IsOpen None = ⊥
IsOpen (Some t) = t.ended ≡ None

abbrev pub IsVehicleFault : Room → Vehicle → VehicleFault → Type 0
IsVehicleFault r v vehicle.Home = has_division r.plan v.home ≡ false
IsVehicleFault r v vehicle.Holder = has_division r.plan v.holder ≡ false
IsVehicleFault r v vehicle.NoLoan =
    IsMissing (LoanAgrees (Some v)) (row_at callsign_cmp loan_key r.loans v.callsign)
IsVehicleFault r v vehicle.Loan =
    IsOff (LoanAgrees (Some v)) (row_at callsign_cmp loan_key r.loans v.callsign)
IsVehicleFault r v vehicle.NoOffer =
    IsMissing (OfferAgrees r.plan (Some v)) (row_at callsign_cmp offer_key r.offers v.callsign)
IsVehicleFault r v vehicle.Offer =
    IsOff (OfferAgrees r.plan (Some v)) (row_at callsign_cmp offer_key r.offers v.callsign)
IsVehicleFault r v vehicle.NoAssignment = IsMissing (AssignmentAgrees (Some v))
    (row_at callsign_cmp assignment_key r.assignments v.callsign)
IsVehicleFault r v vehicle.Assignment =
    IsOff (AssignmentAgrees (Some v)) (row_at callsign_cmp assignment_key r.assignments v.callsign)
IsVehicleFault r v vehicle.NoTurn =
    (is_busy v.status ≡ true)
    × ¬ ((1 ≤ v.last_order) × IsOpen (row_at numbered_cmp turn_key r.turns
    (v.callsign, v.last_order)))
IsVehicleFault r v vehicle.NoReport = ¬ LastAgrees r (Some v)
IsVehicleFault r v vehicle.Post = ¬ PostAgrees r (Some v)

-- a vehicle was given orders of these numbers
abbrev pub WasGiven : ℕ → Option Vehicle → Type 0
WasGiven n None = ⊥
WasGiven n (Some v) = (1 ≤ n) × (n ≤ v.last_order)

-- the turn's vehicle is there, and it does not agree with it in being open or ended
abbrev pub IsOddly : Room → Turn → Type 0
IsOddly r t = IfSome (row_at callsign_cmp vehicle_key r.vehicles t.callsign)
    (λ v. ¬ OpenAgrees v t.order t t.ended)

abbrev pub IsTurnFault : Room → Turn → TurnFault → Type 0
IsTurnFault r t turn.Division = has_division r.plan t.division ≡ false
IsTurnFault r t turn.Order =
    ¬ WasGiven t.order (row_at callsign_cmp vehicle_key r.vehicles t.callsign)
IsTurnFault r t turn.Open = (t.ended ≡ None) × IsOddly r t
IsTurnFault r t turn.Ended = (is_some t.ended ≡ true) × IsOddly r t
IsTurnFault r t turn.Incident =
    ¬ SameIncident (row_at callsign_cmp assignment_key r.assignments t.callsign) (Some t)
IsTurnFault r t turn.NotActive = ¬ TurnIsActive r (Some t)

abbrev pub IsReportFault : Room → Report → ReportFault → Type 0
IsReportFault r x report.Division = has_division r.plan x.division ≡ false
IsReportFault r x report.Number =
    ¬ ReportAgrees (row_at callsign_cmp vehicle_key r.vehicles x.callsign) x.number (Some x)

abbrev pub IsCallFault : Room → Call → CallFault → Type 0
IsCallFault r c call.NoIncident =
    row_at pair_cmp incident_key r.incidents (c.division, c.incident) ≡ None
IsCallFault r c call.Merged = (i : Incident)
    × (row_at pair_cmp incident_key r.incidents (c.division, c.incident) ≡ Some i)
    × (is_merged i.state ≡ true)
IsCallFault r c call.Early = (i : Incident)
    × (row_at pair_cmp incident_key r.incidents (c.division, c.incident) ≡ Some i)
    × (c.at < i.opened)

abbrev pub IsIncidentFault : Room → Incident → IncidentFault → Type 0
IsIncidentFault r i incident.Number = ¬ NumberAgrees r (Some i)
IsIncidentFault r i incident.NoCall = ¬ OpenedAgrees r (Some i)

-- no vehicle has the callsign
abbrev pub IsOfNone : Room → Callsign → Type 0
IsOfNone r c = row_at callsign_cmp vehicle_key r.vehicles c ≡ None

-- The room has the row that is named, and what is said of it holds.
abbrev pub IsWrong : Room → Disagreement → Type 0
IsWrong r (wrong.NoDivision d) =
    (has_division r.plan d ≡ true) × (row_at nat_cmp division_key r.divisions d ≡ None)
IsWrong r (wrong.Division d) =
    HasRow division_key r.divisions d (λ row. has_division r.plan d ≡ false)
IsWrong r (wrong.Point d n) =
    HasRow point_key r.points (d, n) (λ row. has_division r.plan d ≡ false)
IsWrong r (wrong.Vehicle c status fault) =
    HasRow vehicle_key r.vehicles c (λ v. (v.status ≡ status) × IsVehicleFault r v fault)
IsWrong r (wrong.Loan c) = HasRow loan_key r.loans c (λ row. IsOfNone r c)
IsWrong r (wrong.Offer c) = HasRow offer_key r.offers c (λ row. IsOfNone r c)
IsWrong r (wrong.Assignment c) = HasRow assignment_key r.assignments c (λ row. IsOfNone r c)
IsWrong r (wrong.Turn c n fault) = HasRow turn_key r.turns (c, n) (λ t. IsTurnFault r t fault)
IsWrong r (wrong.Report c n fault) =
    HasRow report_key r.reports (c, n) (λ x. IsReportFault r x fault)
IsWrong r (wrong.Call p n fault) = HasRow call_key r.calls (p, n) (λ c. IsCallFault r c fault)
IsWrong r (wrong.Incident d n fault) =
    HasRow incident_key r.incidents (d, n) (λ i. IsIncidentFault r i fault)

-- Nothing is reported of a well-formed room, and of another what holds of it.
abbrev pub Detects : Room → Option Disagreement → Type 0
Detects r None = IsWellFormed r
Detects r (Some found) = IsWrong r found × ¬ IsWellFormed r
