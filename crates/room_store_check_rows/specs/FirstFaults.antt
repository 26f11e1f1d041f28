-- What the search reports of each row: the first of its tests that fails.
use Rattle.std.specs.BTreeSet.{BTreeSet, contains}
use Rattle.std.specs.Option.{option_or}
use Rattle.std.specs.Prelude.{Bool, List, None, Option, Some, [], cond, nat_le, not, option_map, ℕ}
use Rattle.std.specs.Prelude.{◌&&◌, ◌||◌, ◌∷◌}
use Rattle.room_place.specs.Plans.{has_division}
use Rattle.room_place.specs.declared.plans.Area.{Area}
use Rattle.room_types.specs.Codes.{is_merged}
use Rattle.room_types.specs.Slices.{assignment_at, division_at, incident_at, vehicle_at}
use Rattle.room_types.specs.declared.slices.DivisionRows.{DivisionRows}
use Rattle.room_types.specs.declared.tables.Assignment.{Assignment}
use Rattle.room_types.specs.declared.tables.Call.{Call}
use Rattle.room_types.specs.declared.tables.Division.{Division}
use Rattle.room_types.specs.declared.tables.Incident.{Incident}
use Rattle.room_types.specs.declared.tables.Loan.{Loan}
use Rattle.room_types.specs.declared.tables.Offer.{Offer}
use Rattle.room_types.specs.declared.tables.Point.{Point}
use Rattle.room_types.specs.declared.tables.Report.{Report}
use Rattle.room_types.specs.declared.tables.Turn.{Turn}
use Rattle.room_types.specs.declared.tables.Vehicle.{Vehicle}
use Rattle.room_store_check_rows.specs.declared.disagreements.CallFault.TheVariants as call
use Rattle.room_store_check_rows.specs.declared.disagreements.CallFault.{CallFault}
use Rattle.room_store_check_rows.specs.declared.disagreements.Disagreement.TheVariants as wrong
use Rattle.room_store_check_rows.specs.declared.disagreements.Disagreement.{Disagreement}
use Rattle.room_store_check_rows.specs.declared.disagreements.IncidentFault.TheVariants as incident
use Rattle.room_store_check_rows.specs.declared.disagreements.ReportFault.TheVariants as report
use Rattle.room_store_check_rows.specs.declared.disagreements.ReportFault.{ReportFault}
use Rattle.room_store_check_rows.specs.declared.disagreements.TurnFault.TheVariants as turn
use Rattle.room_store_check_rows.specs.declared.disagreements.TurnFault.{TurnFault}
use Rattle.room_store_check_rows.specs.declared.disagreements.VehicleFault.TheVariants as vehicle
use Rattle.room_store_check_rows.specs.declared.disagreements.VehicleFault.{VehicleFault}
use Rattle.room_store_check_rows.specs.RowTests.{assignment_fits, has_last_report, has_open_turn}
use Rattle.room_store_check_rows.specs.RowTests.{has_post, has_row, has_vehicle, is_as_assigned}
use Rattle.room_store_check_rows.specs.RowTests.{is_given, is_numbered, is_opened, is_over, loan_at}
use Rattle.room_store_check_rows.specs.RowTests.{loan_fits, offer_at, offer_fits, open_fits}
use Rattle.room_store_check_rows.specs.RowTests.{opening_cmp}

-- the fault, unless the row fits
abbrev pub unless : {X : Type 0} → Bool → X → Option X
unless fits x = cond fits None (Some x)

-- what the first row gives that gives anything
abbrev pub first_of : {R X : Type 0} → (R → Option X) → List R → Option X
first_of f [] = None
first_of f (x ∷ xs) = option_or (f x) (first_of f xs)

-- ---- divisions and points
abbrev pub area_disagreement : DivisionRows → Area → Option Disagreement
area_disagreement s a = unless (has_row s a) (wrong.NoDivision a.division)

abbrev pub division_disagreement : List Area → Division → Option Disagreement
division_disagreement plan d = unless (has_division plan d.number) (wrong.Division d.number)

abbrev pub point_disagreement : List Area → Point → Option Disagreement
point_disagreement plan p = unless (has_division plan p.division) (wrong.Point p.division p.number)

-- ---- vehicles
abbrev pub loan_fault : Vehicle → Option Loan → Option VehicleFault
loan_fault v None = unless (loan_fits v None) vehicle.NoLoan
loan_fault v (Some l) = unless (loan_fits v (Some l)) vehicle.Loan

abbrev pub offer_fault : List Area → Vehicle → Option Offer → Option VehicleFault
offer_fault plan v None = unless (offer_fits plan v None) vehicle.NoOffer
offer_fault plan v (Some o) = unless (offer_fits plan v (Some o)) vehicle.Offer

abbrev pub assignment_fault : Vehicle → Option Assignment → Option VehicleFault
assignment_fault v None = unless (assignment_fits v None) vehicle.NoAssignment
assignment_fault v (Some a) = unless (assignment_fits v (Some a)) vehicle.Assignment

abbrev pub vehicle_fault : List Area → DivisionRows → Vehicle → Option VehicleFault
vehicle_fault plan s v =
    option_or (option_or (option_or (option_or (option_or (option_or (option_or
    (unless (has_division plan v.home) vehicle.Home)
    (unless (has_division plan v.holder) vehicle.Holder))
    (loan_fault v (loan_at v.callsign s)))
    (offer_fault plan v (offer_at v.callsign s)))
    (assignment_fault v (assignment_at v.callsign s)))
    (unless (has_open_turn s v) vehicle.NoTurn))
    (unless (has_last_report s v) vehicle.NoReport))
    (unless (has_post s v v.post) vehicle.Post)

abbrev pub vehicle_disagreement : List Area → DivisionRows → Vehicle → Option Disagreement
vehicle_disagreement plan s v =
    option_map (wrong.Vehicle v.callsign v.status) (vehicle_fault plan s v)

-- ---- what stands beside them
abbrev pub loan_disagreement : DivisionRows → Loan → Option Disagreement
loan_disagreement s l = unless (has_vehicle s l.callsign) (wrong.Loan l.callsign)

abbrev pub offer_disagreement : DivisionRows → Offer → Option Disagreement
offer_disagreement s o = unless (has_vehicle s o.callsign) (wrong.Offer o.callsign)

abbrev pub assignment_disagreement : DivisionRows → Assignment → Option Disagreement
assignment_disagreement s a = unless (has_vehicle s a.callsign) (wrong.Assignment a.callsign)

-- ---- turns and reports
abbrev pub open_fault : Vehicle → Turn → Option ℕ → Option TurnFault
open_fault v t None = unless (open_fits v t None) turn.Open
open_fault v t (Some at) = unless (open_fits v t (Some at)) turn.Ended

abbrev pub order_fault : Turn → Option Vehicle → Option TurnFault
order_fault t None = Some turn.Order
order_fault t (Some v) = option_or
    (unless (nat_le 1 t.order && nat_le t.order v.last_order) turn.Order)
    (open_fault v t t.ended)

abbrev pub turn_fault : List Area → DivisionRows → Turn → Option TurnFault
turn_fault plan s t =
    option_or (option_or (option_or
    (unless (has_division plan t.division) turn.Division)
    (order_fault t (vehicle_at t.callsign s)))
    (unless (is_as_assigned t (assignment_at t.callsign s)) turn.Incident))
    (unless (is_over s t) turn.NotActive)

abbrev pub turn_disagreement : List Area → DivisionRows → Turn → Option Disagreement
turn_disagreement plan s t = option_map (wrong.Turn t.callsign t.order) (turn_fault plan s t)

abbrev pub report_fault : List Area → DivisionRows → Report → Option ReportFault
report_fault plan s x = option_or
    (unless (has_division plan x.division) report.Division)
    (unless (is_numbered x (vehicle_at x.callsign s)) report.Number)

abbrev pub report_disagreement : List Area → DivisionRows → Report → Option Disagreement
report_disagreement plan s x = option_map (wrong.Report x.callsign x.number) (report_fault plan s x)

-- ---- calls and incidents
abbrev pub call_fault : Call → Option Incident → Option CallFault
call_fault c None = Some call.NoIncident
call_fault c (Some i) = option_or
    (unless (not (is_merged i.state)) call.Merged)
    (unless (nat_le i.opened c.at) call.Early)

abbrev pub call_disagreement : DivisionRows → Call → Option Disagreement
call_disagreement s c =
    option_map (wrong.Call c.position c.serial) (call_fault c (incident_at c.division c.incident s))

abbrev pub incident_disagreement : DivisionRows → Incident → Option Disagreement
incident_disagreement s i = unless (is_given i (division_at i.division s))
    (wrong.Incident i.division i.number incident.Number)

abbrev pub opening_fault : DivisionRows → Incident → Option Disagreement
opening_fault s i = unless (is_opened s i) (wrong.Incident i.division i.number incident.NoCall)

-- the same by what the calls give
abbrev pub uncalled_fault : BTreeSet (ℕ × ℕ × ℕ) → Incident → Option Disagreement
uncalled_fault openings i = unless (is_merged i.state
    || contains opening_cmp openings (i.division, i.number, i.opened))
    (wrong.Incident i.division i.number incident.NoCall)

-- ---- all tables, one after another
-- divisions and points, and vehicles with what stands beside them
abbrev pub standing_disagreement : List Area → DivisionRows → Option Disagreement
standing_disagreement plan s =
    option_or (option_or (option_or (option_or (option_or (option_or
    (first_of (area_disagreement s) plan)
    (first_of (division_disagreement plan) s.divisions))
    (first_of (point_disagreement plan) s.points))
    (first_of (vehicle_disagreement plan s) s.vehicles))
    (first_of (loan_disagreement s) s.loans))
    (first_of (offer_disagreement s) s.offers))
    (first_of (assignment_disagreement s) s.assignments)

abbrev pub rows_disagreement : List Area → DivisionRows → Option Disagreement
rows_disagreement plan s =
    option_or (option_or (option_or (option_or
    (standing_disagreement plan s)
    (first_of (turn_disagreement plan s) s.turns))
    (first_of (report_disagreement plan s) s.reports))
    (first_of (call_disagreement s) s.calls))
    (first_of (incident_disagreement s) s.incidents)

-- what is wrong first
abbrev pub first_disagreement : List Area → DivisionRows → Option Disagreement
first_disagreement plan s =
    option_or (rows_disagreement plan s) (first_of (opening_fault s) s.incidents)
