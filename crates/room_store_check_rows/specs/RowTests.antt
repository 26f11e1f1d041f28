-- Whether a row agrees with the rows that it names, as tests.
use Rattle.std.specs.List.{list_all, list_any}
use Rattle.std.specs.Ordering.{nat_cmp, ordering_then}
use Rattle.std.specs.Prelude.{Bool, List, None, Option, Some, false, is_none, is_some, nat_le, not}
use Rattle.std.specs.Prelude.{true, ℕ, ◌&&◌, ◌==◌, ◌||◌}
use Rattle.std.specs.declared.cmp.Ordering.{Ordering}
use Rattle.room_place.specs.Plans.{has_division, is_division}
use Rattle.room_place.specs.declared.plans.Area.{Area}
use Rattle.room_types.specs.Codes.{is_busy, is_free, is_merged, is_offered}
use Rattle.room_types.specs.KeyedRows.{row_at}
use Rattle.room_types.specs.Keys.{callsign_cmp, loan_key, numbered_cmp, offer_key, pair_cmp}
use Rattle.room_types.specs.Keys.{point_key, report_key}
use Rattle.room_types.specs.Slices.{assignment_at, division_at, incident_at, is_active_one, turn_at}
use Rattle.room_types.specs.Slices.{vehicle_at}
use Rattle.room_types.specs.Texts.{Callsign}
use Rattle.room_types.specs.declared.slices.DivisionRows.{DivisionRows}
use Rattle.room_types.specs.declared.tables.Assignment.{Assignment}
use Rattle.room_types.specs.declared.tables.Call.{Call}
use Rattle.room_types.specs.declared.tables.Division.{Division}
use Rattle.room_types.specs.declared.tables.Incident.{Incident}
use Rattle.room_types.specs.declared.tables.Loan.{Loan}
use Rattle.room_types.specs.declared.tables.Offer.{Offer}
use Rattle.room_types.specs.declared.tables.Point.{Point}
use Rattle.room_types.specs.declared.tables.Report.{Report}
use Rattle.room_types.specs.declared.tables.Turn.{Turn}
use Rattle.room_types.specs.declared.tables.Vehicle.{Vehicle}

-- ---- look-ups
abbrev pub loan_at : Callsign → DivisionRows → Option Loan
loan_at c s = row_at callsign_cmp loan_key s.loans c

abbrev pub offer_at : Callsign → DivisionRows → Option Offer
offer_at c s = row_at callsign_cmp offer_key s.offers c

abbrev pub point_at : ℕ → ℕ → DivisionRows → Option Point
point_at d n s = row_at pair_cmp point_key s.points (d, n)

abbrev pub report_at : Callsign → ℕ → DivisionRows → Option Report
report_at c n s = row_at numbered_cmp report_key s.reports (c, n)

abbrev pub has_vehicle : DivisionRows → Callsign → Bool
has_vehicle s c = is_some (vehicle_at c s)

-- ---- a vehicle, and what stands beside it
-- lent exactly where a loan says so
abbrev pub loan_fits : Vehicle → Option Loan → Bool
loan_fits v None = v.holder == v.home
loan_fits v (Some l) = l.lender == v.home && (l.borrower == v.holder && not (v.holder == v.home))

-- offered exactly where an offer says so
abbrev pub offer_fits : List Area → Vehicle → Option Offer → Bool
offer_fits plan v None = not (is_offered v.status)
offer_fits plan v (Some o) = is_offered v.status
    && (o.lender == v.holder && (o.lender == v.home
    && (not (o.borrower == o.lender) && has_division plan o.borrower)))

-- busy exactly where it is assigned
abbrev pub assignment_fits : Vehicle → Option Assignment → Bool
assignment_fits v None = not (is_busy v.status)
assignment_fits v (Some a) = is_busy v.status && (a.division == v.holder && a.order == v.last_order)

-- the turn is there, and has not ended
abbrev pub is_open : Option Turn → Bool
is_open None = false
is_open (Some t) = is_none t.ended

-- a busy vehicle has the turn of its last order, which is open
abbrev pub has_open_turn : DivisionRows → Vehicle → Bool
has_open_turn s v =
    not (is_busy v.status) || (nat_le 1 v.last_order && is_open (turn_at v.callsign v.last_order s))

-- the last report is there, where there is any
abbrev pub has_last_report : DivisionRows → Vehicle → Bool
has_last_report s v = not (nat_le 1 v.last_report) || is_some (report_at v.callsign v.last_report s)

-- a post is a point of the holder, of a free vehicle
abbrev pub has_post : DivisionRows → Vehicle → Option ℕ → Bool
has_post s v None = true
has_post s v (Some n) = is_free v.status && is_some (point_at v.holder n s)

abbrev pub vehicle_fits : List Area → DivisionRows → Vehicle → Bool
vehicle_fits plan s v =
    has_division plan v.home
    && (has_division plan v.holder
    && (loan_fits v (loan_at v.callsign s)
    && (offer_fits plan v (offer_at v.callsign s)
    && (assignment_fits v (assignment_at v.callsign s)
    && (has_open_turn s v
    && (has_last_report s v
    && has_post s v v.post))))))

-- ---- turns and reports
-- an open turn is of the last order, of the holder, and of a busy vehicle
abbrev pub open_fits : Vehicle → Turn → Option ℕ → Bool
open_fits v t None = t.order == v.last_order && (t.division == v.holder && is_busy v.status)
open_fits v t (Some at) = not (t.order == v.last_order) || not (is_busy v.status)

-- orders are numbered up to the vehicle's last
abbrev pub is_in_turn : Turn → Option Vehicle → Bool
is_in_turn t None = false
is_in_turn t (Some v) = nat_le 1 t.order && (nat_le t.order v.last_order && open_fits v t t.ended)

-- the vehicle's assignment of that order is for the same incident
abbrev pub is_as_assigned : Turn → Option Assignment → Bool
is_as_assigned t None = true
is_as_assigned t (Some a) = not (t.order == a.order) || t.incident == a.incident

-- an open turn is for an active incident
abbrev pub is_over : DivisionRows → Turn → Bool
is_over s t = is_some t.ended || is_active_one (incident_at t.division t.incident s)

abbrev pub turn_fits : List Area → DivisionRows → Turn → Bool
turn_fits plan s t =
    has_division plan t.division
    && (is_in_turn t (vehicle_at t.callsign s)
    && (is_as_assigned t (assignment_at t.callsign s)
    && is_over s t))

-- reports are numbered up to the vehicle's last
abbrev pub is_numbered : Report → Option Vehicle → Bool
is_numbered x None = false
is_numbered x (Some v) = nat_le 1 x.number && nat_le x.number v.last_report

abbrev pub report_fits : List Area → DivisionRows → Report → Bool
report_fits plan s x = has_division plan x.division && is_numbered x (vehicle_at x.callsign s)

-- ---- calls and incidents
-- a call is of an incident that is not merged, and was opened no later
abbrev pub is_of : Call → Option Incident → Bool
is_of c None = false
is_of c (Some i) = not (is_merged i.state) && nat_le i.opened c.at

abbrev pub call_fits : DivisionRows → Call → Bool
call_fits s c = is_of c (incident_at c.division c.incident s)

-- an incident's number was given by its division
abbrev pub is_given : Incident → Option Division → Bool
is_given i None = false
is_given i (Some d) = nat_le 1 i.number && nat_le i.number d.last_incident

abbrev pub incident_fits : DivisionRows → Incident → Bool
incident_fits s i = is_given i (division_at i.division s)

-- the call is of the incident, and of the moment of its opening
abbrev pub opens : Incident → Call → Bool
opens i c = i.division == c.division && (i.number == c.incident && i.opened == c.at)

-- what a call gives: its incident, and a moment
abbrev pub opening_of : Call → ℕ × ℕ × ℕ
opening_of c = (c.division, c.incident, c.at)

-- by division, incident and moment
abbrev pub opening_cmp : ℕ × ℕ × ℕ → ℕ × ℕ × ℕ → Ordering
opening_cmp x y =
    ordering_then (ordering_then (nat_cmp x.0 y.0) (nat_cmp x.1 y.1)) (nat_cmp x.2 y.2)

abbrev pub is_opened : DivisionRows → Incident → Bool
is_opened s i = is_merged i.state || list_any (opens i) s.calls

-- ---- the plan
-- the area's division has its row
abbrev pub has_row : DivisionRows → Area → Bool
has_row s a = is_division a.division && is_some (division_at a.division s)

-- the plan's divisions and no others have their rows, and points are theirs
abbrev pub divisions_fit : List Area → DivisionRows → Bool
divisions_fit plan s =
    list_all (has_row s) plan
    && (list_all (λ d. has_division plan d.number) s.divisions
    && list_all (λ p. has_division plan p.division) s.points)

-- vehicles agree with what stands beside them, and nothing stands without one
abbrev pub fleet_fits : List Area → DivisionRows → Bool
fleet_fits plan s =
    list_all (vehicle_fits plan s) s.vehicles
    && (list_all (λ l. has_vehicle s l.callsign) s.loans
    && (list_all (λ o. has_vehicle s o.callsign) s.offers
    && list_all (λ a. has_vehicle s a.callsign) s.assignments))

-- all rows agree, but for the openings of incidents
abbrev pub rows_fit : List Area → DivisionRows → Bool
rows_fit plan s =
    divisions_fit plan s
    && (fleet_fits plan s
    && (list_all (turn_fits plan s) s.turns
    && (list_all (report_fits plan s) s.reports
    && (list_all (call_fits s) s.calls
    && list_all (incident_fits s) s.incidents))))
