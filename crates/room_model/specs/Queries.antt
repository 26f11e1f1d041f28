-- What a decision asks of the room. Each speaks of one division's rows, or of one vehicle's.
use Rattle.std.specs.List.{list_any}
use Rattle.std.specs.Ordering.{nat_cmp}
use Rattle.std.specs.Prelude.{Bool, List, None, Option, Some, [], false, filter, int_le, int_lt}
use Rattle.std.specs.Prelude.{is_none, is_some, length, max, nat_le, nat_lt, not, pos, ℕ, ℤ, ◌&&◌}
use Rattle.std.specs.Prelude.{◌==◌, ◌||◌, ◌∷◌}
use Rattle.room_place.specs.Choice.{first, least}
use Rattle.room_place.specs.Places.{distance}
use Rattle.room_place.specs.declared.places.Place.{Place}
use Rattle.room_types.specs.KeyedRows.{keep, row_at}
use Rattle.room_types.specs.Keys.{assignment_key, call_key, callsign_cmp, division_key}
use Rattle.room_types.specs.Keys.{incident_key, loan_key, numbered_cmp, offer_key, owns_loan}
use Rattle.room_types.specs.Keys.{owns_offer, pair_cmp, point_key, report_key, same_callsign}
use Rattle.room_types.specs.Keys.{vehicle_key}
use Rattle.room_types.specs.declared.codes.Kind.{Kind}
use Rattle.room_types.specs.declared.tables.Assignment.{Assignment}
use Rattle.room_types.specs.declared.tables.Call.{Call}
use Rattle.room_types.specs.declared.tables.Division.{Division}
use Rattle.room_types.specs.declared.tables.Incident.{Incident}
use Rattle.room_types.specs.declared.tables.Loan.{Loan}
use Rattle.room_types.specs.declared.tables.Offer.{Offer}
use Rattle.room_types.specs.declared.tables.Point.{Point}
use Rattle.room_types.specs.declared.tables.Report.{Report}
use Rattle.room_types.specs.declared.tables.Turn.{Turn}
use Rattle.room_types.specs.declared.tables.Vehicle.{Vehicle}
use Rattle.room_types.specs.Texts.{Callsign}
use Rattle.room_types.specs.Codes.{is_active, is_free, is_merged, same_kind}
use Rattle.room_model.specs.Moments.{age, link_metres, link_seconds}
use Rattle.room_model.specs.Room.{Room}

-- ---- vehicles and what stands beside them
-- the vehicle, where division d holds it
unfoldable pub held : ℕ → Callsign → Room → Option Vehicle
held d c r = keep (λ v. v.holder == d) (row_at callsign_cmp vehicle_key r.vehicles c)

-- the vehicles that division d holds
unfoldable pub all_held : ℕ → Room → List Vehicle
all_held d r = filter (λ v. v.holder == d) r.vehicles

-- the vehicle's loan, where division d is the lender
unfoldable pub lent : ℕ → Callsign → Room → Option Loan
lent d c r = keep (λ l. l.lender == d) (row_at callsign_cmp loan_key r.loans c)

-- the vehicle's loan, where division d is the borrower
unfoldable pub borrowed : ℕ → Callsign → Room → Option Loan
borrowed d c r = keep (λ l. l.borrower == d) (row_at callsign_cmp loan_key r.loans c)

-- the loans with division d as lender or borrower
unfoldable pub loans_of : ℕ → Room → List Loan
loans_of d r = filter (owns_loan d) r.loans

-- the vehicle's offer, where division d is the lender
unfoldable pub offered_by : ℕ → Callsign → Room → Option Offer
offered_by d c r = keep (λ o. o.lender == d) (row_at callsign_cmp offer_key r.offers c)

-- the vehicle's offer, where division d is the borrower
unfoldable pub offered_to : ℕ → Callsign → Room → Option Offer
offered_to d c r = keep (λ o. o.borrower == d) (row_at callsign_cmp offer_key r.offers c)

-- the offers with division d as lender or borrower
unfoldable pub offers_of : ℕ → Room → List Offer
offers_of d r = filter (owns_offer d) r.offers

-- the vehicle's assignment in the division
unfoldable pub assignment_of : ℕ → Callsign → Room → Option Assignment
assignment_of d c r =
    keep (λ a. a.division == d) (row_at callsign_cmp assignment_key r.assignments c)

-- the vehicle's open turn in the division
unfoldable pub open_turn : ℕ → Callsign → Room → Option Turn
open_turn d c r =
    first (filter (λ t. t.division == d && (same_callsign t.callsign c && is_none t.ended)) r.turns)

-- ---- incidents
unfoldable pub incident_of : ℕ → ℕ → Room → Option Incident
incident_of d n r = row_at pair_cmp incident_key r.incidents (d, n)

unfoldable pub active_incidents : ℕ → Room → List Incident
active_incidents d r = filter (λ i. i.division == d && is_active i.state) r.incidents

-- the incident was opened from one moment on and before another
abbrev pub is_opened_within : ℤ → ℤ → Incident → Bool
is_opened_within from to i = int_le from (pos i.opened) && int_lt (pos i.opened) to

-- the active and closed incidents that were opened then
unfoldable pub incidents_opened : ℕ → ℤ → ℤ → Room → List Incident
incidents_opened d from to r = filter
    (λ i. i.division == d && (not (is_merged i.state) && is_opened_within from to i))
    r.incidents

-- those that are over, so closed or merged, and were opened then
unfoldable pub incidents_over : ℕ → ℤ → ℤ → Room → List Incident
incidents_over d from to r = filter
    (λ i. i.division == d && (not (is_active i.state) && is_opened_within from to i))
    r.incidents

-- the calls that belong to an incident now
unfoldable pub calls_of : ℕ → ℕ → Room → List Call
calls_of d n r = filter (λ c. c.division == d && c.incident == n) r.calls

-- one of these calls was given the incident of this number: when the call came, it opened that
-- incident, or was linked to it
abbrev pub is_given : List Call → ℕ → Bool
is_given calls n = list_any (λ c. c.given == n) calls

-- the turns of the vehicles that were sent to an incident, or to one that was merged into it: its
-- calls belong to the other then, and keep the number that they were given
unfoldable pub turns_of : ℕ → ℕ → Room → List Turn
turns_of d n r =
    filter (λ t. t.division == d && (t.incident == n || is_given (calls_of d n r) t.incident)) r.turns

-- the vehicle's turns in the division
unfoldable pub turns_by : ℕ → Callsign → Room → List Turn
turns_by d c r = filter (λ t. t.division == d && same_callsign c t.callsign) r.turns

-- the number that the division gave last
unfoldable pub last_number : ℕ → Room → Option Division
last_number d r = row_at nat_cmp division_key r.divisions d

-- the turn counts for what an incident got
abbrev pub counts : Turn → Bool
counts t = is_none t.ended || (is_some t.scene || (is_some t.left || is_some t.hospital))

-- how many turns of the kind the incident has got
unfoldable pub served : ℕ → ℕ → Kind → Room → ℕ
served d n k r = length (filter
    (λ t. t.division == d && (t.incident == n && (same_kind t.kind k && counts t)))
    r.turns)

-- the incident has an open turn
unfoldable pub is_attended : ℕ → ℕ → Room → Bool
is_attended d n r = list_any (λ t. t.division == d && (t.incident == n && is_none t.ended)) r.turns

-- an active incident of the division, near and young enough
abbrev pub is_candidate : ℕ → Place → ℕ → Incident → Bool
is_candidate d p at i =
    i.division == d
    && (is_active i.state
    && (nat_le (distance i.place p) link_metres && nat_le (age at i.opened) link_seconds))

-- by distance, and then by number
abbrev pub is_nearer : Place → Incident → Incident → Bool
is_nearer p i j =
    nat_lt (distance i.place p) (distance j.place p)
    || (distance i.place p == distance j.place p && nat_lt i.number j.number)

-- the incident that a call at this place is linked to
unfoldable pub link_target : ℕ → Place → ℕ → Room → Option Incident
link_target d p at r = least (is_nearer p) (filter (is_candidate d p at) r.incidents)

-- ---- points
unfoldable pub point_of : ℕ → ℕ → Room → Option Point
point_of d n r = row_at pair_cmp point_key r.points (d, n)

unfoldable pub points_of : ℕ → Room → List Point
points_of d r = filter (λ p. p.division == d) r.points

-- held, free, and within its shift
abbrev pub is_eligible : ℕ → ℕ → Vehicle → Bool
is_eligible d at v = v.holder == d && (is_free v.status && nat_lt at v.shift_end)

abbrev pub has_post : ℕ → Option ℕ → Bool
has_post n None = false
has_post n (Some p) = p == n

-- the vehicles that hold a point
unfoldable pub holders : ℕ → ℕ → ℕ → Room → List Vehicle
holders d n at r = filter (λ v. is_eligible d at v && has_post n v.post) r.vehicles

-- ---- reports
-- the vehicle's report of a number, where division d owns it
unfoldable pub report_of : ℕ → Callsign → ℕ → Room → Option Report
report_of d c n r = keep (λ x. x.division == d) (row_at numbered_cmp report_key r.reports (c, n))

-- the vehicle's reports that division d owns
unfoldable pub reports_of : ℕ → Callsign → Room → List Report
reports_of d c r = filter (λ x. x.division == d && same_callsign c x.callsign) r.reports

-- ---- a position's calls
-- the greatest serial of calls, 0 where there are none
abbrev pub greatest_serial : List Call → ℕ
greatest_serial [] = 0
greatest_serial (c ∷ cs) = max c.serial (greatest_serial cs)

-- that of a position's calls
unfoldable pub last_serial : ℕ → Room → ℕ
last_serial p r = greatest_serial (filter (λ c. c.position == p) r.calls)

-- ---- by key, whichever division owns the row
unfoldable pub kept_call : ℕ → ℕ → Room → Option Call
kept_call p s r = row_at pair_cmp call_key r.calls (p, s)

unfoldable pub kept_report : Callsign → ℕ → Room → Option Report
kept_report c n r = row_at numbered_cmp report_key r.reports (c, n)

unfoldable pub vehicle_at : Callsign → Room → Option Vehicle
vehicle_at c r = row_at callsign_cmp vehicle_key r.vehicles c

unfoldable pub assignment_at : Callsign → Room → Option Assignment
assignment_at c r = row_at callsign_cmp assignment_key r.assignments c

unfoldable pub loan_at : Callsign → Room → Option Loan
loan_at c r = row_at callsign_cmp loan_key r.loans c

unfoldable pub offer_at : Callsign → Room → Option Offer
offer_at c r = row_at callsign_cmp offer_key r.offers c
