-- The rows of a division's share that an ask reads: what a desk asks, and a call that is placed in
-- it.
use Rattle.std.specs.Int.{abs_diff}
use Rattle.std.specs.Ordering.{is_eq}
use Rattle.std.specs.Prelude.{Bool, None, Option, Some, false, filter, is_some, nat_le, not, true}
use Rattle.std.specs.Prelude.{ℕ, ◌&&◌, ◌==◌, ◌||◌}
use Rattle.room_place.specs.declared.places.Place.{Place}
use Rattle.room_types.specs.Codes.{is_active, is_exception}
use Rattle.room_types.specs.KeyedRows.{keep}
use Rattle.room_types.specs.Keys.{numbered_cmp, owns_assignment, owns_division, owns_loan}
use Rattle.room_types.specs.Keys.{owns_offer, owns_point, owns_report, owns_vehicle, same_callsign}
use Rattle.room_types.specs.Keys.{turn_key}
use Rattle.room_types.specs.Texts.{Callsign}
use Rattle.room_types.specs.declared.asks.Ask.{Ask}
use Rattle.room_types.specs.declared.tables.Incident.{Incident}
use Rattle.room_types.specs.declared.tables.Report.{Report}
use Rattle.room_types.specs.declared.tables.Turn.{Turn}
use Rattle.room_types.specs.declared.tables.Vehicle.{Vehicle}
use Rattle.room_model.specs.Moments.{age, link_metres, link_seconds}
use Rattle.room_model.specs.Queries.{calls_of, held, incident_of, is_given, is_opened_within}
use Rattle.room_model.specs.Room.{Room}
use Rattle.room_types.specs.declared.asks.Ask.TheVariants as ask
use Rattle.room_types.specs.declared.asks.Sought.{Sought}
use Rattle.room_types.specs.declared.asks.Sought.TheVariants.{Sent}

-- ---- what stands beside the incidents
-- a call may take the division's next number
abbrev pub reads_division : Ask → Bool
reads_division (ask.Call f) = true
reads_division a = false

-- all vehicles, or the one that is named
abbrev pub reads_vehicle : Ask → Callsign → Bool
reads_vehicle (ask.Propose n) k = true
reads_vehicle ask.Vehicles k = true
reads_vehicle ask.Queue k = true
reads_vehicle ask.Points k = true
reads_vehicle (ask.Mobilise n c) k = same_callsign c k
reads_vehicle (ask.StandDown c) k = same_callsign c k
reads_vehicle (ask.Standby c p) k = same_callsign c k
reads_vehicle (ask.Duty c place until) k = same_callsign c k
reads_vehicle (ask.Off c) k = same_callsign c k
reads_vehicle (ask.Lend c to until) k = same_callsign c k
reads_vehicle (ask.Withdraw c) k = same_callsign c k
reads_vehicle (ask.Recall c) k = same_callsign c k
reads_vehicle (ask.GiveBack c) k = same_callsign c k
reads_vehicle a k = false

abbrev pub reads_assignments : Ask → Bool
reads_assignments ask.Vehicles = true
reads_assignments a = false

-- all points, or the one that is named
abbrev pub reads_point : Ask → ℕ → Bool
reads_point (ask.Propose n) m = true
reads_point ask.Queue m = true
reads_point ask.Points m = true
reads_point (ask.Standby c (Some n)) m = n == m
reads_point a m = false

-- all loans, or the named vehicle's
abbrev pub reads_loan : Ask → Callsign → Bool
reads_loan ask.Queue k = true
reads_loan ask.Loans k = true
reads_loan (ask.Mobilise n c) k = same_callsign c k
reads_loan (ask.StandDown c) k = same_callsign c k
reads_loan (ask.Standby c p) k = same_callsign c k
reads_loan (ask.Duty c place until) k = same_callsign c k
reads_loan (ask.Off c) k = same_callsign c k
reads_loan (ask.Lend c to until) k = same_callsign c k
reads_loan (ask.Withdraw c) k = same_callsign c k
reads_loan (ask.Recall c) k = same_callsign c k
reads_loan (ask.GiveBack c) k = same_callsign c k
reads_loan a k = false

-- all offers, or the named vehicle's
abbrev pub reads_offer : Ask → Callsign → Bool
reads_offer ask.Queue k = true
reads_offer ask.Offers k = true
reads_offer (ask.Withdraw c) k = same_callsign c k
reads_offer (ask.Decline c) k = same_callsign c k
reads_offer (ask.Accept c) k = same_callsign c k
reads_offer a k = false

-- the exceptions that are not cleared
abbrev pub reads_exceptions : Ask → Bool
reads_exceptions ask.Queue = true
reads_exceptions a = false

-- the report of a vehicle and a number, or all of a vehicle
abbrev pub names_report : Ask → Callsign → ℕ → Bool
names_report (ask.Clear c n) k m = same_callsign c k && n == m
names_report (ask.Reports c) k m = same_callsign c k
names_report a k m = false

-- an exception that is read, or a report that is named
abbrev pub reads_report : Ask → Report → Bool
reads_report a x =
    reads_exceptions a && is_exception x || names_report a x.callsign x.number

-- ---- incidents, with their calls and turns
-- the active incidents
abbrev pub reads_active : Ask → Bool
reads_active ask.Incidents = true
reads_active ask.Queue = true
reads_active a = false

-- the incidents that an ask names
pub data NamedIncidents : Type 0 where
  NoIncident : NamedIncidents
  OneIncident : ℕ → NamedIncidents
  TwoIncidents : ℕ → ℕ → NamedIncidents

abbrev pub incidents_named : Ask → NamedIncidents
incidents_named (ask.Incident m) = OneIncident m
incidents_named (ask.Propose m) = OneIncident m
incidents_named (ask.Mobilise m c) = OneIncident m
incidents_named (ask.Needs m needs) = OneIncident m
incidents_named (ask.Merge m into) = TwoIncidents m into
incidents_named (ask.Close m) = OneIncident m
incidents_named a = NoIncident

-- the incident is one of them
abbrev pub is_among : NamedIncidents → ℕ → Bool
is_among NoIncident n = false
is_among (OneIncident m) n = m == n
is_among (TwoIncidents m k) n = m == n || k == n

-- the ask names the incident
abbrev pub names_incident : Ask → ℕ → Bool
names_incident a n = is_among (incidents_named a) n

-- in the square whose sides lie as far from a place as a call may be from its incident: whatever
-- lies outside it is farther away
abbrev pub is_around : Place → Place → Bool
is_around p q =
    nat_le (abs_diff p.east q.east) link_metres && nat_le (abs_diff p.north q.north) link_metres

-- the ask is for seconds that its opening lies in, or a call at `at` that may be linked to it: it was
-- opened then, around the call's place
abbrev pub names_opening : Ask → ℕ → Incident → Bool
names_opening (ask.Times from to) at i = is_opened_within from to i
names_opening (ask.ClassTimes from to) at i = is_opened_within from to i
names_opening (ask.Closed from to x) at i = is_opened_within from to i
names_opening (ask.Call f) at i = nat_le (age at i.opened) link_seconds && is_around i.place f.place
names_opening a at i = false

-- active and read, named, or opened then
abbrev pub reads_incident : Ask → ℕ → Incident → Bool
reads_incident a at i =
    reads_active a && is_active i.state
    || (names_incident a i.number || names_opening a at i)

-- the ask reads the turns of the division's incident of this number
abbrev pub reads_number : ℕ → Ask → Room → ℕ → Bool
reads_number d a r n =
    reads_active a && is_some (keep (λ i. is_active i.state) (incident_of d n r))
    || names_incident a n

-- and its calls
abbrev pub reads_calls : Ask → Bool
reads_calls ask.Incidents = true
reads_calls (ask.Incident m) = true
reads_calls (ask.Merge m into) = true
reads_calls a = false

-- the turn is of the vehicle's last order, where it had an order
abbrev pub is_last_turn : Option Vehicle → Turn → Bool
is_last_turn None t = false
is_last_turn (Some v) t =
    nat_le 1 v.last_order && is_eq (numbered_cmp (v.callsign, v.last_order) (turn_key t))

-- the turn is one of a vehicle by which incidents are sought
abbrev pub is_sought_by : Sought → Turn → Bool
is_sought_by (Sent c) t = same_callsign c t.callsign
is_sought_by x t = false

-- the turn of the named vehicle's last order, one of another incident, which was merged into the
-- named one, or one of the vehicle by which incidents are sought
abbrev pub names_turn : ℕ → Ask → Room → Turn → Bool
names_turn d (ask.StandDown c) r t = is_last_turn (held d c r) t
names_turn d (ask.Incident n) r t =
    not (n == t.incident) && is_given (calls_of d n r) t.incident
names_turn d (ask.Closed from to x) r t = is_sought_by x.sought t
names_turn d a r t = false

-- the rows of division d's share that an ask at a moment reads
abbrev pub working : ℕ → Ask → ℕ → Room → Room
working d a at r = record {
  plan = r.plan;
  divisions = filter (λ x. owns_division d x && reads_division a) r.divisions;
  incidents = filter (λ i. i.division == d && reads_incident a at i) r.incidents;
  calls = filter (λ c. c.division == d && (reads_calls a && reads_number d a r c.incident)) r.calls;
  vehicles = filter (λ v. owns_vehicle d v && reads_vehicle a v.callsign) r.vehicles;
  turns = filter
      (λ t. t.division == d && (reads_number d a r t.incident || names_turn d a r t))
      r.turns;
  assignments = filter (λ x. owns_assignment d x && reads_assignments a) r.assignments;
  points = filter (λ p. owns_point d p && reads_point a p.number) r.points;
  loans = filter (λ l. owns_loan d l && reads_loan a l.callsign) r.loans;
  offers = filter (λ o. owns_offer d o && reads_offer a o.callsign) r.offers;
  reports = filter (λ x. owns_report d x && reads_report a x) r.reports;
}
