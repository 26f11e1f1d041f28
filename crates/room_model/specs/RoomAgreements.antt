-- The agreements that every room keeps, each at one key. IsWellFormed lists them; the end of the
-- file says once more, in the field's words, who is sent.
use Rattle.std.specs.Ordering.{nat_cmp}
use Rattle.std.specs.Prelude.{IfSome, List, None, Option, Some, false, is_some, true, ℕ, ◌↔◌, ◌≡◌}
use Rattle.std.specs.Prelude.{◌≢◌, ◌≤◌, ◌⊎◌}
use Rattle.room_place.specs.Choice.{Among}
use Rattle.room_place.specs.Plans.{has_division}
use Rattle.room_place.specs.declared.plans.Area.{Area}
use Rattle.room_types.specs.KeyedRows.{row_at}
use Rattle.room_types.specs.Keys.{assignment_key, call_key, callsign_cmp, division_key}
use Rattle.room_types.specs.Keys.{incident_key, loan_key, numbered_cmp, offer_key, pair_cmp}
use Rattle.room_types.specs.Keys.{point_key, report_key, turn_key, vehicle_key}
use Rattle.room_types.specs.Slices.{IsActive}
use Rattle.room_types.specs.declared.tables.Assignment.{Assignment}
use Rattle.room_types.specs.declared.tables.Call.{Call}
use Rattle.room_types.specs.declared.tables.Division.{Division}
use Rattle.room_types.specs.declared.tables.Incident.{Incident}
use Rattle.room_types.specs.declared.tables.Loan.{Loan}
use Rattle.room_types.specs.declared.tables.Offer.{Offer}
use Rattle.room_types.specs.declared.tables.Report.{Report}
use Rattle.room_types.specs.declared.tables.Turn.{Turn}
use Rattle.room_types.specs.declared.tables.Vehicle.{Vehicle}
use Rattle.room_types.specs.Texts.{Callsign}
use Rattle.room_types.specs.Codes.{is_busy, is_free, is_merged, is_offered}
use Rattle.room_model.specs.Room.{IsInOrder, Room}

-- holder differs from home exactly where a loan says so
abbrev pub LoanAgrees : Option Vehicle → Option Loan → Type 0
LoanAgrees None None = Unit {0}
LoanAgrees None (Some l) = ⊥
LoanAgrees (Some v) None = v.holder ≡ v.home
LoanAgrees (Some v) (Some l) = (l.lender ≡ v.home) × (l.borrower ≡ v.holder) × (v.holder ≢ v.home)

-- status 7 exactly where there is an offer, from its holder and home to another division of the
-- plan
abbrev pub OfferAgrees : List Area → Option Vehicle → Option Offer → Type 0
OfferAgrees plan None None = Unit {0}
OfferAgrees plan None (Some o) = ⊥
OfferAgrees plan (Some v) None = is_offered v.status ≡ false
OfferAgrees plan (Some v) (Some o) =
    (is_offered v.status ≡ true)
    × (o.lender ≡ v.holder)
    × (o.lender ≡ v.home)
    × (o.borrower ≢ o.lender)
    × (has_division plan o.borrower ≡ true)

-- status 2 to 5 exactly where there is an assignment, which is of the holder and of the last order
abbrev pub AssignmentAgrees : Option Vehicle → Option Assignment → Type 0
AssignmentAgrees None None = Unit {0}
AssignmentAgrees None (Some a) = ⊥
AssignmentAgrees (Some v) None = is_busy v.status ≡ false
AssignmentAgrees (Some v) (Some a) =
    (is_busy v.status ≡ true) × (a.division ≡ v.holder) × (a.order ≡ v.last_order)

-- an open turn is of the last order, of the holder, and of a vehicle at status 2 to 5
abbrev pub OpenAgrees : Vehicle → ℕ → Turn → Option ℕ → Type 0
OpenAgrees v n t (Some at) = n ≡ v.last_order → is_busy v.status ≡ false
OpenAgrees v n t None = (n ≡ v.last_order) × (t.division ≡ v.holder) × (is_busy v.status ≡ true)

abbrev pub TurnAgrees : Option Vehicle → ℕ → Option Turn → Type 0
TurnAgrees None n None = Unit {0}
TurnAgrees None n (Some t) = ⊥
TurnAgrees (Some v) n None = n ≡ v.last_order → is_busy v.status ≡ false
TurnAgrees (Some v) n (Some t) = (1 ≤ n) × (n ≤ v.last_order) × OpenAgrees v n t t.ended

-- a vehicle's assignment and its open turn are for one incident
abbrev pub SameIncident : Option Assignment → Option Turn → Type 0
SameIncident None t = Unit {0}
SameIncident (Some a) None = Unit {0}
SameIncident (Some a) (Some t) = t.order ≡ a.order → t.incident ≡ a.incident

abbrev pub TurnIsActive : Room → Option Turn → Type 0
TurnIsActive r None = Unit {0}
TurnIsActive r (Some t) =
    t.ended ≡ None →
    IsActive (row_at pair_cmp incident_key r.incidents (t.division, t.incident))

-- a call is of an incident that is not merged, and was opened no later
abbrev pub IsOfIncident : Call → Option Incident → Type 0
IsOfIncident c None = ⊥
IsOfIncident c (Some i) = (is_merged i.state ≡ false) × (i.opened ≤ c.at)

abbrev pub CallAgrees : Room → Option Call → Type 0
CallAgrees r None = Unit {0}
CallAgrees r (Some c) =
    IsOfIncident c (row_at pair_cmp incident_key r.incidents (c.division, c.incident))

-- a call that opened the incident
pub record IsOpenedBy (r : Room) (i : Incident) : Type 0 where
  pub position : ℕ
  pub serial : ℕ
  pub first_call : Call
  pub there : row_at pair_cmp call_key r.calls (position, serial) ≡ Some first_call
  pub same :
      (first_call.division ≡ i.division)
      × (first_call.incident ≡ i.number)
      × (first_call.at ≡ i.opened)

abbrev pub OpenedAgrees : Room → Option Incident → Type 0
OpenedAgrees r None = Unit {0}
OpenedAgrees r (Some i) = is_merged i.state ≡ false → IsOpenedBy r i

-- an incident's number was given by its division
abbrev pub IsGiven : ℕ → Option Division → Type 0
IsGiven n None = ⊥
IsGiven n (Some v) = n ≤ v.last_incident

abbrev pub NumberAgrees : Room → Option Incident → Type 0
NumberAgrees r None = Unit {0}
NumberAgrees r (Some i) =
    (1 ≤ i.number) × IsGiven i.number (row_at nat_cmp division_key r.divisions i.division)

-- reports have numbers up to the vehicle's last
abbrev pub ReportAgrees : Option Vehicle → ℕ → Option Report → Type 0
ReportAgrees v n None = Unit {0}
ReportAgrees None n (Some x) = ⊥
ReportAgrees (Some v) n (Some x) = (1 ≤ n) × (n ≤ v.last_report)

-- the last is there, where there is any
abbrev pub LastAgrees : Room → Option Vehicle → Type 0
LastAgrees r None = Unit {0}
LastAgrees r (Some v) =
    (v.last_report ≡ 0)
    ⊎ (is_some (row_at numbered_cmp report_key r.reports (v.callsign, v.last_report)) ≡ true)

-- a post is a point of the holder, of a vehicle that is free
abbrev pub IsPost : Room → Vehicle → Option ℕ → Type 0
IsPost r v None = Unit {0}
IsPost r v (Some n) =
    (is_free v.status ≡ true)
    × (is_some (row_at pair_cmp point_key r.points (v.holder, n)) ≡ true)

abbrev pub PostAgrees : Room → Option Vehicle → Type 0
PostAgrees r None = Unit {0}
PostAgrees r (Some v) = IsPost r v v.post

-- every division of a row is in the plan
pub record AreInPlan (r : Room) : Type 0 where
  pub divisions : (d : ℕ) →
      is_some (row_at nat_cmp division_key r.divisions d) ≡ has_division r.plan d
  pub homes : (c : Callsign) →
      IfSome (row_at callsign_cmp vehicle_key r.vehicles c) (λ v. has_division r.plan v.home ≡ true)
  pub vehicles : (c : Callsign) →
      IfSome (row_at callsign_cmp vehicle_key r.vehicles c)
      (λ v. has_division r.plan v.holder ≡ true)
  pub turns : (c : Callsign) (n : ℕ) →
      IfSome (row_at numbered_cmp turn_key r.turns (c, n))
      (λ t. has_division r.plan t.division ≡ true)
  pub points : (d n : ℕ) →
      IfSome (row_at pair_cmp point_key r.points (d, n))
      (λ p. has_division r.plan p.division ≡ true)
  pub reports : (c : Callsign) (n : ℕ) →
      IfSome (row_at numbered_cmp report_key r.reports (c, n))
      (λ x. has_division r.plan x.division ≡ true)

-- what isolation rests on stands first: order, loans, offers, assignments, turns
pub record IsWellFormed (r : Room) : Type 0 where
  pub order : IsInOrder r
  pub loans : (c : Callsign) →
      LoanAgrees (row_at callsign_cmp vehicle_key r.vehicles c)
      (row_at callsign_cmp loan_key r.loans c)
  pub offers : (c : Callsign) →
      OfferAgrees r.plan (row_at callsign_cmp vehicle_key r.vehicles c)
      (row_at callsign_cmp offer_key r.offers c)
  pub assignments : (c : Callsign) →
      AssignmentAgrees (row_at callsign_cmp vehicle_key r.vehicles c)
      (row_at callsign_cmp assignment_key r.assignments c)
  pub turns : (c : Callsign) (n : ℕ) →
      TurnAgrees (row_at callsign_cmp vehicle_key r.vehicles c) n
      (row_at numbered_cmp turn_key r.turns (c, n))
  pub same_incident : (c : Callsign) (n : ℕ) →
      SameIncident (row_at callsign_cmp assignment_key r.assignments c)
      (row_at numbered_cmp turn_key r.turns (c, n))
  pub active : (c : Callsign) (n : ℕ) →
      TurnIsActive r (row_at numbered_cmp turn_key r.turns (c, n))
  pub calls : (p s : ℕ) →
      CallAgrees r (row_at pair_cmp call_key r.calls (p, s))
  pub opened : (d n : ℕ) →
      OpenedAgrees r (row_at pair_cmp incident_key r.incidents (d, n))
  pub numbers : (d n : ℕ) →
      NumberAgrees r (row_at pair_cmp incident_key r.incidents (d, n))
  pub reports : (c : Callsign) (n : ℕ) →
      ReportAgrees (row_at callsign_cmp vehicle_key r.vehicles c) n
      (row_at numbered_cmp report_key r.reports (c, n))
  pub last_reports : (c : Callsign) →
      LastAgrees r (row_at callsign_cmp vehicle_key r.vehicles c)
  pub posts : (c : Callsign) →
      PostAgrees r (row_at callsign_cmp vehicle_key r.vehicles c)
  pub plan : AreInPlan r

-- ---- who is sent, in the field's words; the_status_shows_who_is_sent is the law
-- the vehicle has an open turn
pub record HasOpenTurn (r : Room) (c : Callsign) : Type 0 where
  pub turn : Turn
  pub there : Among turn r.turns
  pub vehicle : turn.callsign ≡ c
  pub unended : turn.ended ≡ None

-- the vehicle has an assignment
pub record HasAssignment (r : Room) (c : Callsign) : Type 0 where
  pub assignment : Assignment
  pub there : Among assignment r.assignments
  pub vehicle : assignment.callsign ≡ c

-- a vehicle is at status 2 to 5 exactly where it has an open turn
abbrev pub StatusShowsTurns : Room → Type 0
StatusShowsTurns r = (v : Vehicle) → Among v r.vehicles →
    (is_busy v.status ≡ true) ↔ HasOpenTurn r v.callsign

-- a vehicle is at status 2 to 5 exactly where it has an assignment
abbrev pub StatusShowsAssignments : Room → Type 0
StatusShowsAssignments r = (v : Vehicle) → Among v r.vehicles →
    (is_busy v.status ≡ true) ↔ HasAssignment r v.callsign

-- the rest of what is agreed of turns: a turn is of a vehicle, and of an order that it was given;
-- an open one is of the last order and of the holder
abbrev pub TurnStands : Option Vehicle → ℕ → Option Turn → Type 0
TurnStands None n None = Unit {0}
TurnStands None n (Some t) = ⊥
TurnStands (Some v) n None = Unit {0}
TurnStands (Some v) n (Some t) =
    (1 ≤ n)
    × (n ≤ v.last_order)
    × (t.ended ≡ None → (n ≡ v.last_order) × (t.division ≡ v.holder))

-- the rest of what is agreed of assignments: each is of a vehicle, its holder and its last order
abbrev pub AssignmentStands : Option Vehicle → Option Assignment → Type 0
AssignmentStands None None = Unit {0}
AssignmentStands None (Some a) = ⊥
AssignmentStands (Some v) None = Unit {0}
AssignmentStands (Some v) (Some a) = (a.division ≡ v.holder) × (a.order ≡ v.last_order)

-- each of these for the whole room
abbrev pub TurnsAgree : Room → Type 0
TurnsAgree r = (c : Callsign) (n : ℕ) →
    TurnAgrees (row_at callsign_cmp vehicle_key r.vehicles c) n
    (row_at numbered_cmp turn_key r.turns (c, n))

abbrev pub TurnsStand : Room → Type 0
TurnsStand r = (c : Callsign) (n : ℕ) →
    TurnStands (row_at callsign_cmp vehicle_key r.vehicles c) n
    (row_at numbered_cmp turn_key r.turns (c, n))

abbrev pub AssignmentsAgree : Room → Type 0
AssignmentsAgree r = (c : Callsign) →
    AssignmentAgrees (row_at callsign_cmp vehicle_key r.vehicles c)
    (row_at callsign_cmp assignment_key r.assignments c)

abbrev pub AssignmentsStand : Room → Type 0
AssignmentsStand r = (c : Callsign) →
    AssignmentStands (row_at callsign_cmp vehicle_key r.vehicles c)
    (row_at callsign_cmp assignment_key r.assignments c)
