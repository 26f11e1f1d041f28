-- The rows of one division, and what they agree in.
use Rattle.std.specs.Prelude.{◌≡◌, ℕ, ◌≤◌, Bool, true, false, cond, ◌==◌, ◌&&◌, nat_le, Option}
use Rattle.std.specs.Prelude.{Some, None, IfSome, is_some, is_none}
use Rattle.std.specs.List.{list_all}
use Rattle.std.specs.Ordering.{nat_cmp}
use Rattle.room_types.specs.Codes.{is_active}
use Rattle.room_types.specs.KeyedRows.{row_at, keep}
use Rattle.room_types.specs.Keys.{callsign_cmp, pair_cmp, numbered_cmp, division_key, incident_key}
use Rattle.room_types.specs.Keys.{vehicle_key, turn_key, assignment_key, owns_division}
use Rattle.room_types.specs.Keys.{owns_incident, owns_call, owns_vehicle, owns_turn}
use Rattle.room_types.specs.Keys.{owns_assignment, owns_point, owns_loan, owns_offer, owns_report}
use Rattle.room_types.specs.Texts.{Callsign}
use Rattle.room_types.specs.SentVehicles.{PartsAgree, parts_agree}
use Rattle.room_types.specs.declared.slices.DivisionRows.{DivisionRows}
use Rattle.room_types.specs.declared.tables.Assignment.{Assignment}
use Rattle.room_types.specs.declared.tables.Division.{Division}
use Rattle.room_types.specs.declared.tables.Incident.{Incident}
use Rattle.room_types.specs.declared.tables.Turn.{Turn}
use Rattle.room_types.specs.declared.tables.Vehicle.{Vehicle}

-- ---- look-ups
abbrev pub division_at : ℕ → DivisionRows → Option Division
division_at d s = row_at nat_cmp division_key s.divisions d

abbrev pub incident_at : ℕ → ℕ → DivisionRows → Option Incident
incident_at d n s = row_at pair_cmp incident_key s.incidents (d, n)

abbrev pub vehicle_at : Callsign → DivisionRows → Option Vehicle
vehicle_at c s = row_at callsign_cmp vehicle_key s.vehicles c

abbrev pub turn_at : Callsign → ℕ → DivisionRows → Option Turn
turn_at c n s = row_at numbered_cmp turn_key s.turns (c, n)

abbrev pub assignment_at : Callsign → DivisionRows → Option Assignment
assignment_at c s = row_at callsign_cmp assignment_key s.assignments c

-- the turn of the vehicle's last order, where it had an order and that turn is not ended
abbrev pub open_turn : Vehicle → DivisionRows → Option Turn
open_turn v s = cond (nat_le 1 v.last_order)
    (keep (λ t. is_none t.ended) (turn_at v.callsign v.last_order s)) None

-- ---- the agreements, at each key
-- every row is the division's
pub record AreOwned (d : ℕ) (s : DivisionRows) : Type 0 where
  pub divisions : list_all (owns_division d) s.divisions ≡ true
  pub incidents : list_all (owns_incident d) s.incidents ≡ true
  pub calls : list_all (owns_call d) s.calls ≡ true
  pub vehicles : list_all (owns_vehicle d) s.vehicles ≡ true
  pub turns : list_all (owns_turn d) s.turns ≡ true
  pub assignments : list_all (owns_assignment d) s.assignments ≡ true
  pub points : list_all (owns_point d) s.points ≡ true
  pub loans : list_all (owns_loan d) s.loans ≡ true
  pub offers : list_all (owns_offer d) s.offers ≡ true
  pub reports : list_all (owns_report d) s.reports ≡ true

abbrev pub IsActive : Option Incident → Type 0
IsActive None = ⊥
IsActive (Some i) = is_active i.state ≡ true

-- what is there of a vehicle's assignment and open turn belongs to it, and together
abbrev pub VehicleAgrees : DivisionRows → Callsign → Vehicle → Type 0
VehicleAgrees s c v = PartsAgree v (assignment_at c s) (open_turn v s)

-- the incident of an assignment is active, where it is there
abbrev pub AssignmentAgrees : DivisionRows → Assignment → Type 0
AssignmentAgrees s a = IfSome (incident_at a.division a.incident s) (λ i. is_active i.state ≡ true)

-- orders are numbered up to the vehicle's last, and only that one may be open
abbrev pub IsInTurn : Turn → Option Vehicle → Type 0
IsInTurn t None = Unit {0}
IsInTurn t (Some v) = (t.order ≤ v.last_order) × (t.ended ≡ None → t.order ≡ v.last_order)

abbrev pub TurnAgrees : DivisionRows → Callsign → Turn → Type 0
TurnAgrees s c t = (1 ≤ t.order) × IsInTurn t (vehicle_at c s)

-- the rows are division d's, and those that are there agree
pub record IsShare (d : ℕ) (s : DivisionRows) : Type 0 where
  pub owned : AreOwned d s
  pub vehicles : (c : Callsign) → IfSome (vehicle_at c s) (VehicleAgrees s c)
  pub assignments : (c : Callsign) → IfSome (assignment_at c s) (AssignmentAgrees s)
  pub turns : (c : Callsign) (n : ℕ) → IfSome (turn_at c n s) (TurnAgrees s c)

-- ---- the same as tests of each row
abbrev pub are_owned : ℕ → DivisionRows → Bool
are_owned d s =
    list_all (owns_division d) s.divisions
    && (list_all (owns_incident d) s.incidents
    && (list_all (owns_call d) s.calls
    && (list_all (owns_vehicle d) s.vehicles
    && (list_all (owns_turn d) s.turns
    && (list_all (owns_assignment d) s.assignments
    && (list_all (owns_point d) s.points
    && (list_all (owns_loan d) s.loans
    && (list_all (owns_offer d) s.offers
    && list_all (owns_report d) s.reports))))))))

abbrev pub vehicle_agrees : DivisionRows → Vehicle → Bool
vehicle_agrees s v = parts_agree v (assignment_at v.callsign s) (open_turn v s)

abbrev pub is_active_one : Option Incident → Bool
is_active_one None = false
is_active_one (Some i) = is_active i.state

abbrev pub is_active_if_any : Option Incident → Bool
is_active_if_any None = true
is_active_if_any (Some i) = is_active i.state

abbrev pub assignment_agrees : DivisionRows → Assignment → Bool
assignment_agrees s a = is_active_if_any (incident_at a.division a.incident s)

abbrev pub is_in_turn : Turn → Option Vehicle → Bool
is_in_turn t None = true
is_in_turn t (Some v) =
    cond (is_some t.ended) (nat_le t.order v.last_order) (t.order == v.last_order)

abbrev pub turn_agrees : DivisionRows → Turn → Bool
turn_agrees s t = nat_le 1 t.order && is_in_turn t (vehicle_at t.callsign s)

unfoldable pub is_share : ℕ → DivisionRows → Bool
is_share d s =
    are_owned d s
    && (list_all (vehicle_agrees s) s.vehicles
    && (list_all (assignment_agrees s) s.assignments
    && list_all (turn_agrees s) s.turns))
