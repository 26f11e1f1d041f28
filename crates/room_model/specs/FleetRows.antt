-- What becomes of a fleet row: the vehicle and its crew's terminal are new, or they are there, or
-- the row is refused.
use Rattle.std.specs.Cmp.Lexicographic.{slice_cmp}
use Rattle.std.specs.Ordering.{nat_cmp}
use Rattle.std.specs.Prelude.{Bool, List, None, Option, Some, cond, false, is_some, option_map}
use Rattle.std.specs.Prelude.{true, ℕ, ◌&&◌, ◌==◌, ◌≡◌}
use Rattle.std.specs.declared.cmp.Ordering.{Ordering}
use Rattle.room_place.specs.Plans.{has_division}
use Rattle.room_types.specs.KeyedRows.{IsKeyed, put_row, row_at}
use Rattle.room_types.specs.Keys.{callsign_cmp, same_callsign, vehicle_key}
use Rattle.room_types.specs.Texts.{Callsign, Token}
use Rattle.room_types.specs.declared.asks.Who.{Who}
use Rattle.room_types.specs.declared.asks.Who.TheVariants.{Crew, Desk, Position}
use Rattle.room_types.specs.declared.changes.Change.TheVariants.{PutVehicle}
use Rattle.room_types.specs.declared.codes.Kind.{Kind}
use Rattle.room_types.specs.declared.codes.Status.TheVariants.{OffDuty}
use Rattle.room_types.specs.declared.fleet.FleetRow.{FleetRow}
use Rattle.room_types.specs.declared.fleet.RowFate.{RowFate}
use Rattle.room_types.specs.declared.fleet.RowFate.TheVariants.{Added, Refused, Same}
use Rattle.room_types.specs.declared.fleet.Terminal.{Terminal}
use Rattle.room_types.specs.declared.tables.Vehicle.{Vehicle}
use Rattle.room_types.specs.Codes.{same_kind}
use Rattle.room_model.specs.Room.{Room, apply_one}
use Rattle.room_types.specs.declared.refusal_statuses.Refusal.TheVariants as refusal

-- terminals are in the order of their tokens
abbrev pub token_cmp : Token → Token → Ordering
token_cmp a b = slice_cmp nat_cmp a b

abbrev pub terminal_key : Terminal → Token
terminal_key t = t.token

-- the terminal of a token
abbrev pub terminal_at : Token → List Terminal → Option Terminal
terminal_at k ts = row_at token_cmp terminal_key ts k

-- who is the crew of a vehicle
abbrev pub is_crew : Callsign → Who → Bool
is_crew c (Crew k) = same_callsign k c
is_crew c (Desk d) = false
is_crew c (Position p) = false

abbrev pub is_crews_terminal : Callsign → Option Terminal → Bool
is_crews_terminal c None = false
is_crews_terminal c (Some t) = is_crew c t.who

-- the vehicle is there as the row has it, but for its place
abbrev pub is_same_vehicle : Vehicle → Option Terminal → FleetRow → Bool
is_same_vehicle v t x =
    v.home == x.division && (same_kind v.kind x.kind && is_crews_terminal x.callsign t)

abbrev pub fate_by : Option Vehicle → Option Terminal → FleetRow → RowFate
fate_by (Some v) t x = cond (is_same_vehicle v t x) Same (Refused refusal.CallsignTaken)
fate_by None (Some t) x = Refused refusal.TokenTaken
fate_by None None x = Added

-- a division outside the plan is refused first, then a callsign that is taken, then a token
abbrev pub fate_of : Room → List Terminal → FleetRow → RowFate
fate_of r ts x = cond (has_division r.plan x.division)
    (fate_by (row_at callsign_cmp vehicle_key r.vehicles x.callsign) (terminal_at x.token ts) x)
    (Refused refusal.NoSuchDivision)

-- a vehicle that is added is off duty at home, its shift is over, and it has used no numbers
abbrev pub new_vehicle : FleetRow → Vehicle
new_vehicle x = record {
  callsign = x.callsign;
  home = x.division;
  holder = x.division;
  kind = x.kind;
  place = x.place;
  status = OffDuty;
  shift_end = 0;
  post = None;
  last_order = 0;
  last_report = 0;
}

abbrev pub new_terminal : FleetRow → Terminal
new_terminal x = record { token = x.token; who = Crew x.callsign }

-- the room and the terminals after a row of this fate
abbrev pub room_by : RowFate → FleetRow → Room → Room
room_by Added x r = apply_one r (PutVehicle (new_vehicle x))
room_by Same x r = r
room_by (Refused e) x r = r

abbrev pub terminals_by : RowFate → FleetRow → List Terminal → List Terminal
terminals_by Added x ts = put_row token_cmp terminal_key ts (new_terminal x)
terminals_by Same x ts = ts
terminals_by (Refused e) x ts = ts

-- its fate when it is enrolled again
abbrev pub fate_again : RowFate → RowFate
fate_again Added = Same
fate_again Same = Same
fate_again (Refused e) = Refused e

abbrev pub room_enrolled : Room → List Terminal → FleetRow → Room
room_enrolled r ts x = room_by (fate_of r ts x) x r

abbrev pub terminals_enrolled : Room → List Terminal → FleetRow → List Terminal
terminals_enrolled r ts x = terminals_by (fate_of r ts x) x ts

-- the terminals fit the room: a token names one terminal, each vehicle has exactly one crew
-- terminal, each crew's vehicle is there, each desk's division is in the plan
pub record AreTerminals (r : Room) (ts : List Terminal) : Type 0 where
  pub keyed : IsKeyed token_cmp terminal_key ts
  pub has_crew : (c : Callsign) →
      is_some (row_at callsign_cmp vehicle_key r.vehicles c) ≡ true →
      (k : Token) × (terminal_at k ts ≡ Some (record { token = k; who = Crew c }))
  pub one_crew : (j k : Token) (c : Callsign) →
      terminal_at j ts ≡ Some (record { token = j; who = Crew c }) →
      terminal_at k ts ≡ Some (record { token = k; who = Crew c }) → j ≡ k
  pub crews : (k : Token) (c : Callsign) →
      terminal_at k ts ≡ Some (record { token = k; who = Crew c }) →
      is_some (row_at callsign_cmp vehicle_key r.vehicles c) ≡ true
  pub desks : (k : Token) (d : ℕ) →
      terminal_at k ts ≡ Some (record { token = k; who = Desk d }) → has_division r.plan d ≡ true

-- the home and kind of a callsign's vehicle
abbrev pub home_and_kind : Vehicle → ℕ × Kind
home_and_kind v = (v.home, v.kind)

abbrev pub fleet_at : Callsign → Room → Option (ℕ × Kind)
fleet_at c r = option_map home_and_kind (row_at callsign_cmp vehicle_key r.vehicles c)
