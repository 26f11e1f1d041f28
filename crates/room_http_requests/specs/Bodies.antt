-- What the fields of a body ask for: exactly the members named, each of its form and range.
use Rattle.std.specs.Prelude.{ℕ, if◌then◌else◌, Option, Some, None, option_map, option_and_then}
use Rattle.std.specs.Prelude.{List, [], codes, ◌∷◌}
use Rattle.serde_json.specs.Data.{Data, Items}
use Rattle.serde_json.specs.Find.{get_item}
use Rattle.room_types.specs.Texts.{Callsign}
use Rattle.room_types.specs.declared.asks.Ask.{Ask}
use Rattle.room_types.specs.declared.asks.Ask.TheVariants as ask
use Rattle.room_types.specs.declared.asks.CallForm.{CallForm}
use Rattle.room_types.specs.declared.asks.Move.{Move}
use Rattle.room_types.specs.declared.asks.Moves.{Moves}
use Rattle.room_types.specs.declared.asks.Press.{Press}
use Rattle.room_http_requests.specs.declared.request_table.Target.{Target}
use Rattle.room_http_requests.specs.declared.request_table.Target.TheVariants as target
use Rattle.room_http_requests.specs.BodyFields.{button_at, callsign_at, few_at, has_members}
use Rattle.room_http_requests.specs.BodyFields.{incident_at, needs_at, note_at, number_at, place_at}
use Rattle.room_http_requests.specs.BodyFields.{point_at}

-- what is found next, of what was found
unfoldable pub and_then : {A B : Type 0} → Option A → (A → Option B) → Option B
and_then found next = option_and_then next found

-- what was found in an object of so many members
unfoldable pub exactly : {A : Type 0} → ℕ → Data → Option A → Option A
exactly count fields found = if has_members count fields then found else None

-- an ask that takes no fields
abbrev pub no_fields : Ask → Data → Option Ask
no_fields a fields = exactly 0 fields (Some a)

-- a call: serial 1 to 2147483647, a place, class 1 to 3, needs, a note
unfoldable pub call_form : Data → Option CallForm
call_form fields = exactly 5 fields (
    and_then (number_at 1 2147483647 (codes "serial") fields) (λ serial.
    and_then (place_at (codes "place") fields) (λ place.
    and_then (number_at 1 3 (codes "class") fields) (λ class.
    and_then (needs_at (codes "needs") fields) (λ needs.
    and_then (note_at (codes "note") fields) (λ note.
    Some (record {
      serial = serial;
      place = place;
      class = class;
      needs = needs;
      note =
          note;
    })))))))

-- a vehicle for an incident
unfoldable pub mobilise : ℕ → Data → Option Ask
mobilise incident fields = exactly 1 fields (
    and_then (callsign_at (codes "vehicle") fields) (λ vehicle.
    Some (ask.Mobilise incident vehicle)))

-- new needs of an incident
unfoldable pub needs_change : ℕ → Data → Option Ask
needs_change incident fields = exactly 1 fields (
    and_then (needs_at (codes "needs") fields) (λ needs.
    Some (ask.Needs incident needs)))

-- an incident into another, 1 to 2147483647
unfoldable pub merge : ℕ → Data → Option Ask
merge incident fields = exactly 1 fields (
    and_then (number_at 1 2147483647 (codes "into") fields) (λ into.
    Some (ask.Merge incident into)))

-- a move: an incident or null, and a vehicle
unfoldable pub move_in : Data → Option Move
move_in fields = exactly 2 fields (
    and_then (incident_at (codes "incident") fields) (λ incident.
    and_then (callsign_at (codes "vehicle") fields) (λ vehicle.
    Some (record { callsign = vehicle; incident = incident }))))

-- the move at a place, or none where nothing stands there
abbrev pub move_if : Option Data → Option (Option Move)
move_if None = Some None
move_if (Some value) = option_map Some (move_in value)

unfoldable pub move_at : ℕ → Items → Option (Option Move)
move_at place items = move_if (get_item place items)

-- one move at least
unfoldable pub moves_in : Items → Option Moves
moves_in items =
    and_then (move_at 0 items) (λ first.
    and_then first (λ first.
    and_then (move_at 1 items) (λ a.
    and_then (move_at 2 items) (λ b.
    and_then (move_at 3 items) (λ c.
    and_then (move_at 4 items) (λ d.
    and_then (move_at 5 items) (λ e.
    and_then (move_at 6 items) (λ f.
    and_then (move_at 7 items) (λ g.
    Some (record {
      first = first;
      others = a ∷ b ∷ c ∷ d ∷ e ∷ f ∷ g ∷ [];
    }))))))))))

-- the moves under a name, eight at most
unfoldable pub moves_at : List ℕ → Data → Option Moves
moves_at name fields = and_then (few_at 8 name fields) (λ items. moves_in items)

-- moves
unfoldable pub moves : Data → Option Ask
moves fields = exactly 1 fields (
    and_then (moves_at (codes "moves") fields) (λ ms.
    Some (ask.Moves ms)))

-- a vehicle to a standby point, or to none
unfoldable pub standby : Callsign → Data → Option Ask
standby vehicle fields = exactly 1 fields (
    and_then (point_at (codes "point") fields) (λ point.
    Some (ask.Standby vehicle point)))

-- a vehicle on duty at a place until a moment, 0 to 4102444799
unfoldable pub duty : Callsign → Data → Option Ask
duty vehicle fields = exactly 2 fields (
    and_then (place_at (codes "place") fields) (λ place.
    and_then (number_at 0 4102444799 (codes "until") fields) (λ until.
    Some (ask.Duty vehicle place until))))

-- a vehicle offered to a division, 1 to 9, until a moment
unfoldable pub lend : Callsign → Data → Option Ask
lend vehicle fields = exactly 2 fields (
    and_then (number_at 1 9 (codes "to") fields) (λ to.
    and_then (number_at 0 4102444799 (codes "until") fields) (λ until.
    Some (ask.Lend vehicle to until))))

-- a standby point's place and cover, 0 to 9
unfoldable pub point_form : ℕ → Data → Option Ask
point_form point fields = exactly 2 fields (
    and_then (place_at (codes "place") fields) (λ place.
    and_then (number_at 0 9 (codes "cover") fields) (λ cover.
    Some (ask.SetPoint point place cover))))

-- a report: number 1 to 2147483647, a button's name, order 0 to 2147483647, a place
unfoldable pub press : Data → Option Press
press fields = exactly 4 fields (
    and_then (number_at 1 2147483647 (codes "number") fields) (λ number.
    and_then (button_at (codes "button") fields) (λ button.
    and_then (number_at 0 2147483647 (codes "order") fields) (λ order.
    and_then (place_at (codes "place") fields) (λ place.
    Some (record { number = number; button = button; order = order; place = place }))))))

-- what the fields ask for of a target; none of one that takes no body
abbrev pub ask_with_body : Target → Data → Option Ask
ask_with_body target.Call fields = option_map ask.Call (call_form fields)
ask_with_body (target.Mobilise n) fields = mobilise n fields
ask_with_body (target.Needs n) fields = needs_change n fields
ask_with_body (target.Merge n) fields = merge n fields
ask_with_body target.Moves fields = moves fields
ask_with_body (target.Close n) fields = no_fields (ask.Close n) fields
ask_with_body (target.StandDown c) fields = no_fields (ask.StandDown c) fields
ask_with_body (target.Standby c) fields = standby c fields
ask_with_body (target.Duty c) fields = duty c fields
ask_with_body (target.Off c) fields = no_fields (ask.Off c) fields
ask_with_body (target.Lend c) fields = lend c fields
ask_with_body (target.Withdraw c) fields = no_fields (ask.Withdraw c) fields
ask_with_body (target.Decline c) fields = no_fields (ask.Decline c) fields
ask_with_body (target.Accept c) fields = no_fields (ask.Accept c) fields
ask_with_body (target.Recall c) fields = no_fields (ask.Recall c) fields
ask_with_body (target.GiveBack c) fields = no_fields (ask.GiveBack c) fields
ask_with_body (target.Clear c n) fields = no_fields (ask.Clear c n) fields
ask_with_body (target.SetPoint n) fields = point_form n fields
ask_with_body target.Report fields = option_map ask.Report (press fields)
ask_with_body other fields = None
