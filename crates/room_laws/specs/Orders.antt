-- Orders. An order is an assignment of the room, the copy that a vehicle's crew gets. It is given
-- in one way, ends in two, and in between reaches its crew and no other.
use Rattle.std.specs.Prelude.{List, None, Ok, Option, Some, [], true, ℕ, ◌+◌, ◌<◌, ◌∷◌, ◌≡◌, ◌⊎◌}
use Rattle.room_place.specs.Choice.{Among}
use Rattle.room_types.specs.Codes.{acts, is_active, is_busy, is_free, is_mobilised}
use Rattle.room_types.specs.Slices.{IsActive}
use Rattle.room_types.specs.Texts.{Callsign}
use Rattle.room_types.specs.declared.asks.Ask.TheVariants.{Mobilise, Order, Report, StandDown}
use Rattle.room_types.specs.declared.asks.Event.{Event}
use Rattle.room_types.specs.declared.asks.Press.{Press}
use Rattle.room_types.specs.declared.codes.Button.TheVariants.{Home, Return}
use Rattle.room_types.specs.declared.codes.Outcome.{Outcome}
use Rattle.room_types.specs.declared.codes.Status.{Status}
use Rattle.room_types.specs.declared.tables.Assignment.{Assignment}
use Rattle.room_types.specs.declared.tables.Incident.{Incident}
use Rattle.room_types.specs.declared.tables.Turn.{Turn}
use Rattle.room_types.specs.declared.tables.Vehicle.{Vehicle}
use Rattle.room_model.specs.Events.{by_crew, by_desk}
use Rattle.room_model.specs.Queries.{assignment_at, incident_of, kept_report, vehicle_at}
use Rattle.room_model.specs.Room.{Room}
use Rattle.room_model.specs.Step.{answer_to, room_after}
use Rattle.room_laws.specs.Happens.{HappensIn, HoldsIn, steps_of}
use Rattle.room_types.specs.declared.answers.Answer.TheVariants as answer

-- ---- how it begins
-- the desk of the order's division sends a vehicle that it holds, which is free, within its shift
-- and without an order, to an active incident of its own
pub record IsSent (event : Event) (room : Room) (order : Assignment) : Type 0 where
  pub asked : event
      ≡ by_desk order.division (Mobilise order.incident order.callsign) event.at
  pub vehicle : Vehicle
  pub there : vehicle_at order.callsign room ≡ Some vehicle
  pub held : vehicle.holder ≡ order.division
  -- available or returning, so on duty
  pub free : is_free vehicle.status ≡ true
  pub within_shift : event.at < vehicle.shift_end
  pub without_order : assignment_at order.callsign room ≡ None
  pub numbered : order.order ≡ vehicle.last_order + 1
  pub incident : Incident
  pub named : incident_of order.division order.incident room ≡ Some incident
  pub active : is_active incident.state ≡ true
  -- the order says the place and the class of then
  pub says : (order.place ≡ incident.place) × (order.class ≡ incident.class)

-- ---- how it ends
-- its division's desk takes it back while the vehicle is on its way
pub record IsTakenBack (event : Event) (room : Room) (order : Assignment) : Type 0 where
  pub asked : event ≡ by_desk order.division (StandDown order.callsign) event.at
  pub vehicle : Vehicle
  pub there : vehicle_at order.callsign room ≡ Some vehicle
  pub on_its_way : is_mobilised vehicle.status ≡ true

-- its crew reports, by a new number, that it returns from this order or is home; the report is
-- normal or skips a button
pub record IsReportedOver (event : Event) (room : Room) (order : Assignment) : Type 0 where
  pub press : Press
  pub sent : event ≡ by_crew order.callsign (Report press) event.at
  pub new : kept_report order.callsign press.number room ≡ None
  pub button : (press.button ≡ Home) ⊎ ((press.button ≡ Return) × (press.order ≡ order.order))
  pub outcome : Outcome
  pub status : Status
  pub answered : answer_to event room ≡ Ok (answer.Reported press.number outcome status)
  pub acted : acts outcome ≡ true

-- nothing else does
abbrev pub EndsOrder : Event → Room → Assignment → Type 0
EndsOrder event room order = IsTakenBack event room order ⊎ IsReportedOver event room order

-- ---- what an event does to orders
pub record AreKept (event : Event) (room : Room) : Type 0 where
  -- an order that was not there was sent by a step of it
  pub given : (order : Assignment) → Among order (room_after event room).assignments
      → Among order room.assignments
      ⊎ HappensIn (λ step now. IsSent step now order) (steps_of event room) room
  -- one that was there stays as it is, unless a step ends it
  pub stays : (order : Assignment) → Among order room.assignments
      → Among order (room_after event room).assignments
      ⊎ HappensIn (λ step now. EndsOrder step now order) (steps_of event room) room
  -- and by that step it is gone
  pub ends : (order : Assignment)
      → HoldsIn (λ step now. Among order now.assignments → EndsOrder step now order
      → Among order (room_after step now).assignments → ⊥) (steps_of event room) room

-- ---- whom it reaches
-- the crew that asks for its order at a moment is answered with this one
abbrev pub GetsOrder : Room → Callsign → ℕ → Assignment → Type 0
GetsOrder room callsign at order =
    (post : Option ℕ) × (status : Status)
    × (answer_to (by_crew callsign Order at) room ≡ Ok (answer.Order (Some order) post status))

-- the turn is the desk's record of the order
abbrev pub IsRecordOf : Assignment → Turn → Type 0
IsRecordOf order turn =
    (turn.callsign ≡ order.callsign)
    × (turn.order ≡ order.order)
    × (turn.division ≡ order.division)
    × (turn.incident ≡ order.incident)

pub record ReachTheirCrews (room : Room) : Type 0 where
  -- the vehicle's crew gets the order whenever it asks
  pub to_crew : (order : Assignment) (at : ℕ) → Among order room.assignments
      → GetsOrder room order.callsign at order
  -- a crew gets no order but its vehicle's
  pub to_no_other : (callsign : Callsign) (order : Assignment) (at : ℕ)
      → GetsOrder room callsign at order
      → (callsign ≡ order.callsign) × Among order room.assignments
  -- while it stands its division holds the vehicle, which is at status 2 to 5, and its incident is
  -- active: no close, merge, end of duty, offer or return comes between
  pub held : (order : Assignment) → Among order room.assignments
      → (vehicle : Vehicle) × (vehicle_at order.callsign room ≡ Some vehicle)
      × (vehicle.holder ≡ order.division) × (is_busy vehicle.status ≡ true)
  pub active : (order : Assignment) → Among order room.assignments
      → IsActive (incident_of order.division order.incident room)
  -- an open turn is the record of an order that stands
  pub turns : (turn : Turn) → Among turn room.turns → turn.ended ≡ None
      → (order : Assignment) × Among order room.assignments × IsRecordOf order turn
  -- a vehicle at status 2 to 5 has an order that stands
  pub statuses : (vehicle : Vehicle) → Among vehicle room.vehicles
      → is_busy vehicle.status ≡ true
      → (order : Assignment) × Among order room.assignments
      × (order.callsign ≡ vehicle.callsign)
