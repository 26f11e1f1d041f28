-- Words for what happens in a room: who asks what and when, and what became of a vehicle.
use Prim.Native.String.{String}
use Rattle.std.specs.Prelude.{Err, Ok, Option, Result, [], codes, option_map, ℕ}
use Rattle.room_place.specs.References.{parse}
use Rattle.room_place.specs.declared.places.Place.{Place}
use Rattle.room_place.specs.declared.places.PlaceFault.{PlaceFault}
use Rattle.room_types.specs.Texts.{Callsign}
use Rattle.room_types.specs.declared.answers.QueueEntry.{QueueEntry}
use Rattle.room_types.specs.declared.asks.Ask.TheVariants as ask
use Rattle.room_types.specs.declared.asks.Ask.{Ask}
use Rattle.room_types.specs.declared.asks.CallForm.{CallForm}
use Rattle.room_types.specs.declared.asks.Event.{Event}
use Rattle.room_types.specs.declared.asks.Who.TheVariants.{Position}
use Rattle.room_types.specs.declared.asks.Who.{Who}
use Rattle.room_types.specs.declared.codes.Button.{Button}
use Rattle.room_types.specs.declared.codes.Status.{Status}
use Rattle.room_types.specs.declared.needs.Counts.{Counts}
use Rattle.room_model.specs.Queries.{vehicle_at}
use Rattle.room_model.specs.Room.{Room}
use Rattle.room_model.specs.Step.{room_after}
use Rattle.room_types.specs.declared.ranks.Rank.{Rank}

-- r ▸ e is the room after an event, so that r ▸ e ▸ f reads as a story from left to right
infixl 5 ◌▸◌
abbrev pub ◌▸◌ : Room → Event → Room
r ▸ e = room_after e r

-- at this moment, somebody asks this
abbrev pub at : ℕ → Who → Ask → Event
at t who ask = record { who = who; ask = ask; at = t }

-- what is read, or the far corner of the map
abbrev pub read_or_corner : Result Place PlaceFault → Place
read_or_corner (Ok p) = p
read_or_corner (Err e) = record { east = 400000; north = 100000 }

-- the place of a grid reference
abbrev pub place : String → Place
place reference = read_or_corner (parse (codes reference))

-- so many ambulances, cars and support vehicles
abbrev pub needs : ℕ → ℕ → ℕ → Counts
needs ambulances cars support = record { ambulances = ambulances; cars = cars; support = support }

-- a call of class 2 for one ambulance
abbrev pub call_of : ℕ → String → CallForm
call_of serial reference = record {
  serial = serial;
  place = place reference;
  class = 2;
  needs = needs 1 0 0;
  note = [];
}

-- the first call taker's position
abbrev pub taker : Who
taker = Position 1

-- such a call comes in
abbrev pub call_at : ℕ → ℕ → String → Event
call_at t serial reference = at t taker (ask.Call (call_of serial reference))

-- a report: its number, the button, the order that it speaks of, and where the vehicle is
abbrev pub press : ℕ → Button → ℕ → String → Ask
press number button order reference =
    ask.Report (record { number = number; button = button; order = order; place = place reference })

-- an entry of the queue: its rank, since when, the number, and the vehicle where there is one
abbrev pub entry : Rank → ℕ → ℕ → Option Callsign → QueueEntry
entry rank since number callsign = record {
  rank = rank;
  since = since;
  number = number;
  callsign = callsign;
}

-- what the room keeps of a vehicle
abbrev pub holder_of : Callsign → Room → Option ℕ
holder_of c r = option_map (λ v. v.holder) (vehicle_at c r)

abbrev pub status_of : Callsign → Room → Option Status
status_of c r = option_map (λ v. v.status) (vehicle_at c r)

abbrev pub place_of : Callsign → Room → Option Place
place_of c r = option_map (λ v. v.place) (vehicle_at c r)

abbrev pub post_of : Callsign → Room → Option (Option ℕ)
post_of c r = option_map (λ v. v.post) (vehicle_at c r)
