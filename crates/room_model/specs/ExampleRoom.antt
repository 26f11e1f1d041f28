-- The example room: two divisions side by side, five vehicles off duty, and nothing else.
use Prim.Native.String.{String}
use Rattle.std.specs.Prelude.{None, [], codes, ℕ, ◌∷◌}
use Rattle.room_place.specs.declared.plans.Area.{Area}
use Rattle.room_types.specs.Texts.{Callsign}
use Rattle.room_types.specs.declared.asks.Ask.TheVariants as ask
use Rattle.room_types.specs.declared.asks.Event.{Event}
use Rattle.room_types.specs.declared.asks.Who.TheVariants.{Desk}
use Rattle.room_types.specs.declared.codes.Kind.TheVariants.{Ambulance, Car}
use Rattle.room_types.specs.declared.codes.Kind.{Kind}
use Rattle.room_types.specs.declared.codes.State.TheVariants.{Active}
use Rattle.room_types.specs.declared.codes.Status.TheVariants.{OffDuty}
use Rattle.room_types.specs.declared.tables.Division.{Division}
use Rattle.room_types.specs.declared.tables.Incident.{Incident}
use Rattle.room_types.specs.declared.tables.Vehicle.{Vehicle}
use Rattle.room_model.specs.Room.{Room}
use Rattle.room_model.specs.StepWords.{at, needs, place}

abbrev pub A1 : Callsign
A1 = codes "A1"

abbrev pub A2 : Callsign
A2 = codes "A2"

abbrev pub A3 : Callsign
A3 = codes "A3"

abbrev pub B1 : Callsign
B1 = codes "B1"

abbrev pub C1 : Callsign
C1 = codes "C1"

-- a rectangle of a division's area
abbrev pub area : ℕ → ℕ → ℕ → ℕ → ℕ → Area
area division west south east north = record {
  division = division;
  rect = record { west = west; south = south; east = east; north = north };
}

-- a division that gave no number yet
abbrev pub fresh_division : ℕ → Division
fresh_division number = record { number = number; last_incident = 0 }

-- a vehicle at home that was never on duty
abbrev pub fresh_vehicle : Callsign → ℕ → Kind → String → Vehicle
fresh_vehicle callsign home kind reference = record {
  callsign = callsign;
  home = home;
  holder = home;
  kind = kind;
  place = place reference;
  status = OffDuty;
  shift_end = 0;
  post = None;
  last_order = 0;
  last_report = 0;
}

abbrev pub example_room : Room
example_room = record {
  plan = area 1 500000 100000 549999 199999 ∷ area 2 550000 100000 599999 199999 ∷ [];
  divisions = fresh_division 1 ∷ fresh_division 2 ∷ [];
  incidents = [];
  calls = [];
  vehicles = fresh_vehicle A1 1 Ambulance "TQ303804"
      ∷ fresh_vehicle A2 1 Ambulance "TQ304803"
      ∷ fresh_vehicle A3 1 Ambulance "TQ300801"
      ∷ fresh_vehicle B1 2 Ambulance "TQ600800"
      ∷ fresh_vehicle C1 1 Car "TQ300800" ∷ [];
  turns = [];
  assignments = [];
  points = [];
  loans = [];
  offers = [];
  reports = [];
}

-- the first division's vehicles go on duty where they are, A1 until this moment
abbrev pub a1_on_duty_until : ℕ → Event
a1_on_duty_until until = at 1000 (Desk 1) (ask.Duty A1 (place "TQ303804") until)

abbrev pub a1_on_duty : Event
a1_on_duty = a1_on_duty_until 50000

abbrev pub a2_on_duty : Event
a2_on_duty = at 1000 (Desk 1) (ask.Duty A2 (place "TQ304803") 50000)

abbrev pub a3_on_duty : Event
a3_on_duty = at 1000 (Desk 1) (ask.Duty A3 (place "TQ300801") 50000)

-- an active incident of division 1, of class 2, for one ambulance, that nobody was sent to
abbrev pub fresh_incident : ℕ → String → ℕ → Incident
fresh_incident number reference opened = record {
  division = 1;
  number = number;
  place = place reference;
  class = 2;
  needs = needs 1 0 0;
  opened = opened;
  first_order = None;
  state = Active;
}
