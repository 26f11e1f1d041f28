-- What happens in a run, step by step: moves that are made are several steps.
use Rattle.std.specs.Prelude.{Bool, List, [], cond, is_ok, ◌∷◌, ⊤, ◌⊎◌}
use Rattle.room_types.specs.declared.asks.Ask.{Ask}
use Rattle.room_types.specs.declared.asks.Ask.TheVariants.{Moves}
use Rattle.room_types.specs.declared.asks.Event.{Event}
use Rattle.room_types.specs.declared.asks.Who.{Who}
use Rattle.room_types.specs.declared.asks.Who.TheVariants.{Desk}
use Rattle.room_model.specs.Moves.{one_by_one}
use Rattle.room_model.specs.Room.{Room}
use Rattle.room_model.specs.Step.{decided, moves_in, room_after}

-- what each move asks, where all are made, and nothing where they are refused; any other event is
-- one step
abbrev pub steps_by : Who → Ask → Event → Room → List Event
steps_by (Desk d) (Moves ms) event room =
    cond (is_ok (decided event room)) (one_by_one d (moves_in ms) event.at) []
steps_by who asked event room = event ∷ []

-- the steps of an event in the room that it meets
abbrev pub steps_of : Event → Room → List Event
steps_of event room = steps_by event.who event.ask event room

-- one of these steps is such, in the room that it meets
abbrev pub HappensIn : (Event → Room → Type 0) → List Event → Room → Type 0
HappensIn Is [] room = ⊥
HappensIn Is (step ∷ steps) room = Is step room ⊎ HappensIn Is steps (room_after step room)

-- each of them is
abbrev pub HoldsIn : (Event → Room → Type 0) → List Event → Room → Type 0
HoldsIn Is [] room = ⊤
HoldsIn Is (step ∷ steps) room = Is step room × HoldsIn Is steps (room_after step room)

-- some step of an event of the run is such
abbrev pub Happens : (Event → Room → Type 0) → List Event → Room → Type 0
Happens Is [] room = ⊥
Happens Is (event ∷ events) room =
    HappensIn Is (steps_of event room) room ⊎ Happens Is events (room_after event room)
