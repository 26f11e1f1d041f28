-- What a sampled step says: the answer and the room after it, what it hands to a division, and
-- which rows decide it.
use Rattle.std.specs.Prelude.{List, Option, Result, ℕ, ◌≡◌}
use Rattle.room_types.specs.Texts.{Callsign}
use Rattle.room_types.specs.declared.answers.Answer.{Answer}
use Rattle.room_types.specs.declared.asks.Ask.{Ask}
use Rattle.room_types.specs.declared.asks.Event.{Event}
use Rattle.room_types.specs.declared.asks.Who.TheVariants.{Crew}
use Rattle.room_types.specs.declared.refusal_statuses.Refusal.{Refusal}
use Rattle.room_model.specs.Isolation.{answers_by, share_by}
use Rattle.room_model.specs.Crossing.{Crossing, cross}
use Rattle.room_model.specs.Room.{Room}
use Rattle.room_model.specs.Shares.{mine, own}
use Rattle.room_model.specs.Step.{answer_to, crew_asks, desk_asks, room_after}
use Rattle.room_model.specs.WorkingRows.{working}
use Rattle.room_model.specs.StepWords.{at}

-- the event is answered so, and leaves this room
abbrev pub Steps : Event → Room → Result Answer Refusal → Room → Type 0
Steps e r answer after = (answer_to e r ≡ answer) × (room_after e r ≡ after)

-- division d is handed this, its desk is informed of it, and only by that its share becomes this
abbrev pub Hands : ℕ → Event → Room → Option Crossing → List (Result Answer Refusal) → Room → Type 0
Hands d e r handed answered share =
    (cross d r e ≡ handed) × (answers_by (own d r) handed ≡ answered)
    × (share_by d (own d r) handed ≡ share) × (own d (room_after e r) ≡ share)

-- the working rows of a desk's ask decide it
abbrev pub ByWorkingRows : ℕ → Ask → ℕ → Room → Type 0
ByWorkingRows d ask t r = desk_asks d ask t (working d ask t r) ≡ desk_asks d ask t r

-- a vehicle's rows decide what its crew asks, and what becomes of them
abbrev pub ByOneVehicle : Callsign → Ask → ℕ → Room → Type 0
ByOneVehicle c ask t r = (crew_asks c ask t (mine c r) ≡ crew_asks c ask t r)
    × (mine c (room_after (at t (Crew c) ask) (mine c r))
    ≡ mine c (room_after (at t (Crew c) ask) r))
