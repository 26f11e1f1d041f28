-- What a stream itself decides, and what its arrivals, their moments and the room do.
use Rattle.std.specs.Prelude.{◌≡◌, ◌≤◌, ⊤, ℕ, List, [], ◌∷◌, length}
use Rattle.room_types.specs.declared.fleet.Terminal.{Terminal}
use Rattle.room_model.specs.Room.{Room}
use Rattle.room_http.specs.declared.settings.HttpSettings.{HttpSettings}
use Rattle.room_model.specs.Rooms.{Step}
use Rattle.room_http.specs.Arrivals.{Arrival, message, refused, Begins}
use Rattle.room_http.specs.Dialogues.{Timed, IsDialogue}

-- both are the same message, or both are refused
abbrev pub AreAlike : Arrival → Arrival → Type 0
AreAlike (message m) (message n) = m ≡ n
AreAlike (message m) (refused r head_only) = ⊥
AreAlike (refused r head_only) (message n) = ⊥
AreAlike (refused r head_only) (refused s without) = ⊤

-- each is alike to the one in its place, and there may be more
abbrev pub AreFirstOf : List Arrival → List Arrival → Type 0
AreFirstOf [] many = ⊤
AreFirstOf (o ∷ few) [] = ⊥
AreFirstOf (o ∷ few) (p ∷ many) = AreAlike o p × AreFirstOf few many

-- what a stream begins with is one list of messages, however it was cut into pieces, and differs
-- only in how far it goes
abbrev pub IsOneStream : Type 0
IsOneStream =
    (stream : List ℕ) (few many : List Arrival) (rest left : List ℕ) → Begins stream few rest
    → Begins stream many left → length few ≤ length many
    → AreFirstOf few many

-- equal arrivals at equal moments, in equal rooms, leave equal rooms and get equal bytes
abbrev pub IsOneDialogue : Type 0
IsOneDialogue =
    (step : Step) (setting : HttpSettings) (terminals : List Terminal) (room : Room) (outs : List Timed)
    (after other : Room) (bytes others : List ℕ)
    → IsDialogue step setting terminals room outs after bytes
    → IsDialogue step setting terminals room outs other others
    → (after ≡ other) × (bytes ≡ others)
