-- A dialogue: what is answered to arrivals at their moments, one after another.
use Rattle.std.specs.Prelude.{◌≡◌, ◌⊎◌, ℕ, List, [], ◌∷◌, ◌++◌, Option, Result, Ok, Err}
use Rattle.std.specs.Io.KnownBytes.{Appends}
use Rattle.room_types.specs.declared.answers.Answer.{Answer}
use Rattle.room_types.specs.declared.asks.Event.{Event}
use Rattle.room_types.specs.declared.fleet.Terminal.{Terminal}
use Rattle.room_types.specs.declared.refusal_statuses.Refusal.{Refusal}
use Rattle.room_types.specs.declared.refusal_statuses.Refusal.TheVariants.{Memory, Storage}
use Rattle.room_model.specs.Room.{Room}
use Rattle.room_http.specs.ReplyMessages.{IsReply}
use Rattle.room_http.specs.MessageEvents.{AsksFor}
use Rattle.room_http.specs.Arrivals.{Arrival, message, refused, is_head_only, is_closing}
use Rattle.room_http.specs.declared.settings.HttpSettings.{HttpSettings}
use Rattle.room_model.specs.Rooms.{Step}

-- an arrival, with the moment at which it is answered
abbrev pub Timed : Type 0
Timed = Arrival × ℕ

-- what an arrival asks for: an event, or the first refusal on the way to it
abbrev pub Finds : HttpSettings → List Terminal → Timed → Result Event Refusal → Type 0
Finds setting terminals (message m, at) found = AsksFor setting terminals m at found
Finds setting terminals (refused r head_only, at) found = found ≡ Err r

-- an event goes to the room; a refusal changes nothing
abbrev pub replied : Step → Result Event Refusal → Room → Room × Result Answer Refusal
replied step (Ok event) room = step event room
replied step (Err r) room = (room, Err r)

module _ (step : Step) (setting : HttpSettings) (terminals : List Terminal) where
  -- the room after an arrival, and the bytes of the answer
  abbrev pub IsReplyTo : Room → Timed → Room → List ℕ → Type 0
  IsReplyTo room x after bytes =
      (found : Result Event Refusal) × Finds setting terminals x found
      × (after ≡ (replied step found room).0)
      × IsReply (replied step found room).1 x.1 (is_head_only x.0) (is_closing x.0) bytes

  -- the room after arrivals, and the bytes of the answers, one after another
  abbrev pub IsDialogue : Room → List Timed → Room → List ℕ → Type 0
  IsDialogue room [] after bytes = (after ≡ room) × (bytes ≡ [])
  IsDialogue room (x ∷ more) after bytes =
      (next : Room) × (first : List ℕ) × (others : List ℕ) × (bytes ≡ first ++ others)
      × IsReplyTo room x next first × IsDialogue next more after others

-- memory fails, or storage, and then the last call of the room was refused
abbrev pub IsCaused : Type 0 → Refusal → Type 0
IsCaused failed refusal = (refusal ≡ Memory) ⊎ ((refusal ≡ Storage) × failed)

-- The room is this one. Where what was held at the beginning was kept, a stop leaves this room
-- only.
abbrev pub Stays : Type 0 → (List Terminal → Room → Type 0) → (List Terminal → List Room → Type 0)
    → List Terminal → Room → Type 0
Stays was_kept stands leaves terminals room =
    stands terminals room × (was_kept → leaves terminals (room ∷ []))

-- A stop leaves this room or that after the event that an arrival asked for.
abbrev pub LeavesNext : Step → HttpSettings → (List Terminal → List Room → Type 0) → Timed
    → List Terminal → Room → Type 0
LeavesNext step setting leaves x terminals room =
    (event : Event) × Finds setting terminals x (Ok event)
    × leaves terminals (room ∷ (step event room).0 ∷ [])

-- For this arrival memory or storage failed, and the room is as before. A stop may leave the
-- one after it.
abbrev pub IsUnserved : Step → HttpSettings → Type 0 → (List Terminal → Room → Type 0)
    → (List Terminal → List Room → Type 0) → Timed → List Terminal → Room → Type 0
IsUnserved step setting was_kept stands leaves x terminals room = stands terminals room
    × (was_kept → leaves terminals (room ∷ []) ⊎ LeavesNext step setting leaves x terminals room)

-- some of the first bytes
abbrev pub IsFront : List ℕ → List ℕ → Type 0
IsFront front bytes = (rest : List ℕ) × (bytes ≡ front ++ rest)

-- the room has acted on the arrival, and its answer was not written, or not wholly
abbrev pub BreaksOff : Step → HttpSettings → List Terminal → (List Terminal → Room → Type 0) → Room
    → Timed → List ℕ → Type 0
BreaksOff step setting terminals stands room x tail =
    (after : Room) × (bytes : List ℕ) × IsReplyTo step setting terminals room x after bytes
    × stands terminals after × IsFront tail bytes

-- Where the room is kept by what gives back what was written: what was written to the other side is
-- the answers to the arrivals, and then a tail, of which something is said, and of the room after
-- them.
abbrev pub WritesDialogue : Step → HttpSettings → Type 0 → (List Terminal → Room → Type 0)
    → Option (List ℕ)
    → Option (List ℕ) → List Timed → (List Terminal → Room → List ℕ → Type 0) → Type 0
WritesDialogue step setting trusted stood held holds outs says =
    trusted → (terminals : List Terminal) (room : Room) → stood terminals room
    → (after : Room) × (bytes : List ℕ) × (tail : List ℕ)
    × IsDialogue step setting terminals room outs after bytes × says terminals after tail
    × Appends held holds (bytes ++ tail)
