-- What one request gets for an answer.
use Rattle.std.specs.Prelude.{◌⊎◌, ℕ, List, [], ◌∷◌, Vec, Result, IfErr, MatchResult, OnErr, OnOk}
use Rattle.room_types.specs.declared.fleet.Terminal.{Terminal}
use Rattle.room_types.specs.declared.refusal_statuses.Refusal.{Refusal}
use Rattle.room_model.specs.Room.{Room}
use Rattle.room_http.specs.declared.arrivals.Arrived.{Arrived}
use Rattle.room_http.specs.Arrivals.{Arrival, IsShown}
use Rattle.room_http.specs.declared.settings.HttpSettings.{HttpSettings}
use Rattle.room_model.specs.Rooms.{Step}
use Rattle.room_http.specs.Dialogues.{IsCaused, IsReplyTo, LeavesNext}

-- the bytes are the answer, and the room is the one after it; or memory or storage fails, and
-- the room is as it was
pub record Replies {M A : Type 0} (step : Step) (is_trusted has_failed : M → Type 0)
    (stands : M → List Terminal → Room → Type 0) (old new : M) (setting : HttpSettings)
    (request : Arrived) (at : ℕ) (result : Result (Vec ℕ A) Refusal) : Type 0 where
  pub trusted : is_trusted new → is_trusted old
  pub unavailable : IfErr result (IsCaused (has_failed new))
  pub says : is_trusted new → (terminals : List Terminal) (room : Room) → stands old terminals room
      → MatchResult result
      (λ bytes. (o : Arrival) → IsShown request o
      → (after : Room) × IsReplyTo step setting terminals room (o, at) after bytes.items
      × stands new terminals after)
      (λ _. stands new terminals room)

-- Once the bytes are there, the room after it is kept. Where there are none, a stop leaves the room
-- as it was, or the one after the event.
pub record KeepsReply {M A : Type 0} (step : Step) (is_trusted is_kept : M → Type 0)
    (stands : M → List Terminal → Room → Type 0) (leaves : M → List Terminal → List Room → Type 0)
    (old new : M) (setting : HttpSettings) (request : Arrived) (at : ℕ)
    (result : Result (Vec ℕ A) Refusal) : Type 0 where
  pub kept : is_trusted new → OnOk result (is_kept old → is_kept new)
  pub left : is_trusted new → OnErr result
      (is_kept old → (terminals : List Terminal) (room : Room) → stands old terminals room
      → (o : Arrival) → IsShown request o
      → leaves new terminals (room ∷ [])
      ⊎ LeavesNext step setting (leaves new) (o, at) terminals room)
