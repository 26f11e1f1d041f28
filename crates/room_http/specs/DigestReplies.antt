-- What one request gets for an answer where it is to lead to a digest.
use Rattle.std.specs.Prelude.{◌≡◌, ℕ, List, Vec, Result, IfErr, MatchResult}
use Rattle.room_types.specs.declared.asks.Event.{Event}
use Rattle.room_types.specs.declared.fleet.Terminal.{Terminal}
use Rattle.room_types.specs.declared.refusal_statuses.Refusal.{Refusal}
use Rattle.room_model.specs.Room.{Room}
use Rattle.room_http.specs.declared.arrivals.Arrived.{Arrived}
use Rattle.room_http.specs.Arrivals.{Arrival, IsShown}
use Rattle.room_http.specs.Dialogues.{Finds, IsReplyTo, Timed, replied}
use Rattle.room_http.specs.declared.settings.HttpSettings.{HttpSettings}
use Rattle.room_model.specs.Digests.{DigitsOf, IsHeadOf, IsMiss}
use Rattle.room_model.specs.Rooms.{Step}
use Rattle.room_model.specs.declared.digests.StartDigest.{StartDigest}
use Rattle.room_model.specs.declared.digests.DigestMismatch.{DigestMismatch}
use Rattle.room_model.specs.declared.digests.DigestMismatch.TheVariants.{OtherDigest}

-- after this arrival the room would have another digest than that of this head
abbrev pub LeadsToAnother : Step → HttpSettings → DigitsOf → List Terminal → Room → Timed
    → StartDigest → Type 0
LeadsToAnother step setting digits_of terminals room x head =
    (found : Result Event Refusal) × Finds setting terminals x found
    × (¬ (IsHeadOf digits_of head terminals (replied step found room).0))

-- The bytes are the answer, and the room is the one after it, which the head shows. Or there are
-- none, and the room is as it was: it would have come to another digest, if it hasn't the digest
-- already; or memory or storage fails. What was kept is kept, unless memory or storage
-- fails.
pub record RepliesTowards {M A : Type 0} (step : Step) (digits_of : DigitsOf)
    (is_trusted is_kept : M → Type 0) (stands : M → List Terminal → Room → Type 0) (old new : M)
    (setting : HttpSettings) (request : Arrived) (at : ℕ) (head : StartDigest)
    (result : Result (Vec ℕ A) DigestMismatch) : Type 0 where
  pub trusted : is_trusted new → is_trusted old
  pub unavailable : IfErr result IsMiss
  pub says : is_trusted new → (terminals : List Terminal) (room : Room) → stands old terminals room
      → MatchResult result
      (λ bytes. (o : Arrival) → IsShown request o
      → (after : Room) × IsReplyTo step setting terminals room (o, at) after bytes.items
      × IsHeadOf digits_of head terminals after × stands new terminals after)
      (λ miss. stands new terminals room
      × (miss ≡ OtherDigest → (¬ (IsHeadOf digits_of head terminals room)) → (o : Arrival)
      → IsShown request o → LeadsToAnother step setting digits_of terminals room (o, at) head))
  pub kept : is_trusted new → is_kept old
      → MatchResult result (λ _. is_kept new) (λ miss. miss ≡ OtherDigest → is_kept new)
