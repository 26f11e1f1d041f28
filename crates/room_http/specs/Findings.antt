-- What is found of the event that a message asks for.
use Rattle.std.specs.Prelude.{◌≡◌, ◌⊎◌, ℕ, List, [], ◌∷◌, Option, Some, None, true, Result, Ok, Err}
use Rattle.std.specs.Prelude.{MatchResult}
use Rattle.room_types.specs.declared.asks.Event.{Event}
use Rattle.room_types.specs.declared.asks.Who.{Who}
use Rattle.room_types.specs.declared.fleet.Terminal.{Terminal}
use Rattle.room_types.specs.declared.refusal_statuses.Refusal.{Refusal}
use Rattle.room_types.specs.declared.refusal_statuses.Refusal.TheVariants.{NoTerminal, Storage}
use Rattle.room_model.specs.Room.{Room}
use Rattle.room_model.specs.Step.{IsAddressed}
use Rattle.room_http_requests.specs.RequestTable.{is_known}
use Rattle.room_http_messages.specs.declared.messages.Message.{Message}
use Rattle.room_http_messages.specs.Layouts.{Shows}
use Rattle.room_http_messages.specs.Messages.{WholeMessage}
use Rattle.room_http.specs.MessageEvents.{AsksFor, named}
use Rattle.room_http.specs.declared.settings.HttpSettings.{HttpSettings}
use Rattle.room_model.specs.Rooms.{IsUnavailable}

-- The room was asked who shows the token of a field, and stayed as it was. Storage fails only
-- where that call was refused.
pub record FindsTerminal {M : Type 0} (is_trusted has_failed : M → Type 0)
    (stands : M → List Terminal → Room → Type 0) (old new : M) (field : Option (List ℕ))
    (result : Result Who Refusal) : Type 0 where
  pub trusted : is_trusted new → is_trusted old
  pub same : is_trusted new → (terminals : List Terminal) (room : Room) → stands old terminals room
      → stands new terminals room
  pub says : is_trusted new → (terminals : List Terminal) (room : Room) → stands old terminals room
      → MatchResult result
      (λ who. (named terminals field ≡ Some who) × (is_known who room ≡ true))
      (λ refusal. IsUnavailable refusal ⊎ ((refusal ≡ NoTerminal) × (named terminals field ≡ None)))
  pub failed : result ≡ Err Storage → has_failed new

-- The room was asked who shows a token, and stayed as it was. What was found holds of each message
-- that is shown, whatever room is kept. Storage fails only where that call was refused.
pub record FindsMessage {M : Type 0} (is_trusted has_failed : M → Type 0)
    (stands : M → List Terminal → Room → Type 0) (old new : M) (setting : HttpSettings) (shown : Message)
    (at : ℕ) (result : Result Event Refusal) : Type 0 where
  pub trusted : is_trusted new → is_trusted old
  pub same : is_trusted new → (terminals : List Terminal) (room : Room) → stands old terminals room
      → stands new terminals room
  pub says : is_trusted new → (terminals : List Terminal) (room : Room) → stands old terminals room
      → MatchResult result
      (λ event. ((m : WholeMessage) → Shows shown m → AsksFor setting terminals m at (Ok event))
      × IsAddressed event room)
      (λ refusal. IsUnavailable refusal
      ⊎ ((m : WholeMessage) → Shows shown m → AsksFor setting terminals m at (Err refusal)))
  pub failed : result ≡ Err Storage → has_failed new

-- What was held is still kept, unless memory or storage failed; and even then a stop leaves
-- the room that it was.
pub record LooksOnly {M T : Type 0} (is_trusted is_kept : M → Type 0)
    (stands : M → List Terminal → Room → Type 0) (leaves : M → List Terminal → List Room → Type 0)
    (old new : M) (result : Result T Refusal) : Type 0 where
  pub kept : is_trusted new → is_kept old
      → MatchResult result (λ _. is_kept new) (λ refusal. IsUnavailable refusal ⊎ is_kept new)
  pub left : is_trusted new → is_kept old → (terminals : List Terminal) (room : Room)
      → stands old terminals room → leaves new terminals (room ∷ [])
