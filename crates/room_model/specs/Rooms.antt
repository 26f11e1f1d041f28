-- What a room does with an event, and who shows a token.
use Rattle.std.specs.Prelude.{◌≡◌, ◌⊎◌, List, Option, Result, option_map}
use Rattle.room_types.specs.Texts.{Token}
use Rattle.room_types.specs.declared.answers.Answer.{Answer}
use Rattle.room_types.specs.declared.asks.Event.{Event}
use Rattle.room_types.specs.declared.asks.Who.{Who}
use Rattle.room_types.specs.declared.fleet.Terminal.{Terminal}
use Rattle.room_types.specs.declared.refusal_statuses.Refusal.{Refusal}
use Rattle.room_types.specs.declared.refusal_statuses.Refusal.TheVariants.{Memory, Storage}
use Rattle.room_model.specs.FleetRows.{terminal_at}
use Rattle.room_model.specs.Room.{Room}
use Rattle.room_model.specs.Step.{answer_to, room_after}

-- the room after an event, and the answer to it
abbrev pub Step : Type 0
Step = Event → Room → Room × Result Answer Refusal

-- what the dispatch machine does
abbrev pub machine : Step
machine event room = (room_after event room, answer_to event room)

-- who shows a token
abbrev pub who_at : List Terminal → Token → Option Who
who_at terminals token = option_map (λ t. t.who) (terminal_at token terminals)

-- memory or storage fails
abbrev pub IsUnavailable : Refusal → Type 0
IsUnavailable refusal = (refusal ≡ Memory) ⊎ (refusal ≡ Storage)
