-- A dialogue with the dispatch machine, as a run: what each arrival asked for, and what it was
-- answered.
use Rattle.std.specs.Prelude.{◌≡◌, ⊤, ℕ, List, [], ◌∷◌, Bool, false, filter, flat_map, map, Option}
use Rattle.std.specs.Prelude.{None, Result, Ok, Err}
use Rattle.room_types.specs.declared.answers.Answer.{Answer}
use Rattle.room_types.specs.declared.asks.Event.{Event}
use Rattle.room_types.specs.declared.asks.Who.{Who}
use Rattle.room_types.specs.declared.fleet.Terminal.{Terminal}
use Rattle.room_types.specs.declared.refusal_statuses.Refusal.{Refusal}
use Rattle.room_model.specs.Events.{AreAddressed}
use Rattle.room_model.specs.Room.{Room}
use Rattle.room_model.specs.Run.{is_desk, room_run}
use Rattle.room_http_messages.specs.Messages.{terminal_of}
use Rattle.room_http.specs.ReplyMessages.{IsReply}
use Rattle.room_http.specs.declared.settings.HttpSettings.{HttpSettings}
use Rattle.room_model.specs.Rooms.{machine}
use Rattle.room_http.specs.Arrivals.{Arrival, is_closing, is_head_only, message, refused}
use Rattle.room_http.specs.MessageEvents.{named}
use Rattle.room_http.specs.Dialogues.{Finds, Timed, replied}

-- an arrival, the event that it asked for or the refusal in its place, and the bytes that it was
-- answered with
pub record Exchange : Type 0 where
  pub arrival : Timed
  pub found : Result Event Refusal
  pub bytes : List ℕ

-- an event before others; a refusal is none
abbrev pub event_then : Result Event Refusal → List Event → List Event
event_then (Ok event) events = event ∷ events
event_then (Err r) events = events

-- the events that reached the room
abbrev pub events_of : List Exchange → List Event
events_of [] = []
events_of (x ∷ xs) = event_then x.found (events_of xs)

-- the room after them
abbrev pub room_by : List Exchange → Room → Room
room_by xs room = room_run (events_of xs) room

abbrev pub arrivals_of : List Exchange → List Timed
arrivals_of xs = map (λ x. x.arrival) xs

-- all that was answered, each answer by itself
abbrev pub answers_of : List Exchange → List (List ℕ)
answers_of xs = map (λ x. x.bytes) xs

-- the same, one after another
abbrev pub bytes_of : List Exchange → List ℕ
bytes_of xs = flat_map (λ x. x.bytes) xs

-- the terminal whose token a message shows
abbrev pub asker : List Terminal → Arrival → Option Who
asker terminals (message m) = named terminals (terminal_of m.head)
asker terminals (refused r head_only) = None

abbrev pub is_by_desk : ℕ → Result Event Refusal → Bool
is_by_desk d (Ok event) = is_desk d event.who
is_by_desk d (Err r) = false

-- the exchanges in which the desk of division d asked the room
abbrev pub with_desk : ℕ → List Exchange → List Exchange
with_desk d xs = filter (λ x. is_by_desk d x.found) xs

-- the bytes are this answer to the arrival
abbrev pub HasAnswer : Exchange → Result Answer Refusal → Type 0
HasAnswer x answer =
    IsReply answer x.arrival.1 (is_head_only x.arrival.0) (is_closing x.arrival.0) x.bytes

-- these are the answers, one to each
abbrev pub HaveAnswers : List Exchange → List (Result Answer Refusal) → Type 0
HaveAnswers [] [] = ⊤
HaveAnswers [] (answer ∷ answers) = ⊥
HaveAnswers (x ∷ xs) [] = ⊥
HaveAnswers (x ∷ xs) (answer ∷ answers) = HasAnswer x answer × HaveAnswers xs answers

module _ (setting : HttpSettings) (terminals : List Terminal) where
  -- each is of what the arrival asks for, and is answered as the room answers at its turn
  abbrev pub AreAnswered : List Exchange → Room → Type 0
  AreAnswered [] room = ⊤
  AreAnswered (x ∷ xs) room =
      Finds setting terminals x.arrival x.found × HasAnswer x (replied machine x.found room).1
      × AreAnswered xs (replied machine x.found room).0

  -- a run: its events are of those that the room knows
  pub record IsRun (xs : List Exchange) (room : Room) : Type 0 where
    pub addressed : AreAddressed (events_of xs) room
    pub answered : AreAnswered xs room

  -- the dialogue is the run: of its arrivals, to its room afterwards, with its bytes
  pub record IsRunOf (outs : List Timed) (after : Room) (bytes : List ℕ) (xs : List Exchange)
      (room : Room) : Type 0 where
    pub run : IsRun xs room
    pub arrivals : arrivals_of xs ≡ outs
    pub leads : room_by xs room ≡ after
    pub spoken : bytes_of xs ≡ bytes
