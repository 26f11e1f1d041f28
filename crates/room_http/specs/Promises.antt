-- What the room promises of every run, whatever is asked: the machine's laws, of messages and the
-- bytes that answer them.
use Rattle.std.specs.List.{list_all}
use Rattle.std.specs.Prelude.{◌≡◌, ◌≤◌, ◌⊎◌, ◌+◌, ⊤, ℕ, List, [], ◌∷◌, ◌++◌, None, Some, Result, Ok}
use Rattle.std.specs.Prelude.{Err, is_ok, true}
use Rattle.room_place.specs.Choice.{Among}
use Rattle.room_types.specs.Texts.{Callsign}
use Rattle.room_types.specs.declared.answers.Answer.{Answer}
use Rattle.room_types.specs.declared.asks.Ask.{Ask}
use Rattle.room_types.specs.declared.asks.Ask.TheVariants.{Call, Order, Queue, Report}
use Rattle.room_types.specs.declared.asks.CallForm.{CallForm}
use Rattle.room_types.specs.declared.asks.Event.{Event}
use Rattle.room_types.specs.declared.asks.Press.{Press}
use Rattle.room_types.specs.declared.asks.Who.TheVariants.{Crew}
use Rattle.room_types.specs.declared.fleet.Terminal.{Terminal}
use Rattle.room_types.specs.declared.refusal_statuses.Refusal.{Refusal}
use Rattle.room_types.specs.declared.refusal_statuses.Refusal.TheVariants.{OutsideArea}
use Rattle.room_types.specs.declared.refusal_statuses.Refusal.TheVariants.{SerialReused}
use Rattle.room_types.specs.declared.tables.Assignment.{Assignment}
use Rattle.room_types.specs.declared.tables.Turn.{Turn}
use Rattle.room_model.specs.Isolation.{share_answers, share_run}
use Rattle.room_model.specs.Calls.{outside_again}
use Rattle.room_model.specs.Crossing.{crossings}
use Rattle.room_model.specs.Events.{IsUnlent, NobodyLends, by_crew, by_desk, by_position}
use Rattle.room_model.specs.Events.{is_everyday, received}
use Rattle.room_model.specs.Queries.{kept_call}
use Rattle.room_model.specs.Room.{IsInOrder, Room}
use Rattle.room_model.specs.Run.{desk_answers}
use Rattle.room_model.specs.Shares.{AgreeOn, mine, own}
use Rattle.room_model.specs.Step.{answer_to, room_after}
use Rattle.room_model.specs.RoomAgreements.{IsWellFormed}
use Rattle.room_laws.specs.Exceptions.{Concern, IsDue, IsEnded, IsShown, LooksEvery, looks}
use Rattle.room_laws.specs.Happens.{Happens}
use Rattle.room_laws.specs.Orders.{AreKept, EndsOrder, ReachTheirCrews}
use Rattle.room_http.specs.QueueTexts.{IsAnsweredWith, ShowsOrder, ShowsUrgentFirst}
use Rattle.room_http.specs.declared.settings.HttpSettings.{HttpSettings}
use Rattle.room_http.specs.Runs.{Exchange, HasAnswer, HaveAnswers, IsRun, answers_of, arrivals_of}
use Rattle.room_http.specs.Runs.{asker, events_of, room_by, with_desk}

-- no vehicle is sent to two incidents
pub record AreSentOnce (room : Room) : Type 0 where
  -- over all divisions it has at most one assignment
  pub assigned_once : (a b : Assignment) → Among a room.assignments → Among b room.assignments
      → a.callsign ≡ b.callsign → a ≡ b
  -- and at most one open turn
  pub turned_once : (t u : Turn) → Among t room.turns → Among u room.turns → t.ended ≡ None
      → u.ended ≡ None → t.callsign ≡ u.callsign → t ≡ u
  -- and they name one incident
  pub together : (a : Assignment) (t : Turn) → Among a room.assignments → Among t room.turns
      → t.ended ≡ None → a.callsign ≡ t.callsign
      → (t.division ≡ a.division) × (t.incident ≡ a.incident)

-- In two rooms, and by any two runs: the desk of a division whose shares are equal and that is
-- handed the same is answered with equal bytes to equal messages at equal moments, and the shares
-- stay equal.
pub record IsDeskAlike (d : ℕ) (xs ys : List Exchange) (room other : Room) : Type 0 where
  pub same_answers : arrivals_of (with_desk d xs) ≡ arrivals_of (with_desk d ys)
      → answers_of (with_desk d xs) ≡ answers_of (with_desk d ys)
  pub shares : own d (room_by xs room) ≡ own d (room_by ys other)

-- A message of some kind whose first answer is of this sort, and that is sent again anywhere later,
-- gets its first answer and changes nothing.
abbrev pub ActsOnce : List Exchange → Room → (ℕ → Event) → (Result Answer Refusal → Type 0) → Type 0
ActsOnce xs room sent lasts =
    (before between rest : List Exchange) (first again : Exchange) (at later : ℕ)
    → xs ≡ before ++ first ∷ between ++ again ∷ rest
    → first.found ≡ Ok (sent at) → again.found ≡ Ok (sent later)
    → lasts (answer_to (sent at) (room_by before room))
    → HasAnswer first (answer_to (sent at) (room_by before room))
    × HasAnswer again (answer_to (sent at) (room_by before room))
    × (room_by (before ++ first ∷ between ++ again ∷ []) room
    ≡ room_by (before ++ first ∷ between) room)

-- A call that was refused because its place is in no division, and that is sent again anywhere
-- later, is refused and changes nothing: for its place, or for its serial where that is another
-- call's by then.
abbrev pub StaysOutside : List Exchange → Room → ℕ → CallForm → Type 0
StaysOutside xs room position form =
    (before between rest : List Exchange) (first again : Exchange) (at later : ℕ)
    → xs ≡ before ++ first ∷ between ++ again ∷ rest
    → first.found ≡ Ok (by_position position (Call form) at)
    → again.found ≡ Ok (by_position position (Call form) later)
    → answer_to (by_position position (Call form) at) (room_by before room) ≡ Err OutsideArea
    → let now = room_by (before ++ first ∷ between) room in
    HasAnswer again (Err (outside_again (kept_call position form.serial now)))
    × (room_by (before ++ first ∷ between ++ again ∷ []) room ≡ now)

-- The crew that asks gets the order that stood before some exchanges, unless one of them ended it.
abbrev pub LastsToItsEnd : List Exchange → Room → Type 0
LastsToItsEnd xs room =
    (before between rest : List Exchange) (x : Exchange) (order : Assignment) (at : ℕ)
    → xs ≡ before ++ between ++ x ∷ rest
    → x.found ≡ Ok (by_crew order.callsign Order at)
    → Among order (room_by before room).assignments
    → IsAnsweredWith x order
    ⊎ Happens (λ event now. EndsOrder event now order) (events_of between) (room_by before room)

-- the exchange was answered with the bytes of a queue that shows it
abbrev pub IsShownAt : Concern → Exchange → Type 0
IsShownAt k x = (given : Result Answer Refusal) × HasAnswer x given × IsShown k given

-- The desk is shown it by the bytes of an answer at most y after moment m, or an event before has
-- ended it.
pub record IsSeenAt (d : ℕ) (k : Concern) (y m : ℕ) (xs : List Exchange) (room : Room) : Type 0 where
  pub before : List Exchange
  pub look : Exchange
  pub rest : List Exchange
  pub at : ℕ
  pub split : xs ≡ before ++ look ∷ rest
  pub asked : look.found ≡ Ok (by_desk d Queue at)
  pub in_time : (m ≤ at) × (at ≤ m + y)
  pub seen : IsShownAt k look ⊎ IsEnded d k (events_of before) room

pub record Promises (terminals : List Terminal) (xs : List Exchange) (room : Room) : Type 0 where
  -- the room is asked by the terminal whose token the message shows, at the message's moment
  pub asked_by : (x : Exchange) (event : Event) → Among x xs → x.found ≡ Ok event
      → (asker terminals x.arrival.0 ≡ Some event.who) × (event.at ≡ x.arrival.1)
  -- a division's rows are made of its first rows and of what it was handed
  pub share : (d : ℕ) → own d (room_by xs room)
      ≡ share_run d (crossings d (events_of xs) room) (own d room)
  -- its desk was answered with the bytes of what the room gave it
  pub desk_responses : (d : ℕ) → HaveAnswers (with_desk d xs) (desk_answers d (events_of xs) room)
  -- and they are of what its first rows and what it was handed determine
  pub desk_apart : (d : ℕ) → HaveAnswers (with_desk d xs)
      (share_answers d (crossings d (events_of xs) room) (own d room))
  -- in whatever other room, a desk of an equal share that is handed the same is answered alike
  pub desk_alike : (d : ℕ) (setting : HttpSettings) (others : List Terminal) (ys : List Exchange)
      (other : Room)
      → IsWellFormed other → IsRun setting others ys other → own d room ≡ own d other
      → received (crossings d (events_of xs) room) ≡ received (crossings d (events_of ys) other)
      → IsDeskAlike d xs ys room other
  -- where nothing is lent or offered, and nobody offers a vehicle but so that it is refused, a
  -- division is handed its desk's requests, calls placed in it and reports of vehicles that it
  -- holds, and nothing else
  pub desk_by_itself : (d : ℕ) → IsUnlent room → NobodyLends (events_of xs) room
      → list_all is_everyday (crossings d (events_of xs) room) ≡ true
  -- a crew is answered by its vehicle's rows, and where it asks for its job by its incident's too;
  -- the vehicle's rows afterwards are made of them
  pub crew_alike : (before rest : List Exchange) (x : Exchange) (c : Callsign) (ask : Ask) (at : ℕ)
      (other : Room)
      → xs ≡ before ++ x ∷ rest → x.found ≡ Ok (by_crew c ask at) → IsInOrder other
      → AgreeOn (Crew c) ask (room_by before room) other
      → HasAnswer x (answer_to (by_crew c ask at) other)
      × (mine c (room_by (before ++ x ∷ []) room) ≡ mine c (room_after (by_crew c ask at) other))
  -- what is refused before it reaches the room is answered so in every room, and changes nothing
  pub refused_alike : (before rest : List Exchange) (x : Exchange) (r : Refusal)
      → xs ≡ before ++ x ∷ rest → x.found ≡ Err r
      → HasAnswer x (Err r) × (room_by (before ++ x ∷ []) room ≡ room_by before room)
  -- every room on the way, the first and the last among them, is well-formed
  pub formed : (before rest : List Exchange) → xs ≡ before ++ rest
      → IsWellFormed (room_by before room)
  -- in each of these no vehicle is sent to two incidents
  pub sent_once : (before rest : List Exchange) → xs ≡ before ++ rest
      → AreSentOnce (room_by before room)
  -- a report that is sent again acts once, be it accepted or refused
  pub report_once : (c : Callsign) (press : Press)
      → ActsOnce xs room (by_crew c (Report press)) (λ answer. ⊤)
  -- so does a call that is accepted, or refused because its serial is another's
  pub call_once : (position : ℕ) (form : CallForm)
      → ActsOnce xs room (by_position position (Call form)) (λ answer. is_ok answer ≡ true)
  pub serial_once : (position : ℕ) (form : CallForm)
      → ActsOnce xs room (by_position position (Call form)) (λ answer. answer ≡ Err SerialReused)
  -- and one whose place is in no division stays refused
  pub call_outside : (position : ℕ) (form : CallForm) → StaysOutside xs room position form
  -- a desk that asks for its queue gets what needs an eye, the most urgent first
  pub most_urgent_first : (before rest : List Exchange) (x : Exchange) (d at : ℕ)
      → xs ≡ before ++ x ∷ rest → x.found ≡ Ok (by_desk d Queue at)
      → ShowsUrgentFirst x d at (room_by before room)
  -- only a vehicle that may be sent is given an order, and only what ends an order changes it
  pub order_kept : (before rest : List Exchange) (x : Exchange) (event : Event)
      → xs ≡ before ++ x ∷ rest → x.found ≡ Ok event → AreKept event (room_by before room)
  -- in every room on the way each order reaches the crew of its vehicle, and no other
  pub order_reaches : (before rest : List Exchange) → xs ≡ before ++ rest
      → ReachTheirCrews (room_by before room)
  -- a crew that asks is answered with its vehicle's order
  pub order_shown : (before rest : List Exchange) (x : Exchange) (c : Callsign) (at : ℕ)
      → xs ≡ before ++ x ∷ rest → x.found ≡ Ok (by_crew c Order at)
      → ShowsOrder x c (room_by before room)
  -- and with the same one until its end
  pub order_lasts : LastsToItsEnd xs room
  -- what was due in a queue, shown or not, is in the answer to each later look of its division's
  -- desk, or an event between has ended its cause
  pub exception_stays : (d m at : ℕ) (k : Concern) (before between rest : List Exchange)
      (look : Exchange)
      → xs ≡ before ++ between ++ look ∷ rest → look.found ≡ Ok (by_desk d Queue at) → m ≤ at
      → IsDue d k m (room_by before room)
      → IsShownAt k look ⊎ IsEnded d k (events_of between) (room_by before room)
  -- a desk that looks at most y after its last look is shown what is due at m by m + y, or an event
  -- has ended its cause
  pub exception_appears : (d y m last : ℕ) (k : Concern) (before after : List Exchange)
      → xs ≡ before ++ after → IsDue d k m (room_by before room) → last ≤ m
      → LooksEvery y m last (looks d (events_of after))
      → IsSeenAt d k y m after (room_by before room)
