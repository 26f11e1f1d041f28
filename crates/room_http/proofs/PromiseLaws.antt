-- Every run of a connection keeps the promises.
use Rattle.std.proofs.Common.{◌≡◌, ◌∙◌, ap, append_assoc, inl, inr, refl, subst, sym, ℕ, List, []}
use Rattle.std.proofs.Common.{◌∷◌, ◌++◌, Bool, true, Some, Result, Ok, Err}
use Rattle.std.specs.Prelude.{None, Option, cond, false, is_ok, is_some, ⊤, ◌≤◌, ◌⊎◌}
use Rattle.room_place.specs.Choice.{Among}
use Rattle.room_types.specs.Texts.{Callsign}
use Rattle.room_types.specs.declared.answers.Answer.{Answer}
use Rattle.room_types.specs.declared.answers.Answer.TheVariants as answer
use Rattle.room_types.specs.declared.asks.Ask.{Ask}
use Rattle.room_types.specs.declared.asks.Ask.TheVariants.{Call, Order, Queue, Report}
use Rattle.room_types.specs.declared.asks.CallForm.{CallForm}
use Rattle.room_types.specs.declared.asks.Event.{Event}
use Rattle.room_types.specs.declared.asks.Who.TheVariants.{Crew}
use Rattle.room_types.specs.declared.fleet.Terminal.{Terminal}
use Rattle.room_types.specs.declared.refusal_statuses.Refusal.{Refusal}
use Rattle.room_types.specs.declared.refusal_statuses.Refusal.TheVariants.{SerialReused}
use Rattle.room_types.specs.declared.tables.Vehicle.{Vehicle}
use Rattle.room_laws.proofs.OrderLaws.{orders_kept, stays_in}
use Rattle.room_laws.proofs.OrdersReach.{orders_reach, to_crew}
use Rattle.room_laws.proofs.UrgentQueues.{desk_sees}
use Rattle.room_model.proofs.AssignedOnce.{of_one_order, one_assignment, one_open_turn}
use Rattle.room_model.proofs.CrewLaws.{agreed_rows, crew_alike, mine_equal}
use Rattle.room_model.proofs.KeptEvents.{addressed_run, addressed_still, run_kept}
use Rattle.room_model.proofs.RefusedAgain.{outside_still, report_answered_again, serial_again}
use Rattle.room_model.proofs.RepeatLaws.{call_repeated}
use Rattle.room_model.proofs.Runs.{equal_answers, equal_shares, meet_well_formed, run_answers}
use Rattle.room_model.proofs.Runs.{run_everyday, run_share}
use Rattle.room_model.proofs.Unlent.{unlent_run}
use Rattle.room_model.specs.Calls.{outside_again}
use Rattle.room_model.specs.Crossing.{crossings}
use Rattle.room_model.specs.Decisions.{answer_of, changes_of}
use Rattle.room_model.specs.Events.{AreAddressed, OnlyAnswers, by_crew, by_desk, by_position}
use Rattle.room_model.specs.Events.{received}
use Rattle.room_model.specs.Queries.{assignment_at, kept_call, vehicle_at}
use Rattle.room_model.specs.Reports.{order_of}
use Rattle.room_model.specs.Room.{IsInOrder, Room}
use Rattle.room_model.specs.Run.{desk_answers, is_desk, room_run}
use Rattle.room_model.specs.Shares.{AgreeOn, mine, own}
use Rattle.room_model.specs.Step.{IsAddressed, answer_to, decided, room_after}
use Rattle.room_model.specs.RoomAgreements.{IsWellFormed}
use Rattle.room_laws.proofs.Looks.{is_shown, look_in_time}
use Rattle.room_laws.proofs.Stays.{due_still}
use Rattle.room_laws.specs.Exceptions.{Concern, IsDue, IsEnded, LooksEvery, looks}
use Rattle.room_http.proofs.Dates.{one_reply_law}
use Rattle.room_http.specs.ReplyMessages.{IsReply}
use Rattle.room_http.specs.declared.settings.HttpSettings.{HttpSettings}
use Rattle.room_model.specs.Rooms.{machine}
use Rattle.room_http.specs.Arrivals.{is_closing, is_head_only}
use Rattle.room_http.specs.Promises.{ActsOnce, AreSentOnce, IsDeskAlike, IsSeenAt, IsShownAt}
use Rattle.room_http.specs.Promises.{LastsToItsEnd, Promises, StaysOutside}
use Rattle.room_http.specs.QueueTexts.{EndsWith, ShowsOrder, ShowsUrgentFirst}
use Rattle.room_http.proofs.QueueTextLemmas.{ends_with, queue_content}
use Rattle.room_http.specs.Runs.{AreAnswered, Exchange, HasAnswer, HaveAnswers, IsRun, answers_of}
use Rattle.room_http.specs.Runs.{arrivals_of, asker, event_then, events_of, is_by_desk, room_by}
use Rattle.room_http.specs.Runs.{with_desk}
use Rattle.room_http.specs.Dialogues.{Finds, Timed, replied}
use Rattle.room_http.proofs.RunLemmas.{found_asked_by, room_push, room_split, run_first}

-- ---- parts of a run
module _ (known : Room) where
  addressed_early : (before rest : List Exchange) → AreAddressed (events_of (before ++ rest)) known
      → AreAddressed (events_of before) known
  addressed_early [] rest all = tt
  addressed_early (x ∷ before) rest all = go x.found (addressed_early before rest) all
    where
      go : (found : Result Event Refusal)
          → (AreAddressed (events_of (before ++ rest)) known
          → AreAddressed (events_of before) known)
          → AreAddressed (event_then found (events_of (before ++ rest))) known
          → AreAddressed (event_then found (events_of before)) known
      go (Ok event) early all = (all.0, all.1, early all.2)
      go (Err r) early all = early all

  -- the room knows who asks of each
  addressed_in : (before rest : List Exchange) (x : Exchange) (event : Event)
      → x.found ≡ Ok event → AreAddressed (events_of (before ++ x ∷ rest)) known
      → IsAddressed event known
  addressed_in [] rest x event is all =
      (subst (λ (found : Result Event Refusal). AreAddressed (event_then found (events_of rest)) known) is all).0
  addressed_in (y ∷ before) rest x event is all = go y.found (addressed_in before rest x event is) all
    where
      go : (found : Result Event Refusal)
          → (AreAddressed (events_of (before ++ x ∷ rest)) known → IsAddressed event known)
          → AreAddressed (event_then found (events_of (before ++ x ∷ rest))) known
          → IsAddressed event known
      go (Ok e) early all = early all.2
      go (Err r) early all = early all

  addressed_late : (before rest : List Exchange) → AreAddressed (events_of (before ++ rest)) known
      → AreAddressed (events_of rest) known
  addressed_late [] rest all = all
  addressed_late (x ∷ before) rest all = go x.found (addressed_late before rest) all
    where
      go : (found : Result Event Refusal)
          → (AreAddressed (events_of (before ++ rest)) known → AreAddressed (events_of rest) known)
          → AreAddressed (event_then found (events_of (before ++ rest))) known
          → AreAddressed (events_of rest) known
      go (Ok event) late all = late all.2
      go (Err r) late all = late all

-- what is addressed stays so
addressed_on : (first events : List Event) (room : Room) → AreAddressed events room
    → AreAddressed events (room_run first room)
addressed_on [] events room all = all
addressed_on (e ∷ first) events room all =
    addressed_on first events (room_after e room) (addressed_still events room (changes_of (decided e room)) all)

addressed_later : (before rest : List Exchange) (room : Room)
    → AreAddressed (events_of (before ++ rest)) room
    → AreAddressed (events_of rest) (room_by before room)
addressed_later before rest room all =
    addressed_on (events_of before) (events_of rest) room (addressed_late room before rest all)

-- what an arrival is answered, after those before it
answer_at : (setting : HttpSettings) (terminals : List Terminal) (before rest : List Exchange) (x : Exchange)
    (room : Room) → AreAnswered setting terminals (before ++ x ∷ rest) room
    → HasAnswer x (replied machine x.found (room_by before room)).1
answer_at setting terminals [] rest x room are = are.1
answer_at setting terminals (y ∷ before) rest x room are =
    subst (λ r. HasAnswer x (replied machine x.found r).1) (sym (run_first y.found (events_of before) room))
    (answer_at setting terminals before rest x (replied machine y.found room).0 are.2)

-- who asks of one of them
asked_in : (setting : HttpSettings) (terminals : List Terminal) (xs : List Exchange) (room : Room)
    → AreAnswered setting terminals xs room
    → (x : Exchange) (event : Event) → Among x xs → x.found ≡ Ok event
    → (asker terminals x.arrival.0 ≡ Some event.who) × (event.at ≡ x.arrival.1)
asked_in setting terminals [] room are x event there is = absurd there
asked_in setting terminals (y ∷ xs) room are x event (inl same) is =
    found_asked_by setting terminals x.arrival (Ok event)
    (rw is at (subst (λ (z : Exchange). Finds setting terminals z.arrival z.found) (sym same) are.0))
asked_in setting terminals (y ∷ xs) room are x event (inr there) is =
    asked_in setting terminals xs (replied machine y.found room).0 are.2 x event there is

-- ---- what a desk is answered
answers_apart : (d : ℕ) (b : Bool) (x : Exchange) (xs : List Exchange)
    (answer : Result Answer Refusal) (answers : List (Result Answer Refusal))
    → HasAnswer x answer → HaveAnswers xs answers
    → HaveAnswers (cond b (x ∷ xs) xs) (cond b (answer ∷ answers) answers)
answers_apart d true x xs answer answers first rest = (first, rest)
answers_apart d false x xs answer answers first rest = rest

desk_answered : (setting : HttpSettings) (terminals : List Terminal) (d : ℕ) (xs : List Exchange)
    (room : Room) → AreAnswered setting terminals xs room
    → HaveAnswers (with_desk d xs) (desk_answers d (events_of xs) room)
desk_answered setting terminals d [] room are = tt
desk_answered setting terminals d (x ∷ xs) room are =
    go x.found are.1 (desk_answered setting terminals d xs (replied machine x.found room).0 are.2)
  where
    go : (found : Result Event Refusal) → HasAnswer x (replied machine found room).1
        → HaveAnswers (with_desk d xs) (desk_answers d (events_of xs) (replied machine found room).0)
        → HaveAnswers (cond (is_by_desk d found) (x ∷ with_desk d xs) (with_desk d xs))
        (desk_answers d (event_then found (events_of xs)) room)
    go (Ok event) first rest =
        answers_apart d (is_desk d event.who) x (with_desk d xs) (answer_to event room)
        (desk_answers d (events_of xs) (room_after event room)) first rest
    go (Err r) first rest = rest

-- equal answers to equal arrivals are equal bytes
answers_alike : (xs ys : List Exchange) (answers : List (Result Answer Refusal)) → HaveAnswers xs answers
    → HaveAnswers ys answers → arrivals_of xs ≡ arrivals_of ys → answers_of xs ≡ answers_of ys
answers_alike [] [] answers are also same = refl
answers_alike [] (y ∷ ys) answers are also same = cc
answers_alike (x ∷ xs) [] answers are also same = cc
answers_alike (x ∷ xs) (y ∷ ys) [] are also same = absurd are
answers_alike (x ∷ xs) (y ∷ ys) (answer ∷ answers) are also same =
    let first : x.arrival ≡ y.arrival = cc in
    let rest : arrivals_of xs ≡ arrivals_of ys = cc in
    let again = subst (λ (o : Timed). IsReply answer o.1 (is_head_only o.0) (is_closing o.0) x.bytes) first are.0 in
    let bytes = one_reply_law answer y.arrival.1 (is_head_only y.arrival.0) (is_closing y.arrival.0) x.bytes y.bytes
    again also.0 in
    λ i. bytes i ∷ answers_alike xs ys answers are.1 also.1 rest i

-- ---- what a queue shows
-- an event of a run is that of an exchange
record IsExchangeOf (xs : List Exchange) (early : List Event) (event : Event) : Type 0 where
  before : List Exchange
  look : Exchange
  rest : List Exchange
  split : xs ≡ before ++ look ∷ rest
  asked : look.found ≡ Ok event
  events : events_of before ≡ early

same_first : (a b : Event) (ones others : List Event) → a ∷ ones ≡ b ∷ others → a ≡ b
same_first a b ones others h = cc

same_rest : (a b : Event) (ones others : List Event) → a ∷ ones ≡ b ∷ others → ones ≡ others
same_rest a b ones others h = cc

-- with one exchange more in front
one_further : (x : Exchange) (xs : List Exchange) (early_here early_there : List Event) (event : Event)
    → ((before : List Exchange) → events_of before ≡ early_there → events_of (x ∷ before) ≡ early_here)
    → IsExchangeOf xs early_there event → IsExchangeOf (x ∷ xs) early_here event
one_further x xs early_here early_there event events is = record {
  before = x ∷ is.before;
  look = is.look;
  rest = is.rest;
  split = ap (λ (ys : List Exchange). x ∷ ys) is.split;
  asked = is.asked;
  events = events is.before is.events;
}

exchange_of : (xs : List Exchange) (early late : List Event) (event : Event)
    → events_of xs ≡ early ++ event ∷ late → IsExchangeOf xs early event
exchange_of [] [] late event h = cc
exchange_of [] (e ∷ early) late event h = cc
exchange_of (x ∷ xs) early late event h =
    go (λ early h. exchange_of xs early late event h) early x.found refl h
  where
    go : ((early : List Event) → events_of xs ≡ early ++ event ∷ late → IsExchangeOf xs early event)
        → (early : List Event) (found : Result Event Refusal) → x.found ≡ found
        → event_then found (events_of xs) ≡ early ++ event ∷ late → IsExchangeOf (x ∷ xs) early event
    go again early (Err r) is h =
        one_further x xs early early event
        (λ before same. ap (λ (f : Result Event Refusal). event_then f (events_of before)) is ∙ same)
        (again early h)
    go again [] (Ok e) is h = record {
      before = [];
      look = x;
      rest = xs;
      split = refl;
      asked = is ∙ ap Ok (same_first e event (events_of xs) late h);
      events = refl;
    }
    go again (f ∷ early) (Ok e) is h =
        one_further x xs (f ∷ early) early event
        (λ before same.
        ap (λ (g : Result Event Refusal). event_then g (events_of before)) is
        ∙ (ap (λ (a : Event). a ∷ events_of before) (same_first e f (events_of xs) (early ++ event ∷ late) h)
        ∙ ap (λ (es : List Event). f ∷ es) same))
        (again early (same_rest e f (events_of xs) (early ++ event ∷ late) h))

-- ---- the promises
sent_once_in : (room : Room) → IsWellFormed room → AreSentOnce room
sent_once_in room formed = record {
  assigned_once = one_assignment room formed;
  turned_once = one_open_turn room formed;
  together =
      λ a t here there unended same. let is = of_one_order room formed a t here there unended same in (is.0, is.1);
}

module _ (setting : HttpSettings) (terminals : List Terminal) (xs : List Exchange) (room : Room)
    (formed : IsWellFormed room) (run : IsRun setting terminals xs room) where
  -- every room on the way is well-formed
  formed_at : (before rest : List Exchange) → xs ≡ before ++ rest
      → IsWellFormed (room_by before room)
  formed_at before rest split =
      run_kept (events_of before) room formed
      (addressed_early room before rest (subst (λ l. AreAddressed (events_of l) room) split run.addressed))

  answer_in : (before rest : List Exchange) (x : Exchange) (found : Result Event Refusal)
      → xs ≡ before ++ x ∷ rest → x.found ≡ found
      → HasAnswer x (replied machine found (room_by before room)).1
  answer_in before rest x found split is =
      subst (λ (found : Result Event Refusal). HasAnswer x (replied machine found (room_by before room)).1) is
      (answer_at setting terminals before rest x room
      (subst (λ l. AreAnswered setting terminals l room) split run.answered))

  room_on : (before : List Exchange) (x : Exchange) (found : Result Event Refusal)
      → x.found ≡ found → room_by (before ++ x ∷ []) room
      ≡ (replied machine found (room_by before room)).0
  room_on before x found is =
      room_push before x room
      ∙ ap (λ (found : Result Event Refusal). (replied machine found (room_by before room)).0) is

  -- the room before an arrival is in order, and knows who asks
  known_at : (before rest : List Exchange) (x : Exchange) (event : Event)
      → xs ≡ before ++ x ∷ rest → x.found ≡ Ok event
      → IsInOrder (room_by before room) × IsAddressed event (room_by before room)
  known_at before rest x event split is = (
    (formed_at before (x ∷ rest) split).order,
    addressed_run (events_of before) room event
        (addressed_in room before rest x event is (subst (λ l. AreAddressed (events_of l) room) split run.addressed)),
  )

  -- the room after an event, and those of others
  after : (before between : List Exchange) (first : Exchange) (event : Event)
      → first.found ≡ Ok event → room_by (before ++ first ∷ between) room
      ≡ room_run (events_of between) (room_after event (room_by before room))
  after before between first event is =
      room_split before (first ∷ between) room ∙ run_first first.found (events_of between) (room_by before room)
      ∙ ap
      (λ (found : Result Event Refusal). room_run (events_of between) (replied machine found (room_by before room)).0)
      is

  alike : (d : ℕ) (zone_there : HttpSettings) (terminals_there : List Terminal) (ys : List Exchange)
      (other : Room) → IsWellFormed other → IsRun zone_there terminals_there ys other
      → own d room ≡ own d other → received (crossings d (events_of xs) room)
      ≡ received (crossings d (events_of ys) other) → IsDeskAlike d xs ys room other
  alike d zone_there terminals_there ys other good runs same handed =
      let meets = meet_well_formed (events_of xs) room formed run.addressed in
      let meet = meet_well_formed (events_of ys) other good runs.addressed in
      let answers = equal_answers d (events_of xs) (events_of ys) room other meets meet same handed in
      let here = desk_answered setting terminals d xs room run.answered in
      let there = desk_answered zone_there terminals_there d ys other runs.answered in
      record {
        same_answers =
            answers_alike (with_desk d xs) (with_desk d ys) (desk_answers d (events_of ys) other)
            (subst (HaveAnswers (with_desk d xs)) answers here) there;
        shares = equal_shares d (events_of xs) (events_of ys) room other meets meet same handed;
      }

  crew : (before rest : List Exchange) (x : Exchange) (c : Callsign) (ask : Ask) (at : ℕ)
      (other : Room) → xs ≡ before ++ x ∷ rest → x.found ≡ Ok (by_crew c ask at)
      → IsInOrder other → AgreeOn (Crew c) ask (room_by before room) other
      → HasAnswer x (answer_to (by_crew c ask at) other)
      × (mine c (room_by (before ++ x ∷ []) room) ≡ mine c (room_after (by_crew c ask at) other))
  crew before rest x c ask at other split is in_order agree =
      let order = (formed_at before (x ∷ rest) split).order in (
        subst (HasAnswer x)
            (ap answer_of (crew_alike c (room_by before room) other order in_order ask at agree))
            (answer_in before rest x (Ok (by_crew c ask at)) split is),
        ap (mine c) (room_on before x (Ok (by_crew c ask at)) is)
            ∙ mine_equal c ask at (room_by before room) other order in_order
            (agreed_rows c (room_by before room) other ask agree),
      )

  -- what is only answered when it comes again is answered so, and changes nothing
  answered_again : (sent : ℕ → Event) (before between rest : List Exchange) (first again : Exchange)
      (at later : ℕ) (answer : Result Answer Refusal)
      → xs ≡ before ++ first ∷ between ++ again ∷ rest
      → first.found ≡ Ok (sent at) → again.found ≡ Ok (sent later)
      → OnlyAnswers (sent later) (room_run (events_of between) (room_after (sent at) (room_by before room))) answer
      → (HasAnswer first (answer_to (sent at) (room_by before room)) × HasAnswer again answer)
      × (room_by (before ++ first ∷ between ++ again ∷ []) room
      ≡ room_by (before ++ first ∷ between) room)
  answered_again sent before between rest first again at later answer split is is_again law =
      let s = room_by before room in
      let early = before ++ first ∷ between in
      let split_first : xs
      ≡ before ++ first ∷ (between ++ again ∷ rest) = split ∙ append_assoc before (first ∷ between) (again ∷ rest) in
      let only : OnlyAnswers (sent later) (room_by early room) answer = subst
      (λ now. OnlyAnswers (sent later) now answer) (sym (after before between first (sent at) is)) law in (
        (
          answer_in before (between ++ again ∷ rest) first (Ok (sent at)) split_first is,
          subst (HasAnswer again) only.1 (answer_in early rest again (Ok (sent later)) split is_again),
        ),
        room_on early again (Ok (sent later)) is_again ∙ only.0,
      )

  -- what acts once in a room that is in order and knows who asks acts once in every run
  once : (sent : ℕ → Event) (lasts : Result Answer Refusal → Type 0)
      → ((at later : ℕ) (s : Room) (between : List Event) → IsInOrder s → IsAddressed (sent at) s
      → lasts (answer_to (sent at) s)
      → OnlyAnswers (sent later) (room_run between (room_after (sent at) s))
      (answer_to (sent at) s))
      → ActsOnce xs room sent lasts
  once sent lasts law before between rest first again at later split is is_again ok =
      let s = room_by before room in
      let is_on = known_at before (between ++ again ∷ rest) first (sent at)
      (split ∙ append_assoc before (first ∷ between) (again ∷ rest)) is in
      let desk_answers = answered_again sent before between rest first again at later (answer_to (sent at) s) split is
      is_again
      (law at later s (events_of between) is_on.0 is_on.1 ok) in
      (desk_answers.0.0, desk_answers.0.1, desk_answers.1)

  serial : (position : ℕ) (form : CallForm)
      → ActsOnce xs room (by_position position (Call form)) (λ answer. answer ≡ Err SerialReused)
  serial position form =
      let sent = by_position position (Call form) in
      once sent (λ answer. answer ≡ Err SerialReused) (λ at later s between in_order known refused.
      subst (OnlyAnswers (sent later) (room_run between (room_after (sent at) s))) (sym refused)
      (serial_again position form at s between in_order refused later))

  outside : (position : ℕ) (form : CallForm) → StaysOutside xs room position form
  outside position form before between rest first again at later split is is_again refused =
      let sent = by_position position (Call form) in
      let s = room_by before room in
      let now = after before between first (sent at) is in
      let is_on = known_at before (between ++ again ∷ rest) first (sent at)
      (split ∙ append_assoc before (first ∷ between) (again ∷ rest)) is in
      let law = subst
      (λ now_s.
      OnlyAnswers (sent later) (room_run (events_of between) (room_after (sent at) s))
      (Err (outside_again (kept_call position form.serial now_s)))) (sym now)
      (outside_still position form at s (events_of between) is_on.0 refused later) in
      let desk_answers = answered_again sent before between rest first again at later
      (Err (outside_again (kept_call position form.serial (room_by (before ++ first ∷ between) room)))) split is
      is_again law in
      (desk_answers.0.1, desk_answers.1)

  queue : (before rest : List Exchange) (x : Exchange) (d at : ℕ)
      → xs ≡ before ++ x ∷ rest → x.found ≡ Ok (by_desk d Queue at)
      → ShowsUrgentFirst x d at (room_by before room)
  queue before rest x d at split is =
      let sees = desk_sees d at (room_by before room) in
      let answered = subst (HasAnswer x) sees.1 (answer_in before rest x (Ok (by_desk d Queue at)) split is) in
      record {
        queue = sees.0;
        urgent_first = sees.2;
        answered = answered;
        bytes =
            λ whole.
            subst (λ text. EndsWith text x.bytes) (queue_content sees.0)
            (ends_with x (Ok (answer.Queue sees.0)) answered whole);
      }

  order_asked : (before rest : List Exchange) (x : Exchange) (c : Callsign) (at : ℕ)
      → xs ≡ before ++ x ∷ rest → x.found ≡ Ok (by_crew c Order at)
      → ShowsOrder x c (room_by before room)
  order_asked before rest x c at split is =
      go (vehicle_at c now) refl (known_at before rest x (by_crew c Order at) split is).1
    where
      now : Room
      now = room_by before room

      go : (v : Option Vehicle) → vehicle_at c now ≡ v → is_some (vehicle_at c now) ≡ true
          → ShowsOrder x c now
      go None there known = let none : is_some (vehicle_at c now) ≡ false = ap is_some there in cc
      go (Some v) there known = record {
        vehicle = v;
        there = there;
        answered =
            subst (λ (o : Option Vehicle). HasAnswer x (answer_of (order_of o (assignment_at c now)))) there
            (answer_in before rest x (Ok (by_crew c Order at)) split is);
      }

  order_lasts : LastsToItsEnd xs room
  order_lasts before between rest x order at split is here =
      let now = room_by before room in
      let all = subst (λ l. AreAddressed (events_of l) room)
      (split ∙ append_assoc before between (x ∷ rest)) run.addressed in
      let known = addressed_on (events_of before) (events_of between) room
      (addressed_early room between (x ∷ rest) (addressed_late room before (between ++ x ∷ rest) all)) in
      let formed_now = formed_at before (between ++ x ∷ rest) (split ∙ append_assoc before between (x ∷ rest)) in
      elim (stays_in (events_of between) now order formed_now known here) [
        | inr ended ↦ inr ended
        | inl still ↦
            let later = room_by (before ++ between) room in
            let gets = to_crew later (formed_at (before ++ between) (x ∷ rest) split) order at
            (subst (λ r. Among order r.assignments) (sym (room_split before between room)) still) in
            inl (
              gets.0,
              gets.1,
              subst (HasAnswer x) gets.2
                  (answer_in (before ++ between) rest x (Ok (by_crew order.callsign Order at)) split is),
            )
      ]

  -- the events between are of those that the room knows then
  known_between : (before between rest : List Exchange) → xs ≡ before ++ (between ++ rest)
      → AreAddressed (events_of between) (room_by before room)
  known_between before between rest split =
      addressed_early (room_by before room) between rest
      (addressed_later before (between ++ rest) room
      (subst (λ (l : List Exchange). AreAddressed (events_of l) room) split run.addressed))

  queue_stays : (d m at : ℕ) (k : Concern) (before between rest : List Exchange) (look : Exchange)
      → xs ≡ before ++ between ++ look ∷ rest → look.found ≡ Ok (by_desk d Queue at) → m ≤ at
      → IsDue d k m (room_by before room)
      → IsShownAt k look ⊎ IsEnded d k (events_of between) (room_by before room)
  queue_stays d m at k before between rest look split is le due =
      let parts : xs ≡ before ++ (between ++ look ∷ rest) = split ∙ append_assoc before between (look ∷ rest) in
      elim (due_still d m at k (events_of between) (room_by before room)
      (formed_at before (between ++ look ∷ rest) parts) (known_between before between (look ∷ rest) parts) le due) [
        | inr ended ↦ inr ended
        | inl still ↦
            let now : IsDue d k at (room_by (before ++ between) room) =
            subst (IsDue d k at) (sym (room_split before between room)) still in
            inl (
              answer_to (by_desk d Queue at) (room_by (before ++ between) room),
              answer_in (before ++ between) rest look (Ok (by_desk d Queue at)) split is,
              is_shown d at k (room_by (before ++ between) room) now,
            )
      ]

  queue_appears : (d y m last : ℕ) (k : Concern) (before after : List Exchange) → xs ≡ before ++ after
      → IsDue d k m (room_by before room) → last ≤ m
      → LooksEvery y m last (looks d (events_of after))
      → IsSeenAt d k y m after (room_by before room)
  queue_appears d y m last k before after split due le often =
      let l = look_in_time d y m last (events_of after) le often in
      let x = exchange_of after l.before l.after (by_desk d Queue l.at) l.split in
      record {
        before = x.before;
        look = x.look;
        rest = x.rest;
        at = l.at;
        split = x.split;
        asked = x.asked;
        in_time = l.in_time;
        seen =
            queue_stays d m l.at k before x.before x.rest x.look
            (split ∙ ap (λ (ys : List Exchange). before ++ ys) x.split
            ∙ sym (append_assoc before x.before (x.look ∷ x.rest))) x.asked l.in_time.0 due;
      }

  pub promises_kept : Promises terminals xs room
  promises_kept =
      let meets = meet_well_formed (events_of xs) room formed run.addressed in
      record {
        asked_by = asked_in setting terminals xs room run.answered;
        share = λ d. run_share d (events_of xs) room meets;
        desk_responses = λ d. desk_answered setting terminals d xs room run.answered;
        desk_apart =
            λ d.
            subst (HaveAnswers (with_desk d xs)) (run_answers d (events_of xs) room meets)
            (desk_answered setting terminals d xs room run.answered);
        desk_alike = alike;
        desk_by_itself =
            λ d unlent nobody.
            run_everyday d (events_of xs) room (unlent_run (events_of xs) room formed run.addressed unlent nobody).0;
        crew_alike = crew;
        refused_alike =
            λ before rest x r split is. (answer_in before rest x (Err r) split is, room_on before x (Err r) is);
        formed = formed_at;
        sent_once = λ before rest split. sent_once_in (room_by before room) (formed_at before rest split);
        report_once =
            λ c press.
            once (by_crew c (Report press)) (λ answer. ⊤)
            (λ at later s between in_order known ok. report_answered_again c press at s between in_order known later);
        call_once =
            λ position form.
            once (by_position position (Call form)) (λ answer. is_ok answer ≡ true)
            (λ at later s between in_order known ok. call_repeated position form at s between in_order ok later);
        serial_once = serial;
        call_outside = outside;
        most_urgent_first = queue;
        order_kept =
            λ before rest x event split is. orders_kept event (room_by before room) (formed_at before (x ∷ rest) split);
        order_reaches = λ before rest split. orders_reach (room_by before room) (formed_at before rest split);
        order_shown = order_asked;
        order_lasts = order_lasts;
        exception_stays = queue_stays;
        exception_appears = queue_appears;
      }
