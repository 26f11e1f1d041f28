-- A question changes nothing: so what is kept without them leads to the same room.
use Rattle.std.proofs.Common.{◌≡◌, ◌∙◌, refl, sym, ap, subst, ℕ, ℤ, List, [], ◌∷◌, Bool, true}
use Rattle.std.proofs.Common.{false, codes, if◌then◌else◌, Option, Some, None, Result, Ok, Err}
use Rattle.std.specs.Prelude.{IfSome, MatchBool}
use Rattle.std.proofs.lemmas.Bool.{not-false}
use Rattle.std.proofs.lemmas.Slice.Eq.{bytes_eq-Decides}
use Rattle.room_types.specs.declared.asks.Ask.{Ask}
use Rattle.room_types.specs.declared.asks.Event.{Event}
use Rattle.room_types.specs.declared.asks.Who.{Who}
use Rattle.room_types.specs.declared.fleet.Terminal.{Terminal}
use Rattle.room_types.specs.declared.refusal_statuses.Allow.{Allow}
use Rattle.room_types.specs.declared.refusal_statuses.Allow.TheVariants.{GetHead, Post}
use Rattle.room_types.specs.declared.refusal_statuses.Refusal.{Refusal}
use Rattle.room_types.specs.declared.refusal_statuses.Refusal.TheVariants.{WrongRole}
use Rattle.room_model.specs.Room.{Room}
use Rattle.room_model.specs.Rooms.{machine}
use Rattle.room_model.specs.Step.{is_question}
use Rattle.room_model.proofs.Questions.{question_stays}
use Rattle.room_http_messages.specs.Messages.{WholeMessage, terminal_of}
use Rattle.room_http_requests.specs.RequestTable.{allow_of, between, is_of, path_of, request_by}
use Rattle.room_http_requests.specs.RequestTable.{role_of}
use Rattle.room_http_requests.specs.Router.{by_method, is_allowed, known_by, routed}
use Rattle.room_http_requests.specs.declared.request_table.DayAsk.{DayAsk}
use Rattle.room_http_requests.specs.declared.request_table.DayAsk.TheVariants as of_day
use Rattle.room_http_requests.specs.declared.request_table.Request.{Request}
use Rattle.room_http_requests.specs.declared.request_table.Request.TheVariants as request
use Rattle.room_http_requests.specs.declared.request_table.Target.{Target}
use Rattle.room_http_requests.specs.declared.request_table.Target.TheVariants as target
use Rattle.room_http.specs.Arrivals.{message, refused}
use Rattle.room_http.specs.KeptMessages.{AreReplies}
use Rattle.room_http.specs.MessageEvents.{AsksAs, AsksAt, AsksBy, AsksFor, IsAskFor, named}
use Rattle.room_http.specs.Dialogues.{IsReplyTo, Timed}
use Rattle.room_http.specs.declared.settings.HttpSettings.{HttpSettings}
use Rattle.dispatch_room_journal.proofs.RoomLaws.{the_room_law}
use Rattle.dispatch_room_serving.specs.KeptChanges.{ChangesAreTheRoom, QuestionsChangeNothing}
use Rattle.dispatch_room_serving.specs.KeptChanges.{answers_to_changes, asks_only, changes_in}
use Rattle.dispatch_room_serving.specs.KeptChanges.{is_change}

-- ---- by these methods only questions are asked
abbrev pub Asks : Request → Type 0
Asks (request.Ask a) = is_question a ≡ true
Asks (request.OfDay day x) = Unit {0}

asks_at : (t : Target) (body : List ℕ) → allow_of (path_of t) ≡ GetHead → IfSome (request_by t body) Asks
unfolding request_by
asks_at (target.Times day) body get = tt
asks_at (target.ClassTimes day) body get = tt
asks_at (target.Closed day search) body get = tt
asks_at t body get = cc

-- all that is asked of a day is a question
day_question : (x : DayAsk) (from to : ℤ) → is_question (between x from to) ≡ true
day_question of_day.Times from to = refl
day_question of_day.ClassTimes from to = refl
day_question (of_day.Closed search) from to = refl

-- a path that takes such a method is one that is asked
is_asked : (allow : Allow) (method : List ℕ) → is_allowed allow method ≡ true
    → asks_only method ≡ true → allow ≡ GetHead
is_asked GetHead method may asks = refl
is_asked Post method may asks =
    let post : method ≡ codes "POST" = (bytes_eq-Decides method (codes "POST")).0 may in
    absurd (let other : asks_only (codes "POST") ≡ true = subst (λ (m : List ℕ). asks_only m ≡ true) post asks in cc)

module _ (setting : HttpSettings) (terminals : List Terminal) where
  asked : (t : Target) (body : List ℕ) (given : Request) (asks : Ask) → allow_of (path_of t) ≡ GetHead
      → request_by t body ≡ Some given → IsAskFor setting given asks → is_question asks ≡ true
  asked t body (request.Ask a) asks get is of =
      let quiet : IfSome (Some (request.Ask a)) Asks = subst (λ (r : Option Request). IfSome r Asks) is
      (asks_at t body get) in
      ap is_question of ∙ quiet
  asked t body (request.OfDay day x) asks get is of = ap is_question of.2 ∙ day_question x of.0.0 of.0.1

  module _ (m : WholeMessage) (at : ℕ) (event : Event) where
    by_body : (t : Target) (who : Who) (given : Option Request) → allow_of (path_of t) ≡ GetHead
        → request_by t m.body ≡ given → AsksBy setting at who given (Ok event)
        → is_question event.ask ≡ true
    by_body t who None get is found = absurd (cc)
    by_body t who (Some given) get is (asks, of, found) =
        let same : event.ask ≡ asks = cc in ap is_question same ∙ asked t m.body given asks get is of

    by_role : (may : Bool) (t : Target) (who : Who) → allow_of (path_of t) ≡ GetHead
        → MatchBool may (AsksBy setting at who (request_by t m.body) (Ok event))
        (◌≡◌ {A = Result Event Refusal} (Ok event) (Err WrongRole))
        → is_question event.ask ≡ true
    by_role true t who get found = by_body t who (request_by t m.body) get refl found
    by_role false t who get found = absurd (cc)

    by_terminal : (t : Target) (who : Option Who) → allow_of (path_of t) ≡ GetHead
        → AsksAs setting t m.body at who (Ok event) → is_question event.ask ≡ true
    by_terminal t None get found = absurd (cc)
    by_terminal t (Some who) get found = by_role (is_of (role_of t) who) t who get found

    by_target : (found : Result Target Refusal)
        → ((t : Target) → found ≡ Ok t → allow_of (path_of t) ≡ GetHead)
        → AsksAt setting terminals m at found (Ok event) → is_question event.ask ≡ true
    by_target (Ok t) get asks = by_terminal t (named terminals (terminal_of m.head)) (get t refl) asks
    by_target (Err r) get asks = absurd (cc)

    -- a target that takes such a method is asked for by it
    get_target : (found : Option Target) → asks_only m.head.method ≡ true → (t : Target)
        → known_by m.head.method found ≡ Ok t → allow_of (path_of t) ≡ GetHead
    get_target None asks t is = absurd (cc)
    get_target (Some u) asks t is = by_test (is_allowed (allow_of (path_of u)) m.head.method) refl
      where
        by_test : (may : Bool) → is_allowed (allow_of (path_of u)) m.head.method ≡ may → allow_of (path_of t) ≡ GetHead
        by_test true may =
            let same : u ≡ t = (let found : by_method m.head.method u ≡ Ok t = is in cc (found, may)) in
            ap (λ v. allow_of (path_of v)) (sym same) ∙ is_asked (allow_of (path_of u)) m.head.method may asks
        by_test false may = absurd (let found : by_method m.head.method u ≡ Ok t = is in cc (found, may))

    question_asked : asks_only m.head.method ≡ true → AsksFor setting terminals m at (Ok event)
        → is_question event.ask ≡ true
    question_asked asks found =
        by_target (routed setting.history m.head.method m.head.target) (λ t is. get_target _ asks t is) found

  -- what is no change leaves the room as it is
  unchanged : (room next : Room) (x : Timed) (bytes : List ℕ) → is_change x ≡ false
      → IsReplyTo machine setting terminals room x next bytes → next ≡ room
  unchanged room next (message m, at) bytes is (Err r, finds, after, reply) = after
  unchanged room next (message m, at) bytes is (Ok event, finds, after, reply) =
      let asks : asks_only m.head.method ≡ true = not-false (asks_only m.head.method) is in
      after ∙ question_stays event room (question_asked m at event asks finds)
  unchanged room next (refused r head_only, at) bytes is reply = cc

  pub left_out : (room after : Room) (outs : List Timed) (answers : List (List ℕ))
      → AreReplies machine setting terminals room outs answers after
      → AreReplies machine setting terminals room (changes_in outs) (answers_to_changes outs answers) after
  left_out room after [] [] replies = replies
  left_out room after [] (answer ∷ answers) replies = absurd replies
  left_out room after (x ∷ outs) [] replies = absurd replies
  left_out room after (x ∷ outs) (answer ∷ answers) (next, reply, more) =
      by_test (is_change x) refl (left_out next after outs answers more)
    where
      by_test : (test : Bool) → is_change x ≡ test
          → AreReplies machine setting terminals next (changes_in outs) (answers_to_changes outs answers) after
          → AreReplies machine setting terminals room
          (if test then x ∷ changes_in outs else changes_in outs)
          (if test then answer ∷ answers_to_changes outs answers else answers_to_changes outs answers)
          after
      by_test true is rest = (next, reply, rest)
      by_test false is rest =
          subst (λ (r : Room).
          AreReplies machine setting terminals r (changes_in outs) (answers_to_changes outs answers) after)
          (unchanged room next x answer is reply) rest

pub questions_change_nothing_law : QuestionsChangeNothing
questions_change_nothing_law setting terminals room after outs answers replies =
    left_out setting terminals room after outs answers replies

pub changes_are_the_room_law : ChangesAreTheRoom
changes_are_the_room_law setting digits terminals room after other outs answers text ts replies kept are replayed
    entries same replay =
    the_room_law machine setting digits terminals room after other (changes_in outs) (answers_to_changes outs answers)
    text ts
    (left_out setting terminals room after outs answers replies) kept are replayed entries same replay
