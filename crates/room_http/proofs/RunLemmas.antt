-- A dialogue with the dispatch machine is a run of events that the room knows.
use Rattle.std.proofs.Common.{◌≡◌, ◌∙◌, ap, refl, subst, sym, ℕ, List, [], ◌∷◌, ◌++◌, Bool, true}
use Rattle.std.proofs.Common.{Option, Some, None, Result, Ok, Err}
use Rattle.std.specs.Prelude.{MatchBool, false, option_and_then}
use Rattle.room_types.specs.Texts.{Token}
use Rattle.room_types.specs.declared.asks.Ask.{Ask}
use Rattle.room_types.specs.declared.asks.Event.{Event}
use Rattle.room_types.specs.declared.asks.Who.{Who}
use Rattle.room_types.specs.declared.fleet.Terminal.{Terminal}
use Rattle.room_types.specs.declared.refusal_statuses.Refusal.{Refusal}
use Rattle.room_types.specs.declared.refusal_statuses.Refusal.TheVariants.{BadBody, NoTerminal}
use Rattle.room_types.specs.declared.refusal_statuses.Refusal.TheVariants.{WrongRole}
use Rattle.room_model.specs.FleetRows.{AreTerminals}
use Rattle.room_model.specs.Events.{AreAddressed, IsNumbered}
use Rattle.room_model.specs.Room.{Room}
use Rattle.room_model.specs.Run.{room_run}
use Rattle.room_model.specs.Step.{IsAddressed}
use Rattle.room_http_messages.specs.Messages.{WholeMessage, terminal_of}
use Rattle.room_http_requests.specs.RequestTable.{is_known, is_of, request_by, role_of}
use Rattle.room_http_requests.specs.Router.{routed}
use Rattle.room_http_requests.specs.declared.request_table.Request.{Request}
use Rattle.room_http_requests.specs.declared.request_table.Request.TheVariants as request
use Rattle.room_http_requests.specs.declared.request_table.Target.{Target}
use Rattle.room_http_requests.proofs.RoleLaws.{asked_is, desk_asks}
use Rattle.room_http.specs.declared.settings.HttpSettings.{HttpSettings}
use Rattle.room_model.specs.Rooms.{machine, who_at}
use Rattle.room_http.specs.Arrivals.{message, refused}
use Rattle.room_http.specs.MessageEvents.{AsksAs, AsksAt, AsksBy, AsksFor, IsAskFor, named}
use Rattle.room_http.specs.MessageEvents.{token_of}
use Rattle.room_http.specs.Runs.{AreAnswered, Exchange, IsRun, IsRunOf, arrivals_of, asker}
use Rattle.room_http.specs.Runs.{bytes_of, event_then, events_of, room_by}
use Rattle.room_http.specs.Dialogues.{Finds, IsDialogue, Timed, replied}
use Rattle.room_http.proofs.AskLemmas.{request_addressed}
use Rattle.room_http.proofs.TerminalLemmas.{found_known}

-- ---- what a message asks for: what holds of refusals, and of events that are found step by step
module _ (setting : HttpSettings) (terminals : List Terminal) (m : WholeMessage) (at : ℕ)
    (Holds : Result Event Refusal → Type 0) (refusals : (r : Refusal) → Holds (Err r))
    (events : (t : Target) (who : Who) (given : Request) (asks : Ask) → named terminals (terminal_of m.head) ≡ Some who
    → is_of (role_of t) who ≡ true
    → request_by t m.body ≡ Some given → IsAskFor setting given asks
    → Holds (Ok (record { who = who; ask = asks; at = at }))) where
  by_body : (t : Target) (who : Who) (given : Option Request) (found : Result Event Refusal)
      → named terminals (terminal_of m.head) ≡ Some who → is_of (role_of t) who ≡ true
      → request_by t m.body ≡ given → AsksBy setting at who given found → Holds found
  by_body t who None found shows may body_asks asks = rw asks (refusals BadBody)
  by_body t who (Some given) found shows may body_asks asks =
      rw asks.2 (events t who given asks.0 shows may body_asks asks.1)

  by_role : (may : Bool) (t : Target) (who : Who) (found : Result Event Refusal)
      → named terminals (terminal_of m.head) ≡ Some who → is_of (role_of t) who ≡ may
      → MatchBool may (AsksBy setting at who (request_by t m.body) found) (found ≡ Err WrongRole)
      → Holds found
  by_role true t who found shows may asks = by_body t who (request_by t m.body) found shows may refl asks
  by_role false t who found shows may asks = rw asks (refusals WrongRole)

  by_terminal : (t : Target) (who : Option Who) (found : Result Event Refusal)
      → named terminals (terminal_of m.head) ≡ who → AsksAs setting t m.body at who found → Holds found
  by_terminal t None found shows asks = rw asks (refusals NoTerminal)
  by_terminal t (Some who) found shows asks = by_role (is_of (role_of t) who) t who found shows refl asks

  by_target : (target : Result Target Refusal) (found : Result Event Refusal)
      → AsksAt setting terminals m at target found → Holds found
  by_target (Ok t) found asks = by_terminal t (named terminals (terminal_of m.head)) found refl asks
  by_target (Err r) found asks = rw asks (refusals r)

  by_steps : (found : Result Event Refusal) → AsksFor setting terminals m at found → Holds found
  by_steps found asks = by_target (routed setting.history m.head.method m.head.target) found asks

-- ---- who asks
abbrev IsAskedBy : List Terminal → Timed → Result Event Refusal → Type 0
IsAskedBy terminals o (Ok event) = (asker terminals o.0 ≡ Some event.who) × (event.at ≡ o.1)
IsAskedBy terminals o (Err r) = Unit {0}

pub found_asked_by : (setting : HttpSettings) (terminals : List Terminal) (o : Timed)
    (found : Result Event Refusal) → Finds setting terminals o found → IsAskedBy terminals o found
found_asked_by setting terminals (message m, at) found finds =
    by_steps setting terminals m at (IsAskedBy terminals (message m, at)) (λ r. tt)
    (λ t who given asks shows may body_asks is. (shows, refl)) found finds
found_asked_by setting terminals (refused r head_only, at) found finds = rw finds tt

-- ---- what is asked is addressed
-- what is asked has a number from 1
request_numbered : (setting : HttpSettings) (t : Target) (body : List ℕ) (given : Request) (asks : Ask)
    → request_by t body ≡ Some given → IsAskFor setting given asks → IsNumbered asks
request_numbered setting t body (request.Ask a) asks body_asks is = rw is (asked_is t body a body_asks).1
request_numbered setting t body (request.OfDay day asked) asks body_asks is =
    rw is.2 (desk_asks asked is.0.0 is.0.1).1

-- an event, if one was found, is of those that the room knows
abbrev IsKnownEvent : Room → Result Event Refusal → Type 0
IsKnownEvent room (Ok event) = IsAddressed event room × IsNumbered event.ask
IsKnownEvent room (Err r) = Unit {0}

module _ (setting : HttpSettings) (terminals : List Terminal) (room : Room)
    (fit : AreTerminals room terminals) where
  named_known : (token : Option Token) (who : Who)
      → option_and_then (who_at terminals) token ≡ Some who → is_known who room ≡ true
  named_known None who is = cc
  named_known (Some token) who is = found_known room terminals token who fit (sym is)

  found_event : (o : Timed) (found : Result Event Refusal) → Finds setting terminals o found
      → IsKnownEvent room found
  found_event (message m, at) found finds =
      by_steps setting terminals m at (IsKnownEvent room) (λ r. tt) (λ t who given asks shows may body_asks is. (
        request_addressed setting t m.body given asks who room body_asks is may
            (named_known (token_of (terminal_of m.head)) who shows),
        request_numbered setting t m.body given asks body_asks is,
      )) found finds
  found_event (refused r head_only, at) found finds = rw finds tt

  known_first : (found : Result Event Refusal) (events : List Event) → IsKnownEvent room found
      → AreAddressed events room → AreAddressed (event_then found events) room
  known_first (Ok event) events first rest = (first.0, first.1, rest)
  known_first (Err r) events first rest = rest

  -- what arrivals ask for is addressed
  all_addressed : (xs : List Exchange) (now : Room) → AreAnswered setting terminals xs now
      → AreAddressed (events_of xs) room
  all_addressed [] now are = tt
  all_addressed (x ∷ xs) now are =
      known_first x.found (events_of xs) (found_event x.arrival x.found are.0)
      (all_addressed xs (replied machine x.found now).0 are.2)

-- ---- one run after another
-- the room after what was found and then more
pub run_first : (found : Result Event Refusal) (events : List Event) (room : Room)
    → room_run (event_then found events) room ≡ room_run events (replied machine found room).0
run_first (Ok event) events room = refl
run_first (Err r) events room = refl

pub room_split : (before rest : List Exchange) (room : Room)
    → room_by (before ++ rest) room ≡ room_by rest (room_by before room)
room_split [] rest room = refl
room_split (x ∷ before) rest room =
    run_first x.found (events_of (before ++ rest)) room ∙ room_split before rest (replied machine x.found room).0
    ∙ ap (room_by rest) (sym (run_first x.found (events_of before) room))

-- the room after one more
pub room_push : (before : List Exchange) (x : Exchange) (room : Room)
    → room_by (before ++ x ∷ []) room ≡ (replied machine x.found (room_by before room)).0
room_push before x room = room_split before (x ∷ []) room ∙ run_first x.found [] (room_by before room)

module _ (setting : HttpSettings) (terminals : List Terminal) where
  pub answered_join : (before rest : List Exchange) (room : Room)
      → AreAnswered setting terminals before room
      → AreAnswered setting terminals rest (room_by before room)
      → AreAnswered setting terminals (before ++ rest) room
  answered_join [] rest room first second = second
  answered_join (x ∷ before) rest room first second = (
    first.0,
    first.1,
    answered_join before rest (replied machine x.found room).0 first.2
        (subst (AreAnswered setting terminals rest) (run_first x.found (events_of before) room) second),
  )

  pub run_of : (room : Room) (xs : List Exchange) → AreTerminals room terminals
      → AreAnswered setting terminals xs room → IsRun setting terminals xs room
  run_of room xs fit answered =
      record { addressed = all_addressed setting terminals room fit xs room answered; answered = answered }

  pub run_join : (room : Room) (xs ys : List Exchange) → AreTerminals room terminals
      → IsRun setting terminals xs room → IsRun setting terminals ys (room_by xs room)
      → IsRun setting terminals (xs ++ ys) room
  run_join room xs ys fit first second =
      run_of room (xs ++ ys) fit (answered_join xs ys room first.answered second.answered)

-- ---- a dialogue
module _ (setting : HttpSettings) (terminals : List Terminal) where
  -- the exchanges of a dialogue
  record Exchanged (outs : List Timed) (after : Room) (bytes : List ℕ) (xs : List Exchange)
      (room : Room) : Type 0 where
    answered : AreAnswered setting terminals xs room
    arrivals : arrivals_of xs ≡ outs
    leads : room_by xs room ≡ after
    spoken : bytes_of xs ≡ bytes

  exchanged : (room : Room) (outs : List Timed) (after : Room) (bytes : List ℕ)
      → IsDialogue machine setting terminals room outs after bytes
      → (xs : List Exchange) × Exchanged outs after bytes xs room
  exchanged room [] after bytes dialogue =
      ([], record { answered = tt; arrivals = refl; leads = sym dialogue.0; spoken = sym dialogue.1 })
  exchanged room (o ∷ more) after bytes (next, first, others, joins, (found, finds, is, replies), dialogue) =
      let x : Exchange = record { arrival = o; found = found; bytes = first } in
      let rest = exchanged (replied machine found room).0 more after others
      (subst (λ r. IsDialogue machine setting terminals r more after others) is dialogue) in (
        x ∷ rest.0,
        record {
          answered = (finds, replies, rest.1.answered);
          arrivals = ap (λ os. o ∷ os) rest.1.arrivals;
          leads = run_first found (events_of rest.0) room ∙ rest.1.leads;
          spoken = ap (λ bs. first ++ bs) rest.1.spoken ∙ sym joins;
        },
      )

  pub dialogue_run : (room : Room) (outs : List Timed) (after : Room) (bytes : List ℕ)
      → AreTerminals room terminals → IsDialogue machine setting terminals room outs after bytes
      → (xs : List Exchange) × IsRunOf setting terminals outs after bytes xs room
  dialogue_run room outs after bytes fit dialogue =
      let of = exchanged room outs after bytes dialogue in (
        of.0,
        record {
          run = run_of setting terminals room of.0 fit of.1.answered;
          arrivals = of.1.arrivals;
          leads = of.1.leads;
          spoken = of.1.spoken;
        },
      )
