-- Lemmas on a connection that is served.
use Rattle.std.proofs.Common.{◌≡◌, ◌∙◌, ◌≤◌, ◌-◌, arith, subst, sym, refl, ℕ, List, [], ◌∷◌, ◌++◌}
use Rattle.std.proofs.Common.{map, append-nil, inl, inr, Bool, true, false, Option, Some, None}
use Rattle.std.proofs.Common.{Result, Ok, Err, All}
use Rattle.std.proofs.lemmas.List.{length-map, map-append}
use Rattle.std.proofs.lemmas.List.Elements.{All-nil, All-push}
use Rattle.std.specs.Prelude.{⊤}
use Rattle.std.specs.Io.KnownBytes.{prepend_known, Keeps, Appends}
use Rattle.room_types.specs.declared.fleet.Terminal.{Terminal}
use Rattle.room_types.specs.declared.refusal_statuses.Refusal.{Refusal}
use Rattle.room_model.specs.Room.{Room}
use Rattle.room_http_messages.specs.declared.messages.Layout.{Layout}
use Rattle.room_http_messages.specs.declared.read_faults.Unread.{Unread}
use Rattle.room_http_messages.specs.declared.read_faults.Unread.TheVariants.{End, Cut as UnreadCut}
use Rattle.room_http_messages.specs.declared.read_faults.Unread.TheVariants.{ReadFault as Fault}
use Rattle.room_http_messages.specs.declared.read_faults.Unread.TheVariants.{ReadsSpent as Spent}
use Rattle.room_http_messages.specs.declared.read_faults.Unread.TheVariants.{Refused}
use Rattle.room_http_messages.specs.Messages.{IsCut, IsPart}
use Rattle.room_http_messages.specs.Readings.{SaysOf}
use Rattle.room_http_messages.specs.Streams.{CountsBy}
use Rattle.room_http_messages.proofs.StreamLemmas.{Appends-more, Appends-none}
use Rattle.room_types.specs.declared.numbers.TheConstants.{LAST_MOMENT}
use Rattle.room_http.specs.declared.session.ServeEnd.{ServeEnd}
use Rattle.room_http.specs.declared.session.ServeEnd.TheVariants.{Closed, Cut, ReadFault}
use Rattle.room_http.specs.declared.session.ServeEnd.TheVariants.{WriteFault, ClockFault}
use Rattle.room_http.specs.declared.session.ServeEnd.TheVariants.{JournalFailed, ReadsSpent, Memory}
use Rattle.room_http.specs.ReplyMessages.{fixed_bytes}
use Rattle.room_http.specs.ArrivalAnswers.{Answers, EndsAnswering}
use Rattle.room_http.specs.ClockMoments.{HasNoMoment}
use Rattle.room_http.specs.Arrivals.{Arrival, is_closing, is_head_only, Begins, HasNext}
use Rattle.room_http.specs.declared.settings.HttpSettings.{HttpSettings}
use Rattle.room_model.specs.Rooms.{Step}
use Rattle.room_http.specs.ServedTrace.{ServedTrace}
use Rattle.room_http.specs.ConnectionReads.{EndsAs}
use Rattle.room_http.specs.Session.{Sides, Finish, Answered, Unserved, Unwritten, Broken}
use Rattle.room_http.specs.Session.{LeavesPart, MissesNone, ServeIs}
use Rattle.room_http.specs.Dialogues.{Timed, IsCaused, IsFront, BreaksOff, Stays, WritesDialogue}
use Rattle.room_http.specs.Dialogues.{IsUnserved}
use Rattle.room_http.proofs.StreamLemmas.{Passes, Begins-push, nothing_left}
use Rattle.room_http.proofs.DialogueLemmas.{WritesDialogue-append, WritesDialogue-as}
use Rattle.room_http.proofs.DialogueLemmas.{WritesDialogue-none}

-- the arrivals were answered, all of them stay open, and these bytes are left
pub record Going (step : Step) (setting : HttpSettings) (old : Sides) (left held given : Option (List ℕ))
    (trusted : Type 0) (stood stands : List Terminal → Room → Type 0)
    (outs : List Timed) : Type 0 where
  pub begins : (stream : List ℕ) → old.left ≡ Some stream
      → (rest : List ℕ) × (left ≡ Some rest) × Begins stream (map (λ x. x.0) outs) rest
  pub stay : All (λ x. is_closing x.0 ≡ false) outs
  pub timed : All (λ x. x.1 ≤ LAST_MOMENT) outs
  pub moments : Appends old.given given (map (λ x. x.1) outs)
  pub dialogue : WritesDialogue step setting trusted stood old.held held outs
      (λ terminals after tail. stands terminals after × (tail ≡ []))

-- the arrival with which serving ended, if it had a moment
abbrev pub last_of : ServeEnd → Timed → Option Timed
last_of ClockFault x = None
last_of Closed x = Some x
last_of Cut x = Some x
last_of ReadFault x = Some x
last_of WriteFault x = Some x
last_of JournalFailed x = Some x
last_of ReadsSpent x = Some x
last_of Memory x = Some x

-- the clock gave no moment, some moments later
no_moment_later : (a b c : Option (List ℕ)) (was_none : Bool) (moments : List ℕ)
    → Appends a b moments → HasNoMoment b c was_none [] → HasNoMoment a c was_none moments
no_moment_later a b c was_none moments first (inl none) =
    inl (none.0, rw append-nil at (Appends-more a b c moments [] first none.1))
no_moment_later a b c was_none moments first (inr late) =
    inr (late.0, late.1, Appends-more a b c moments (late.0 ∷ []) first late.2)

-- the stream that is left goes on
pub still_begins : (stream : List ℕ) (outs : List Timed) (left after : Option (List ℕ))
    → ((rest : List ℕ) × (left ≡ Some rest) × Begins stream (map (λ x. x.0) outs) rest)
    → Keeps left after → (rest : List ℕ) × (after ≡ Some rest)
    × Begins stream (map (λ x. x.0) outs) rest
still_begins stream outs None after begins same = absurd (cc)
still_begins stream outs (Some rest) None begins same = absurd same
still_begins stream outs (Some rest) (Some next) begins same =
    let is : begins.0 ≡ next = cc in
    (next, refl, subst (λ (t : List ℕ). Begins stream (map (λ x. x.0) outs) t) is begins.2)

-- where serving ends with an answer no read failed or was missing
pub ends_missing_none : (left remains given gives : Option (List ℕ)) (e : ServeEnd)
    → EndsAnswering e → MissesNone left remains given gives e
ends_missing_none left remains given gives Closed ends = tt
ends_missing_none left remains given gives WriteFault ends = tt
ends_missing_none left remains given gives ClockFault ends = tt
ends_missing_none left remains given gives JournalFailed ends = tt
ends_missing_none left remains given gives Cut ends = tt
ends_missing_none left remains given gives Memory ends = tt
ends_missing_none left remains given gives ReadFault ends = absurd ends
ends_missing_none left remains given gives ReadsSpent ends = absurd ends

module _ (step : Step) (setting : HttpSettings) (old : Sides) where
  pub Going-none : (trusted : Type 0) (stood stands : List Terminal → Room → Type 0)
      → ((terminals : List Terminal) (room : Room) → stood terminals room → stands terminals room)
      → Going step setting old old.left old.held old.given trusted stood stands []
  Going-none trusted stood stands is = record {
    begins = λ stream known. (stream, known, refl);
    stay = All-nil (λ (x : Timed). is_closing x.0 ≡ false);
    timed = All-nil (λ (x : Timed). x.1 ≤ LAST_MOMENT);
    moments = Appends-none old.given;
    dialogue = WritesDialogue-none step setting trusted stood stands old.held is;
  }

  module _ (early : Type 0) (stood stays : List Terminal → Room → Type 0)
      (left held given : Option (List ℕ)) (outs : List Timed) where
    -- the bytes that are left come from the reader to the inbox
    pub Going-kept : (after : Option (List ℕ))
        → Going step setting old left held given early stood stays outs → Keeps left after
        → Going step setting old after held given early stood stays outs
    Going-kept after before same = record {
      begins = λ stream known. still_begins stream outs left after (before.begins stream known) same;
      stay = before.stay;
      timed = before.timed;
      moments = before.moments;
      dialogue = before.dialogue;
    }

    -- serving ended between arrivals
    pub Going-ends : (reads : Option ℕ)
        (read_failed read_ended write_failed was_none observer_failed : Bool)
        (follows : List ℕ → Type 0) → Going step setting old left held given early stood stays outs
        → ((rest : List ℕ) → left ≡ Some rest → follows rest)
        → Answered step setting old (record {
          reads = reads;
          held = held;
          given = given;
          read_failed =
              read_failed;
          read_ended = read_ended;
          write_failed = write_failed;
          was_none =
              was_none;
          observer_failed = observer_failed;
        }) early stood stays outs follows
    Going-ends reads read_failed read_ended write_failed was_none observer_failed follows before then = record {
      begins = λ stream known. let begins = before.begins stream known in (begins.0, begins.2, then begins.0 begins.1);
      timed = (before.timed, before.moments);
      dialogue = before.dialogue;
    }

    -- of what was read, all is answered but what is in the inbox
    pub leaves_part : (kept : List ℕ) (remains : Option (List ℕ))
        → left ≡ prepend_known kept remains
        → Going step setting old left held given early stood stays outs
        → IsPart kept → LeavesPart old.left remains old.given given
    leaves_part kept None is before part = λ stream known. absurd (let begins = before.begins stream known in cc)
    leaves_part kept (Some rest) is before part = λ stream known.
        let begins = before.begins stream known in
        let same : begins.0 ≡ kept ++ rest = cc in (
          map (λ x. x.0) outs,
          kept,
          rest,
          refl,
          subst (λ (t : List ℕ). Begins stream (map (λ x. x.0) outs) t) same begins.2,
          part,
          (map (λ x. x.1) outs, length-map outs (λ x. x.1) ∙ sym (length-map outs (λ x. x.0)), before.moments),
        )

  -- Serving ended where reading stopped: these bytes are in the inbox, and that is to come.
  module _ (early : Type 0) (stood stays : List Terminal → Room → Type 0)
      (begun held given : Option (List ℕ)) (outs : List Timed)
      (first : Going step setting old begun held given early stood stays outs)
      (kept : List ℕ) (remains : Option (List ℕ)) (same : Keeps begun (prepend_known kept remains)) (granted : ℕ)
      (read_failed read_ended : Bool) where
    reached : Going step setting old (prepend_known kept remains) held given early stood stays outs
    reached = Going-kept early stood stays begun held given outs (prepend_known kept remains) first same

    abbrev Says : Result Layout Unread → Type 0
    Says = SaysOf kept granted read_failed read_ended remains

    pub stops_missing_none : (read : Result Layout Unread) (e : ServeEnd) → Says read
        → EndsAs read e → MissesNone old.left remains old.given given e
    stops_missing_none (Ok layout) e says is = absurd is
    stops_missing_none (Err (Refused r head_only)) e says is = absurd is
    stops_missing_none (Err End) e says is = rw is tt
    stops_missing_none (Err UnreadCut) e says is = rw is tt
    stops_missing_none (Err Fault) e says is =
        rw is
        (leaves_part early stood stays (prepend_known kept remains) held given outs kept remains refl reached says.0)
    stops_missing_none (Err Spent) e says is =
        rw is
        (leaves_part early stood stays (prepend_known kept remains) held given outs kept remains refl reached says.0)

    module _ (reads : Option ℕ) (write_failed was_none observer_failed : Bool)
        (unserved : Timed → List Terminal → Room → Type 0) (failed : Type 0)
        (answers : List (List ℕ)) (budget : ℕ)
        (count : CountsBy (budget - granted) old.reads reads) where
      abbrev new : Finish
      new = record {
        reads = reads;
        held = held;
        given = given;
        read_failed = read_failed;
        read_ended = read_ended;
        write_failed = write_failed;
        was_none = was_none;
        observer_failed = observer_failed;
      }

      answered : (follows : List ℕ → Type 0)
          → ((rest : List ℕ) → prepend_known kept remains ≡ Some rest → follows rest)
          → Answered step setting old new early stood stays outs follows
      answered follows then =
          Going-ends early stood stays (prepend_known kept remains) held given outs reads read_failed read_ended
          write_failed was_none observer_failed follows reached then

      pub stops : (read : Result Layout Unread) (e : ServeEnd) → Says read → EndsAs read e
          → ServeIs step setting old new early stood stays unserved failed
          (record { outs = outs; answers = answers; last = None }) budget e
      stops (Ok layout) e says is = absurd is
      stops (Err (Refused r head_only)) e says is = absurd is
      stops (Err End) e says is =
          rw is (inl (
            (refl, answered (λ rest. rest ≡ []) (λ rest known. nothing_left kept remains rest says.2 known ∙ says.0)),
            says.1,
          ))
      stops (Err UnreadCut) e says is =
          rw is ((refl, answered IsCut (λ rest known. rw (nothing_left kept remains rest says.2 known) says.0)), says.1)
      stops (Err Fault) e says is = rw is ((refl, answered (λ rest. ⊤) (λ rest known. tt)), says.1)
      stops (Err Spent) e says is =
          let all : budget - granted ≡ budget = omega (arith, says.1) in
          rw is ((refl, answered (λ rest. ⊤) (λ rest known. tt)), rw all at count)

  -- one more arrival
  module _ (was early : Type 0) (stood stays : List Terminal → Room → Type 0)
      (lefts : List Terminal → List Room → Type 0) (begun left held given : Option (List ℕ))
      (outs : List Timed)
      (first : Going step setting old begun held given early stood (Stays was stays lefts) outs)
      (same : Keeps begun left) (new : Finish) (is_kept late failed : Type 0) (stands : List Terminal → Room → Type 0)
      (leaves : List Terminal → List Room → Type 0)
      (earlier : late → early) (kept : late → was → is_kept) (after : Option (List ℕ)) (o : Arrival)
      (pass : Passes left after o) where
    before : Going step setting old left held given early stood (Stays was stays lefts) outs
    before = Going-kept early stood (Stays was stays lefts) begun held given outs left first same

    abbrev AnswersHere : ℕ → Result (Unit {0}) ServeEnd → Type 0
    AnswersHere at =
        Answers step setting held new.held given new.given new.write_failed new.was_none new.observer_failed late stays
        (Stays is_kept stands leaves) (IsUnserved step setting is_kept stands leaves) failed at o

    abbrev ServeHere : ServedTrace → ℕ → ServeEnd → Type 0
    ServeHere =
        ServeIs step setting old new late stood (Stays was stands leaves) (IsUnserved step setting was stands leaves)
        failed

    still : late → (terminals : List Terminal) (room : Room)
        → Stays is_kept stands leaves terminals room → Stays was stands leaves terminals room
    still trust terminals room it = (it.0, λ before. it.1 (kept trust before))

    still_unserved : late → (x : Timed) (terminals : List Terminal) (room : Room)
        → IsUnserved step setting is_kept stands leaves x terminals room
        → IsUnserved step setting was stands leaves x terminals room
    still_unserved trust x terminals room it = (it.0, λ before. it.1 (kept trust before))

    begins_more : (at : ℕ) (stream : List ℕ) → old.left ≡ Some stream
        → (next : List ℕ) × (after ≡ Some next)
        × Begins stream (map (λ x. x.0) (outs ++ (o, at) ∷ [])) next
    begins_more at stream known =
        let begins = before.begins stream known in
        let passes = pass.passes begins.0 begins.1 in
        (passes.0, passes.2, Begins-push stream outs begins.0 (o, at) passes.0 begins.2 before.stay passes.1)

    has_next : (stream : List ℕ) → old.left ≡ Some stream
        → (rest : List ℕ) × Begins stream (map (λ x. x.0) outs) rest × HasNext o rest
    has_next stream known =
        let begins = before.begins stream known in
        let passes = pass.passes begins.0 begins.1 in
        (begins.0, begins.2, (passes.0, passes.1))

    moments_more : (at : ℕ) → Appends given new.given (at ∷ [])
        → Appends old.given new.given (map (λ x. x.1) (outs ++ (o, at) ∷ []))
    moments_more at moment =
        rw (map-append (λ (x : Timed). x.1) outs ((o, at) ∷ []))
        (Appends-more old.given given new.given (map (λ x. x.1) outs) (at ∷ []) before.moments moment)

    timed_more : (at : ℕ) → at ≤ LAST_MOMENT → All (λ x. x.1 ≤ LAST_MOMENT) (outs ++ (o, at) ∷ [])
    timed_more at within = All-push (λ (x : Timed). x.1 ≤ LAST_MOMENT) outs (o, at) before.timed within

    -- what is said goes on from here
    dialogue_more : (more : List Timed) (says less : List Terminal → Room → List ℕ → Type 0)
        → (late → (terminals : List Terminal) (room : Room) (tail : List ℕ)
        → says terminals room tail → less terminals room tail)
        → WritesDialogue step setting late stays held new.held more says
        → WritesDialogue step setting late stood old.held new.held (outs ++ more) less
    dialogue_more more says less states dialogue =
        WritesDialogue-append step setting early late stood (Stays was stays lefts) old.held held new.held outs more
        less earlier
        before.dialogue
        (WritesDialogue-as step setting late stays (Stays was stays lefts) held new.held more says less
        (λ terminals room it. it.0) states dialogue)

    dialogue_kept : (says less : List Terminal → Room → List ℕ → Type 0)
        → (late → (terminals : List Terminal) (room : Room) (tail : List ℕ)
        → says terminals room tail → less terminals room tail)
        → WritesDialogue step setting late stays held new.held [] says
        → WritesDialogue step setting late stood old.held new.held outs less
    dialogue_kept says less states dialogue = rw append-nil at (dialogue_more [] says less states dialogue)

    abbrev Said : Type 0 → (List ℕ → Type 0) → List Terminal → Room → List ℕ → Type 0
    Said before states terminals room tail = Stays before stands leaves terminals room × states tail

    more_said : (more : List Timed) (states : List ℕ → Type 0)
        → WritesDialogue step setting late stays held new.held more (Said is_kept states)
        → WritesDialogue step setting late stood old.held new.held (outs ++ more) (Said was states)
    more_said more states dialogue =
        dialogue_more more (Said is_kept states) (Said was states)
        (λ trust terminals room tail it. (still trust terminals room it.0, it.1)) dialogue

    -- one more was answered, and stays open
    pub Going-more : (at : ℕ) → AnswersHere at (Ok tt) → is_closing o ≡ false
        → Going step setting old after new.held new.given late stood
        (Stays was stands leaves) (outs ++ (o, at) ∷ [])
    Going-more at answers open_ = record {
      begins = begins_more at;
      stay = All-push (λ (x : Timed). is_closing x.0 ≡ false) outs (o, at) before.stay open_;
      timed = timed_more at answers.0.0;
      moments = moments_more at answers.0.1;
      dialogue = more_said ((o, at) ∷ []) (λ tail. tail ≡ []) answers.2;
    }

    -- one more was answered, and closes
    pub closes : (stated : List (List ℕ)) (budget at : ℕ) → AnswersHere at (Ok tt)
        → is_closing o ≡ true
        → ServeHere (record { outs = outs ++ (o, at) ∷ []; answers = stated; last = None }) budget
        Closed
    closes stated budget at answers closing = inr (inl (
      (
        refl,
        record {
          begins = λ stream known. let begins = begins_more at stream known in (begins.0, begins.2, tt);
          timed = (timed_more at answers.0.0, moments_more at answers.0.1);
          dialogue = more_said ((o, at) ∷ []) (λ tail. tail ≡ []) answers.2;
        },
      ),
      (outs, (o, at), refl, closing),
    ))

    unserved_at : (at : ℕ) (r : Refusal) (more : List ℕ → List ℕ → Type 0) → at ≤ LAST_MOMENT
        → Appends given new.given (at ∷ []) → IsCaused failed r
        → WritesDialogue step setting late stays held new.held []
        (λ terminals room tail. IsUnserved step setting is_kept stands leaves (o, at) terminals room
        × more tail (fixed_bytes r (is_head_only o)))
        → Unserved step setting old new late stood (Stays was stands leaves)
        (IsUnserved step setting was stands leaves) failed outs (o, at) more
    unserved_at at r more within moment cause dialogue = record {
      begins = has_next;
      next = λ stream known. let begins = begins_more at stream known in (begins.0, begins.2, tt);
      timed = (timed_more at within, moments_more at moment);
      refusal = r;
      caused = cause;
      dialogue =
          dialogue_kept (λ terminals room tail.
          IsUnserved step setting is_kept stands leaves (o, at) terminals room
          × more tail (fixed_bytes r (is_head_only o)))
          (λ terminals room tail.
          IsUnserved step setting was stands leaves (o, at) terminals room × more tail (fixed_bytes r (is_head_only o)))
          (λ trust terminals room tail it. (still_unserved trust (o, at) terminals room it.0, it.1)) dialogue;
    }

    broken : (at : ℕ) → at ≤ LAST_MOMENT → Appends given new.given (at ∷ [])
        → WritesDialogue step setting late stays held new.held []
        (λ terminals room tail. BreaksOff step setting terminals
        (Stays is_kept stands leaves) room (o, at) tail)
        → Broken step setting old new late stood (Stays was stands leaves) outs (o, at)
    broken at within moment dialogue = record {
      begins = λ stream known. let begins = begins_more at stream known in (begins.0, begins.2, tt);
      timed = (timed_more at within, moments_more at moment);
      dialogue =
          dialogue_kept
          (λ terminals room tail. BreaksOff step setting terminals (Stays is_kept stands leaves) room (o, at) tail)
          (λ terminals room tail. BreaksOff step setting terminals (Stays was stands leaves) room (o, at) tail)
          (λ trust terminals room tail it. (it.0, it.1, it.2, still trust terminals it.0 it.3, it.4)) dialogue;
    }

    -- no byte was written, and so much holds of the room
    unwritten : (at : ℕ) (says less : List Terminal → Room → Type 0)
        → (late → (terminals : List Terminal) (room : Room) → says terminals room
        → less terminals room)
        → at ≤ LAST_MOMENT → Appends given new.given (at ∷ [])
        → WritesDialogue step setting late stays held new.held []
        (λ terminals room tail. says terminals room × (tail ≡ []))
        → Unwritten step setting old new late stood (Stays was stands leaves) outs (o, at) less
    unwritten at says less states within moment dialogue = record {
      begins = has_next;
      next = λ stream known. let begins = begins_more at stream known in (begins.0, begins.2, tt);
      timed = (timed_more at within, moments_more at moment);
      dialogue =
          dialogue_kept (λ terminals room tail. says terminals room × (tail ≡ []))
          (λ terminals room tail. less terminals room × (tail ≡ []))
          (λ trust terminals room tail it. (states trust terminals room it.0, it.1)) dialogue;
    }

    abbrev Acted : Type 0 → ℕ → List Terminal → Room → Type 0
    Acted before at terminals room = BreaksOff step setting terminals (Stays before stands leaves) room (o, at) []

    -- serving ended with one more
    pub ends : (stated : List (List ℕ)) (budget at : ℕ) (e : ServeEnd) → AnswersHere at (Err e)
        → ServeHere (record { outs = outs; answers = stated; last = last_of e (o, at) }) budget e
    ends stated budget at Closed answers =
        inr (inr (
          (o, at),
          refl,
          unserved_at at answers.1.0 (λ tail fixed. tail ≡ fixed) answers.0.0 answers.0.1 answers.1.1 answers.1.2,
        ))
    ends stated budget at WriteFault answers = (
      (
        (o, at),
        refl,
        elim answers.2 [
          | inl dialogue ↦ inl (broken at answers.0.0 answers.0.1 dialogue)
          | inr cause ↦ inr (unserved_at at cause.0 IsFront answers.0.0 answers.0.1 cause.1 cause.2)
        ],
      ),
      answers.1,
    )
    ends stated budget at JournalFailed answers = (
      (
        (o, at),
        refl,
        elim answers.2 [
          | inl dialogue ↦
              inl
              (unwritten at (Stays is_kept stands leaves) (Stays was stands leaves) still answers.0.0 answers.0.1
              dialogue)
          | inr dialogue ↦
              inr (unwritten at (Acted is_kept at) (Acted was at)
              (λ trust terminals room it. (it.0, it.1, it.2, still trust terminals it.0 it.3, it.4)) answers.0.0
              answers.0.1 dialogue)
        ],
      ),
      answers.1,
    )
    ends stated budget at ClockFault answers = (
      refl,
      (
        o,
        record {
          begins = has_next;
          timed = before.timed;
          clock = no_moment_later old.given given new.given new.was_none (map (λ x. x.1) outs) before.moments answers.0;
          dialogue =
              dialogue_kept (Said is_kept (λ tail. tail ≡ [])) (Said was (λ tail. tail ≡ []))
              (λ trust terminals room tail it. (still trust terminals room it.0, it.1)) answers.1;
        },
      ),
    )
    ends stated budget at Cut answers = absurd answers
    ends stated budget at ReadFault answers = absurd answers
    ends stated budget at ReadsSpent answers = absurd answers
    ends stated budget at Memory answers = absurd answers
