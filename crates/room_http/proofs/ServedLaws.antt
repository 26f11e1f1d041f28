-- What was served is a run that keeps the promises.
use Rattle.std.proofs.Common.{◌≡◌, ◌∙◌, ap, append-nil, inl, inr, refl, subst, sym, ℕ, List, []}
use Rattle.std.proofs.Common.{◌∷◌, ◌++◌, Bool, map, Option, Some, Result, Ok, Err}
use Rattle.std.proofs.lemmas.List.{map-append}
use Rattle.std.specs.Prelude.{⊤, ◌⊎◌}
use Rattle.std.specs.Io.KnownBytes.{Appends}
use Rattle.room_types.specs.declared.fleet.Terminal.{Terminal}
use Rattle.room_types.specs.declared.refusal_statuses.Refusal.{Refusal}
use Rattle.room_model.specs.FleetRows.{AreTerminals}
use Rattle.room_model.specs.Room.{Room}
use Rattle.room_model.specs.RoomAgreements.{IsWellFormed}
use Rattle.room_http.specs.declared.settings.HttpSettings.{HttpSettings}
use Rattle.room_http.specs.ClockMoments.{HasNoMoment}
use Rattle.room_model.specs.Rooms.{IsUnavailable, Step, machine}
use Rattle.room_http.specs.declared.session.ServeEnd.{ServeEnd}
use Rattle.room_http.specs.declared.session.ServeEnd.TheVariants.{Closed, Cut, ReadFault}
use Rattle.room_http.specs.declared.session.ServeEnd.TheVariants.{WriteFault, ClockFault}
use Rattle.room_http.specs.declared.session.ServeEnd.TheVariants.{JournalFailed, ReadsSpent, Memory}
use Rattle.room_http_messages.specs.Messages.{IsCut}
use Rattle.room_http.specs.ReplyMessages.{fixed_bytes}
use Rattle.room_http.specs.ArrivalAnswers.{Answers}
use Rattle.room_http.specs.Arrivals.{Arrival, Begins, HasNext, is_head_only}
use Rattle.room_http.specs.ServedTrace.{AreFirstIn, ServedTrace, OneTrace}
use Rattle.room_http.specs.ServedRuns.{AreFirst, AreGiven, AreWritten, IsAtMost, IsUnservedTail}
use Rattle.room_http.specs.ServedRuns.{KeepsPromises, Served}
use Rattle.room_http.specs.Runs.{Exchange, HasAnswer, IsRun, arrivals_of, room_by}
use Rattle.room_http.specs.Session.{Answered, Broken, Finish, HasActed, ServeIs, Sides, Unserved}
use Rattle.room_http.specs.Session.{Untimed, Unwritten}
use Rattle.room_http.specs.Dialogues.{BreaksOff, IsCaused, IsDialogue, IsFront, IsUnserved}
use Rattle.room_http.specs.Dialogues.{LeavesNext, Stays, Timed, WritesDialogue, replied}
use Rattle.room_http.proofs.PromiseLaws.{promises_kept}
use Rattle.room_http.proofs.RunLemmas.{answered_join, dialogue_run, room_push, run_of}
use Rattle.room_http.proofs.DialogueLemmas.{WritesDialogue-as, WritesDialogue-none}

module _ (setting : HttpSettings) (are : List Timed → Type 0) (was_kept : Type 0)
    (stands : List Terminal → Room → Type 0) (leaves : List Terminal → List Room → Type 0) where
  -- the room after these arrivals, and what a stop leaves of it
  abbrev IsLeft : List Timed → List Terminal → Room → Type 0
  IsLeft outs terminals room =
      stands terminals room
      × (was_kept
      → leaves terminals (room ∷ [])
      ⊎ ((x : Timed) × are (outs ++ x ∷ []) × LeavesNext machine setting leaves x terminals room))

  only_room : (outs : List Timed) (terminals : List Terminal) (room : Room)
      → Stays was_kept stands leaves terminals room → IsLeft outs terminals room
  only_room outs terminals room stays = (stays.0, λ was. inl (stays.1 was))

  unserved_next : (outs : List Timed) (x : Timed) → are (outs ++ x ∷ [])
      → (terminals : List Terminal) (room : Room)
      → IsUnserved machine setting was_kept stands leaves x terminals room → IsLeft outs terminals room
  unserved_next outs x first terminals room unserved =
      (unserved.0, λ was. elim (unserved.1 was) [ inl one ↦ inl one | inr next ↦ inr (x, first, next) ])

module _ (setting : HttpSettings) (are : List Timed → Type 0) (held holds : Option (List ℕ))
    (was_kept : Type 0) (stands : List Terminal → Room → Type 0)
    (leaves : List Terminal → List Room → Type 0) where
  abbrev LeftHere : List Timed → List Terminal → Room → Type 0
  LeftHere = IsLeft setting are was_kept stands leaves

  module _ (terminals : List Terminal) (room : Room) (fit : AreTerminals room terminals)
      (formed : IsWellFormed room) where
    served_by : (xs : List Exchange) (written : List ℕ) → IsRun setting terminals xs room
        → are (arrivals_of xs) → LeftHere (arrivals_of xs) terminals (room_by xs room)
        → Appends held holds written → AreWritten xs written
        → Served setting are held holds was_kept stands leaves terminals room
    served_by xs written run arrivals after appends so_far = record {
      exchanges = xs;
      arrivals = arrivals;
      run = run;
      after = after.0;
      written = (written, appends, so_far);
      promises = promises_kept setting terminals xs room formed run;
      kept = after.1;
    }

    -- the answers were written, and a tail
    whole : (outs : List Timed) (after : Room) (bytes tail : List ℕ) → are outs
        → IsDialogue machine setting terminals room outs after bytes → LeftHere outs terminals after
        → IsUnservedTail tail → Appends held holds (bytes ++ tail)
        → Served setting are held holds was_kept stands leaves terminals room
    whole outs after bytes tail arrivals dialogue stay unserved appends =
        let of = dialogue_run setting terminals room outs after bytes fit dialogue in
        served_by of.0 (bytes ++ tail) of.1.run (subst are (sym of.1.arrivals) arrivals)
        (subst (λ os. LeftHere os terminals (room_by of.0 room)) (sym of.1.arrivals)
        (subst (LeftHere outs terminals) (sym of.1.leads) stay)) appends
        (inl (tail, unserved, ap (λ b. b ++ tail) (sym of.1.spoken)))

    -- the last answer was not written wholly
    short : (outs : List Timed) (x : Timed) (now : Room) (bytes tail : List ℕ)
        → are (outs ++ x ∷ []) → IsDialogue machine setting terminals room outs now bytes
        → BreaksOff machine setting terminals (Stays was_kept stands leaves) now x tail
        → Appends held holds (bytes ++ tail)
        → Served setting are held holds was_kept stands leaves terminals room
    short outs x now bytes tail arrivals dialogue (after, answer, (found, finds, is, replies), stay, front) appends =
        let of = dialogue_run setting terminals room outs now bytes fit dialogue in
        let last : Exchange = record { arrival = x; found = found; bytes = answer } in
        let outs_are : arrivals_of (of.0 ++ last ∷ [])
        ≡ outs ++ x ∷ [] =
        map-append (λ (y : Exchange). y.arrival) of.0 (last ∷ []) ∙ ap (λ os. os ++ x ∷ []) of.1.arrivals in
        let leads : room_by (of.0 ++ last ∷ []) room
        ≡ after = room_push of.0 last room ∙ ap (λ r. (replied machine found r).0) of.1.leads ∙ sym is in
        let stated : HasAnswer last (replied machine found (room_by of.0 room)).1 = subst
        (λ r. HasAnswer last (replied machine found r).1) (sym of.1.leads) replies in
        served_by (of.0 ++ last ∷ []) (bytes ++ tail) (run_of setting terminals room (of.0 ++ last ∷ []) fit
        (answered_join setting terminals of.0 (last ∷ []) room of.1.run.answered (finds, stated, tt)))
        (subst are (sym outs_are) arrivals)
        (subst (LeftHere (arrivals_of (of.0 ++ last ∷ [])) terminals) (sym leads)
        (only_room setting are was_kept stands leaves (arrivals_of (of.0 ++ last ∷ [])) terminals after stay)) appends
        (inr (of.0, last, tail, refl, front, ap (λ b. b ++ tail) (sym of.1.spoken)))

  module _ (trusted : Type 0) (stood : List Terminal → Room → Type 0)
      (fit : (terminals : List Terminal) (room : Room) → stood terminals room
      → AreTerminals room terminals) where
    kept_whole : (outs : List Timed) (says : List Terminal → Room → Type 0)
        (states : List ℕ → Type 0) → are outs
        → ((terminals : List Terminal) (room : Room) → says terminals room
        → LeftHere outs terminals room)
        → ((tail : List ℕ) → states tail → IsUnservedTail tail)
        → WritesDialogue machine setting trusted stood held holds outs
        (λ terminals after tail. says terminals after × states tail)
        → KeepsPromises setting are held holds trusted was_kept stood stands leaves
    kept_whole outs says states arrivals left unserved dialogue trust terminals room standing formed =
        let t = dialogue trust terminals room standing in
        whole terminals room (fit terminals room standing) formed outs t.0 t.1 t.2 arrivals t.3
        (left terminals t.0 t.4.0) (unserved t.2 t.4.1) t.5

    kept_short : (outs : List Timed) (x : Timed) → are (outs ++ x ∷ [])
        → WritesDialogue machine setting trusted stood held holds outs
        (λ terminals after tail. BreaksOff machine setting terminals
        (Stays was_kept stands leaves) after x tail)
        → KeepsPromises setting are held holds trusted was_kept stood stands leaves
    kept_short outs x arrivals dialogue trust terminals room standing formed =
        let t = dialogue trust terminals room standing in
        short terminals room (fit terminals room standing) formed outs x t.0 t.1 t.2 arrivals t.3 t.4 t.5

-- nothing was answered
pub none_served : (setting : HttpSettings) (are : List Timed → Type 0) (held : Option (List ℕ))
    (was_kept trusted : Type 0) (stood : List Terminal → Room → Type 0)
    (leaves : List Terminal → List Room → Type 0)
    → ((terminals : List Terminal) (room : Room) → stood terminals room
    → AreTerminals room terminals) → ((terminals : List Terminal) (room : Room) → was_kept
    → stood terminals room → leaves terminals (room ∷ []))
    → are [] → KeepsPromises setting are held held trusted was_kept stood stood leaves
none_served setting are held was_kept trusted stood leaves fit leaves_it none =
    kept_whole setting are held held was_kept stood leaves trusted stood fit [] (Stays was_kept stood leaves)
    (λ tail. tail ≡ []) none (only_room setting are was_kept stood leaves []) (λ tail is. inl is)
    (WritesDialogue-none machine setting trusted stood (Stays was_kept stood leaves) held
    (λ terminals room standing. (standing, λ was. leaves_it terminals room was standing)))

-- what is caused is unavailability
pub unavailable_of : (failed : Type 0) (r : Refusal) → IsCaused failed r → IsUnavailable r
unavailable_of failed r (inl memory) = inl memory
unavailable_of failed r (inr storage) = inr storage.0

-- a fixed answer that was written, or some first bytes of it
all_of : (failed : Type 0) (r : Refusal) (head_only : Bool) → IsCaused failed r → (tail : List ℕ)
    → tail ≡ fixed_bytes r head_only → IsUnservedTail tail
all_of failed r head_only cause tail is =
    inr (r, unavailable_of failed r cause, head_only, ([], sym (append-nil tail ∙ is)))

some_of : (failed : Type 0) (r : Refusal) (head_only : Bool) → IsCaused failed r → (tail : List ℕ)
    → IsFront tail (fixed_bytes r head_only) → IsUnservedTail tail
some_of failed r head_only cause tail is = inr (r, unavailable_of failed r cause, head_only, is)

-- the room has acted and nothing was written, so the answer was not written wholly
silent : (setting : HttpSettings) (trusted : Type 0) (stood stays : List Terminal → Room → Type 0)
    (held holds : Option (List ℕ)) (outs : List Timed) (x : Timed)
    → WritesDialogue machine setting trusted stood held holds outs
    (λ terminals after tail. BreaksOff machine setting terminals stays after x [] × (tail ≡ []))
    → WritesDialogue machine setting trusted stood held holds outs
    (λ terminals after tail. BreaksOff machine setting terminals stays after x tail)
silent setting trusted stood stays held holds outs x dialogue =
    WritesDialogue-as machine setting trusted stood stood held holds outs
    (λ terminals after tail. BreaksOff machine setting terminals stays after x [] × (tail ≡ []))
    (λ terminals after tail. BreaksOff machine setting terminals stays after x tail) (λ terminals room it. it)
    (λ trust terminals room tail it. subst (BreaksOff machine setting terminals stays room x) (sym it.1) it.0) dialogue

-- ---- one arrival
module _ (setting : HttpSettings) (held holds given gives : Option (List ℕ))
    (write_failed was_none observer_failed : Bool) (was_kept trusted failed : Type 0)
    (stood stands : List Terminal → Room → Type 0)
    (leaves : List Terminal → List Room → Type 0)
    (fit : (terminals : List Terminal) (room : Room) → stood terminals room → AreTerminals room terminals) (at : ℕ)
    (o : Arrival) where
  abbrev KeptOne : Type 0
  KeptOne = KeepsPromises setting (IsAtMost o given gives) held holds trusted was_kept stood stands leaves

  abbrev AnswersHere : Step → Result (Unit {0}) ServeEnd → Type 0
  AnswersHere step result =
      Answers step setting held holds given gives write_failed was_none observer_failed trusted stood
      (Stays was_kept stands leaves) (IsUnserved step setting was_kept stands leaves) failed at o result

  none_answered : (says : List Terminal → Room → Type 0) (states : List ℕ → Type 0)
      → ((terminals : List Terminal) (room : Room) → says terminals room
      → IsLeft setting (IsAtMost o given gives) was_kept stands leaves [] terminals room)
      → ((tail : List ℕ) → states tail → IsUnservedTail tail)
      → WritesDialogue machine setting trusted stood held holds []
      (λ terminals after tail. says terminals after × states tail) → KeptOne
  none_answered says states left unserved dialogue =
      kept_whole setting (IsAtMost o given gives) held holds was_kept stands leaves trusted stood fit [] says states tt
      left unserved dialogue

  kept_one : (result : Result (Unit {0}) ServeEnd) → AnswersHere machine result → KeptOne
  kept_one (Ok done) a =
      kept_whole setting (IsAtMost o given gives) held holds was_kept stands leaves trusted stood fit ((o, at) ∷ [])
      (Stays was_kept stands leaves) (λ tail. tail ≡ []) (refl, ([], a.0.1))
      (only_room setting (IsAtMost o given gives) was_kept stands leaves ((o, at) ∷ [])) (λ tail is. inl is) a.2
  kept_one (Err Closed) a =
      none_answered (IsUnserved machine setting was_kept stands leaves (o, at))
      (λ tail. tail ≡ fixed_bytes a.1.0 (is_head_only o))
      (unserved_next setting (IsAtMost o given gives) was_kept stands leaves [] (o, at) (refl, ([], a.0.1)))
      (all_of failed a.1.0 (is_head_only o) a.1.1) a.1.2
  kept_one (Err WriteFault) a = elim a.2 [
    | inl dialogue ↦
        kept_short setting (IsAtMost o given gives) held holds was_kept stands leaves trusted stood fit [] (o, at)
        (refl, ([], a.0.1)) dialogue
    | inr cause ↦
        none_answered (IsUnserved machine setting was_kept stands leaves (o, at))
        (λ tail. IsFront tail (fixed_bytes cause.0 (is_head_only o)))
        (unserved_next setting (IsAtMost o given gives) was_kept stands leaves [] (o, at) (refl, ([], a.0.1)))
        (some_of failed cause.0 (is_head_only o) cause.1) cause.2
  ]
  kept_one (Err ClockFault) a =
      none_answered (Stays was_kept stands leaves) (λ tail. tail ≡ [])
      (only_room setting (IsAtMost o given gives) was_kept stands leaves []) (λ tail is. inl is) a.1
  kept_one (Err JournalFailed) a = elim a.2 [
    | inl dialogue ↦
        none_answered (Stays was_kept stands leaves) (λ tail. tail ≡ [])
        (only_room setting (IsAtMost o given gives) was_kept stands leaves []) (λ tail is. inl is) dialogue
    | inr dialogue ↦
        kept_short setting (IsAtMost o given gives) held holds was_kept stands leaves trusted stood fit [] (o, at)
        (refl, ([], a.0.1))
        (silent setting trusted stood (Stays was_kept stands leaves) held holds [] (o, at) dialogue)
  ]
  kept_one (Err Cut) a = absurd a
  kept_one (Err ReadFault) a = absurd a
  kept_one (Err ReadsSpent) a = absurd a
  kept_one (Err Memory) a = absurd a

  pub one_promised : (step : Step) (result : Result (Unit {0}) ServeEnd) → AnswersHere step result
      → step ≡ machine → KeptOne
  one_promised step result a same = kept_one result (subst (λ (s : Step). AnswersHere s result) same a)

-- ---- a connection
-- what the stream begins with, whatever follows
firsts : (left given gives : Option (List ℕ)) (outs : List Timed) (follows : List ℕ → Type 0)
    → ((stream : List ℕ) → left ≡ Some stream
    → (rest : List ℕ) × Begins stream (map (λ x. x.0) outs) rest × follows rest)
    → AreGiven given gives outs
    → AreFirst left given gives outs
firsts left given gives outs follows begins moments =
    (λ stream known. let b = begins stream known in (b.0, b.1), moments)

no_more : (given gives : Option (List ℕ)) (outs : List Timed)
    → Appends given gives (map (λ x. x.1) outs) → AreGiven given gives outs
no_more given gives outs appends = ([], rw append-nil appends)

one_more : (given gives : Option (List ℕ)) (outs : List Timed) (x : Timed)
    → Appends given gives (map (λ x. x.1) (outs ++ x ∷ [])) → AreGiven given gives outs
one_more given gives outs x appends = (x.1 ∷ [], rw map-append at appends)

no_moment : (given gives : Option (List ℕ)) (was_none : Bool) (outs : List Timed)
    → HasNoMoment given gives was_none (map (λ x. x.1) outs) → AreGiven given gives outs
no_moment given gives was_none outs (inl none) = no_more given gives outs none.1
no_moment given gives was_none outs (inr late) = (late.0 ∷ [], late.2)

module _ (setting : HttpSettings) (old : Sides) (new : Finish) (was_kept trusted has_failed : Type 0)
    (stood stands : List Terminal → Room → Type 0) (leaves : List Terminal → List Room → Type 0)
    (fit : (terminals : List Terminal) (room : Room) → stood terminals room → AreTerminals room terminals)
    (course : ServedTrace) where
  abbrev AreFirstHere : List Timed → Type 0
  AreFirstHere = AreFirstIn course old.left old.given new.given

  abbrev StaysHere : List Terminal → Room → Type 0
  StaysHere = Stays was_kept stands leaves

  abbrev ServeHere : Step → ℕ → ServeEnd → Type 0
  ServeHere step =
      ServeIs step setting old new trusted stood StaysHere (IsUnserved step setting was_kept stands leaves) has_failed
      course

  abbrev Kept : Type 0
  Kept = KeepsPromises setting AreFirstHere old.held new.held trusted was_kept stood stands leaves

  -- what the stream begins with, whatever follows
  answered_first : (follows : List ℕ → Type 0)
      → ((stream : List ℕ) → old.left ≡ Some stream
      → (rest : List ℕ) × Begins stream (map (λ x. x.0) course.outs) rest × follows rest)
      → AreGiven old.given new.given course.outs → AreFirstHere course.outs
  answered_first follows begins moments =
      (inl refl, firsts old.left old.given new.given course.outs follows begins moments)

  with_last : (x : Timed) → course.last ≡ Some x
      → ((stream : List ℕ) → old.left ≡ Some stream
      → (rest : List ℕ) × Begins stream (map (λ x. x.0) (course.outs ++ x ∷ [])) rest × ⊤)
      → Appends old.given new.given (map (λ x. x.1) (course.outs ++ x ∷ []))
      → AreFirstHere (course.outs ++ x ∷ [])
  with_last x last begins moments = (
    inr (x, last, refl),
    firsts old.left old.given new.given (course.outs ++ x ∷ []) (λ rest. ⊤) begins
        (no_more old.given new.given (course.outs ++ x ∷ []) moments),
  )

  kept_all : AreFirstHere course.outs
      → WritesDialogue machine setting trusted stood old.held new.held course.outs
      (λ terminals after tail. StaysHere terminals after × (tail ≡ [])) → Kept
  kept_all first dialogue =
      kept_whole setting AreFirstHere old.held new.held was_kept stands leaves trusted stood fit course.outs StaysHere
      (λ tail. tail ≡ []) first (only_room setting AreFirstHere was_kept stands leaves course.outs) (λ tail is. inl is)
      dialogue

  kept_answered : (follows : List ℕ → Type 0)
      → Answered machine setting old new trusted stood StaysHere course.outs follows → Kept
  kept_answered follows a =
      kept_all (answered_first follows a.begins (no_more old.given new.given course.outs a.timed.1)) a.dialogue

  kept_unserved : (x : Timed) (so_much : List ℕ → List ℕ → Type 0) → course.last ≡ Some x
      → ((failed : Type 0) (r : Refusal) (head_only : Bool) → IsCaused failed r → (tail : List ℕ)
      → so_much tail (fixed_bytes r head_only) → IsUnservedTail tail)
      → Unserved machine setting old new trusted stood StaysHere
      (IsUnserved machine setting was_kept stands leaves) has_failed course.outs x so_much → Kept
  kept_unserved x so_much last unserved u =
      kept_whole setting AreFirstHere old.held new.held was_kept stands leaves trusted stood fit course.outs
      (IsUnserved machine setting was_kept stands leaves x)
      (λ tail. so_much tail (fixed_bytes u.refusal (is_head_only x.0)))
      (answered_first (HasNext x.0) u.begins (one_more old.given new.given course.outs x u.timed.1))
      (unserved_next setting AreFirstHere was_kept stands leaves course.outs x (with_last x last u.next u.timed.1))
      (unserved has_failed u.refusal (is_head_only x.0) u.caused) u.dialogue

  kept_untimed : (o : Arrival)
      → Untimed machine setting old new trusted stood StaysHere course.outs o → Kept
  kept_untimed o u =
      kept_all (answered_first (HasNext o) u.begins (no_moment old.given new.given new.was_none course.outs u.clock))
      u.dialogue

  kept_broken : (x : Timed) → course.last ≡ Some x
      → Broken machine setting old new trusted stood StaysHere course.outs x → Kept
  kept_broken x last b =
      kept_short setting AreFirstHere old.held new.held was_kept stands leaves trusted stood fit course.outs x
      (with_last x last b.begins b.timed.1) b.dialogue

  kept_unwritten : (x : Timed)
      → Unwritten machine setting old new trusted stood StaysHere course.outs x StaysHere → Kept
  kept_unwritten x u =
      kept_all (answered_first (HasNext x.0) u.begins (one_more old.given new.given course.outs x u.timed.1)) u.dialogue

  kept_acted : (x : Timed) → course.last ≡ Some x
      → Unwritten machine setting old new trusted stood StaysHere course.outs x
      (HasActed machine setting old new trusted stood StaysHere x) → Kept
  kept_acted x last u =
      kept_short setting AreFirstHere old.held new.held was_kept stands leaves trusted stood fit course.outs x
      (with_last x last u.next u.timed.1)
      (silent setting trusted stood StaysHere old.held new.held course.outs x u.dialogue)

  -- however serving ended
  kept : (budget : ℕ) (end : ServeEnd) → ServeHere machine budget end → Kept
  kept budget Closed (inl ended) = kept_answered (λ rest. rest ≡ []) ended.0.1
  kept budget Closed (inr (inl closed)) = kept_answered (λ rest. ⊤) closed.0.1
  kept budget Closed (inr (inr cause)) = kept_unserved cause.0 (λ tail fixed. tail ≡ fixed) cause.1 all_of cause.2
  kept budget Cut cut = kept_answered IsCut cut.0.1
  kept budget ReadFault failed = kept_answered (λ rest. ⊤) failed.0.1
  kept budget WriteFault failed = elim failed.0.2 [
    | inl b ↦ kept_broken failed.0.0 failed.0.1 b
    | inr u ↦ kept_unserved failed.0.0 IsFront failed.0.1 some_of u
  ]
  kept budget JournalFailed cut = elim cut.0.2 [
    | inl u ↦ kept_unwritten cut.0.0 u
    | inr u ↦ kept_acted cut.0.0 cut.0.1 u
  ]
  kept budget ClockFault none = kept_untimed none.1.0 none.1.1
  kept budget ReadsSpent used = kept_answered (λ rest. ⊤) used.0.1
  kept budget Memory refused = kept_answered (λ rest. ⊤) refused.1.1

  promised : (step : Step) (budget : ℕ) (end : ServeEnd) → ServeHere step budget end
      → step ≡ machine → Kept
  promised step budget end is same = kept budget end (subst (λ (s : Step). ServeHere s budget end) same is)

  -- with what an observer kept of the same course
  pub one_course : (keeps : ServedTrace → Type 0) (step : Step) (budget : ℕ) (end : ServeEnd)
      → ServeHere step budget end → keeps course
      → OneTrace
      (λ c. ServeIs step setting old new trusted stood StaysHere
      (IsUnserved step setting was_kept stands leaves) has_failed c budget end)
      (λ c. step ≡ machine → KeepsPromises setting (AreFirstIn c old.left old.given new.given) old.held
      new.held trusted was_kept stood stands leaves) keeps
  one_course keeps step budget end is observed = record {
    course = course;
    dialogue = is;
    promised = promised step budget end is;
    observed = observed;
  }
