-- Lemmas on what an observer keeps.
use Rattle.std.proofs.Common.{◌≡◌, ◌∙◌, ◌≤◌, ap, sym, refl, inl, inr, ℕ, List, [], ◌∷◌, ◌++◌, map}
use Rattle.std.proofs.Common.{append-nil, append_assoc, Bool, false, Option, Some, None, Result, Ok}
use Rattle.std.proofs.Common.{Err, All}
use Rattle.std.proofs.lemmas.List.{map-append}
use Rattle.std.proofs.lemmas.List.Elements.{All-nil, All-push}
use Rattle.std.proofs.lemmas.List.Folds.{concat-append}
use Rattle.std.specs.List.{concat}
use Rattle.std.specs.Io.KnownBytes.{Appends, Keeps}
use Rattle.room_types.specs.declared.fleet.Terminal.{Terminal}
use Rattle.room_types.specs.declared.refusal_statuses.Refusal.{Refusal}
use Rattle.room_model.specs.Room.{Room}
use Rattle.room_http.specs.ReplyMessages.{fixed_bytes}
use Rattle.room_http_messages.proofs.StreamLemmas.{Appends-more, Appends-none}
use Rattle.room_types.specs.declared.numbers.TheConstants.{LAST_MOMENT}
use Rattle.room_http.specs.declared.settings.HttpSettings.{HttpSettings}
use Rattle.room_http.specs.ClockMoments.{HasNoMoment}
use Rattle.room_model.specs.Rooms.{IsUnavailable, Step}
use Rattle.room_http.specs.declared.arrivals.Arrived.{Arrived}
use Rattle.room_http.specs.declared.arrivals.Arrived.TheVariants.{Message, Refused}
use Rattle.room_http.specs.declared.session.ServeEnd.{ServeEnd}
use Rattle.room_http.specs.declared.session.ServeEnd.TheVariants.{Closed, Cut, ReadFault}
use Rattle.room_http.specs.declared.session.ServeEnd.TheVariants.{WriteFault, ClockFault}
use Rattle.room_http.specs.declared.session.ServeEnd.TheVariants.{JournalFailed, ReadsSpent, Memory}
use Rattle.room_http.specs.Arrivals.{Arrival, message, refused, is_closing, is_head_only, Begins}
use Rattle.room_http.specs.Arrivals.{HasNext, IsShown}
use Rattle.room_http.specs.KeptMessages.{Acts, ActsOnEach, AreKept, AreReplies, DoesNothing, Grow}
use Rattle.room_http.specs.KeptMessages.{IsBegun, IsCome, IsRecord, KeepsEach, KeepsOne, Tapes}
use Rattle.room_http.specs.KeptMessages.{Unmoved, answer_kept, came_of, response_of}
use Rattle.room_http.specs.Dialogues.{Timed, IsFront, IsReplyTo}
use Rattle.room_http.specs.ServedTrace.{ServedTrace}
use Rattle.room_http.proofs.ServeLemmas.{last_of, still_begins}
use Rattle.room_http.proofs.StreamLemmas.{Passes, Begins-push}

-- ---- one arrival
-- the clock gave none
pub nothing_done : (given gives kept held : Option (List ℕ)) (was_none : Bool)
    → HasNoMoment given gives was_none []
    → DoesNothing (record { given = given; kept = kept; held = held })
    (record { given = gives; kept = kept; held = held })
nothing_done given gives kept held was_none (inl none) =
    ([], inl refl, record { given = none.1; kept = Appends-none kept; held = Appends-none held })
nothing_done given gives kept held was_none (inr late) = (
  late.0 ∷ [],
  inr (late.0, late.1, refl),
  record { given = late.2; kept = Appends-none kept; held = Appends-none held },
)

-- one arrival more
AreReplies-push : (step : Step) (setting : HttpSettings) (terminals : List Terminal) (room mid after : Room)
    (outs : List Timed) (answers : List (List ℕ)) (x : Timed) (answer : List ℕ)
    → AreReplies step setting terminals room outs answers mid
    → IsReplyTo step setting terminals mid x after answer
    → AreReplies step setting terminals room (outs ++ x ∷ []) (answers ++ answer ∷ []) after
AreReplies-push step setting terminals room mid after [] [] x answer are is = (after, rw are at is, refl)
AreReplies-push step setting terminals room mid after [] (y ∷ answers) x answer are is = absurd are
AreReplies-push step setting terminals room mid after (y ∷ outs) [] x answer are is = absurd are
AreReplies-push step setting terminals room mid after (y ∷ outs) (z ∷ answers) x answer are is =
    (are.0, are.1, AreReplies-push step setting terminals are.0 mid after outs answers x answer are.2 is)

module _ (came : ℕ → List ℕ → List ℕ) (response : List ℕ → List ℕ) where
  come : (arrived : Arrived) (o : Arrival) (at : ℕ) → at ≤ LAST_MOMENT → IsShown arrived o
      → IsCome came response (o, at) (came_of came arrived at)
  come (Message shown bytes) (message m) at within is = (bytes.now, is.1, within, refl)
  come (Message shown bytes) (refused r head_only) at within is = absurd is
  come (Refused r head_only) (message m) at within is = absurd is
  come (Refused r head_only) (refused s without) at within is = refl

  answer_is : (arrived : Arrived) (o : Arrival) (answer : List ℕ) → IsShown arrived o
      → response_of response arrived answer ≡ answer_kept came response o answer
  answer_is (Message shown bytes) (message m) answer is = refl
  answer_is (Message shown bytes) (refused r head_only) answer is = absurd is
  answer_is (Refused r head_only) (message m) answer is = absurd is
  answer_is (Refused r head_only) (refused s without) answer is = refl

  module _ (lasts unmoved : Type 0) (moved : Timed → List ℕ → Type 0) (arrived : Arrived) (o : Arrival)
      (shown : IsShown arrived o) (at : ℕ) (within : at ≤ LAST_MOMENT)
      (given gives : Option (List ℕ)) (moment : Appends given gives (at ∷ [])) where
    abbrev coming : List ℕ
    coming = came_of came arrived at

    abbrev Here : Option (List ℕ) → Option (List ℕ) → Option (List ℕ) → Option (List ℕ)
        → Result (Unit {0}) ServeEnd → Type 0
    Here kept keeps held holds =
        KeepsOne came response lasts unmoved moved (record { given = given; kept = kept; held = held })
        (record { given = gives; kept = keeps; held = holds }) at o

    is_record : (answer : List ℕ) → IsRecord came response (o, at) answer
        (coming ++ response_of response arrived answer)
    is_record answer =
        (coming, come arrived o at within shown, ap (λ t. coming ++ t) (answer_is arrived o answer shown))

    -- it could not be kept as it came
    pub kept_none : (kept keeps held : Option (List ℕ)) → lasts → unmoved
        → ((front : List ℕ) × IsFront front coming × Appends kept keeps front)
        → Here kept keeps held held (Err JournalFailed)
    kept_none kept keeps held same still cut = (
      cut.0,
      [],
      inl (still, inl (same, (coming, come arrived o at within shown, cut.1, refl), refl)),
      record { given = moment; kept = cut.2; held = Appends-none held },
    )

    -- memory or storage was unavailable, however serving ended by that
    pub kept_unserved_tail : (end : ServeEnd) (kept comes last held holds : Option (List ℕ)) (r : Refusal)
        (wrote : List ℕ)
        → unmoved → IsUnavailable r → Appends kept comes coming → last ≡ comes
        → IsFront wrote (fixed_bytes r (is_head_only o)) → Appends held holds wrote
        → (tail wrote : List ℕ) × IsBegun came response end lasts unmoved (moved (o, at)) (o, at) tail wrote
        × Grow (record { given = given; kept = kept; held = held })
        (record { given = gives; kept = last; held = holds }) (at ∷ []) tail wrote
    kept_unserved_tail end kept comes last held holds r wrote still cause first same front written = (
      coming,
      wrote,
      inl (still, inr (come arrived o at within shown, (r, cause, front))),
      record { given = moment; kept = rw same first; held = written },
    )

    -- the room has acted, and these are the bytes of its answer
    module _ (answer bytes : List ℕ) (are : answer ≡ bytes) (acts : moved (o, at) bytes)
        (stays : lasts) where
      acted : moved (o, at) answer
      acted = rw are acts

      -- it could not be kept
      pub kept_part : (kept comes keeps held : Option (List ℕ)) → Appends kept comes coming
          → ((front : List ℕ) × IsFront front (response_of response arrived answer)
          × Appends comes keeps front)
          → Here kept keeps held held (Err JournalFailed)
      kept_part kept comes keeps held first cut = (
        coming ++ cut.0,
        [],
        inr (
          answer,
          acted,
          stays,
          inl (
            (
              coming,
              cut.0,
              come arrived o at within shown,
              (cut.1.0, sym (answer_is arrived o answer shown) ∙ cut.1.1),
              refl,
              refl,
            ),
            refl,
          ),
        ),
        record {
          given = moment;
          kept = Appends-more kept comes keeps coming cut.0 first cut.2;
          held = Appends-none held;
        },
      )

      -- the record was kept, and it was written
      pub kept_all : (kept comes keeps last held holds : Option (List ℕ))
          → Appends kept comes coming → Appends comes keeps (response_of response arrived answer)
          → last ≡ keeps
          → Appends held holds answer → Here kept last held holds (Ok tt)
      kept_all kept comes keeps last held holds first second same wrote = (
        answer,
        coming ++ response_of response arrived answer,
        acted,
        is_record answer,
        record {
          given = moment;
          kept = rw same
              (Appends-more kept comes keeps coming (response_of response arrived answer) first second);
          held = wrote;
        },
      )

      -- it was not written wholly
      pub kept_cut : (kept comes keeps last held holds : Option (List ℕ)) (wrote : List ℕ)
          → Appends kept comes coming → Appends comes keeps (response_of response arrived answer)
          → last ≡ keeps
          → IsFront wrote answer → Appends held holds wrote
          → Here kept last held holds (Err WriteFault)
      kept_cut kept comes keeps last held holds wrote first second same front written = (
        coming ++ response_of response arrived answer,
        wrote,
        inr (answer, acted, stays, inr (is_record answer, front)),
        record {
          given = moment;
          kept = rw same
              (Appends-more kept comes keeps coming (response_of response arrived answer) first second);
          held = written;
        },
      )

  -- ---- a connection
  AreKept-push : (outs : List Timed) (answers : List (List ℕ)) (text : List ℕ) (x : Timed)
      (answer last : List ℕ) → AreKept came response outs answers text
      → IsRecord came response x answer last
      → AreKept came response (outs ++ x ∷ []) (answers ++ answer ∷ []) (text ++ last)
  AreKept-push [] [] text x answer last kept is = (last, [], is, ap (λ t. t ++ last) kept ∙ sym (append-nil last), refl)
  AreKept-push [] (y ∷ answers) text x answer last kept is = absurd kept
  AreKept-push (y ∷ outs) [] text x answer last kept is = absurd kept
  AreKept-push (y ∷ outs) (z ∷ answers) text x answer last kept is = (
    kept.0,
    kept.1 ++ last,
    kept.2,
    ap (λ t. t ++ last) kept.3 ∙ append_assoc kept.0 kept.1 last,
    AreKept-push outs answers kept.1 x answer last kept.4 is,
  )

  -- the arrivals were answered, all of them stay open, and these bytes are left; and the record of
  -- each was kept
  pub record Noted (step : Step) (setting : HttpSettings) (left : Option (List ℕ)) (old : Tapes)
      (remains : Option (List ℕ)) (new : Tapes) (trusted : Type 0)
      (stood stands : List Terminal → Room → Type 0) (outs : List Timed)
      (answers : List (List ℕ)) : Type 0 where
    pub text : List ℕ
    pub begins : (stream : List ℕ) → left ≡ Some stream
        → (rest : List ℕ) × (remains ≡ Some rest) × Begins stream (map (λ x. x.0) outs) rest
    pub stay : All (λ x. is_closing x.0 ≡ false) outs
    pub kept : AreKept came response outs answers text
    pub grew : Grow old new (map (λ x. x.1) outs) text (concat answers)
    pub moved : ActsOnEach step setting trusted stood stands outs answers

  module _ (step : Step) (setting : HttpSettings) (left : Option (List ℕ)) (old : Tapes) where
    pub Noted-none : (trusted : Type 0) (stood : List Terminal → Room → Type 0)
        → Noted step setting left old left old trusted stood stood [] []
    Noted-none trusted stood = record {
      text = [];
      begins = λ stream known. (stream, known, refl);
      stay = All-nil (λ (x : Timed). is_closing x.0 ≡ false);
      kept = refl;
      grew = record { given = Appends-none old.given; kept = Appends-none old.kept; held = Appends-none old.held };
      moved = λ trust terminals room standing. (room, refl, standing);
    }

    -- the bytes that are left come from the reader to the inbox
    pub Noted-kept : (remains after : Option (List ℕ)) (new : Tapes) (trusted : Type 0)
        (stood stands : List Terminal → Room → Type 0) (outs : List Timed)
        (answers : List (List ℕ))
        → Noted step setting left old remains new trusted stood stands outs answers → Keeps remains after
        → Noted step setting left old after new trusted stood stands outs answers
    Noted-kept remains after new trusted stood stands outs answers before same = record {
      text = before.text;
      begins = λ stream known. still_begins stream outs remains after (before.begins stream known) same;
      stay = before.stay;
      kept = before.kept;
      grew = before.grew;
      moved = before.moved;
    }

    -- serving ended between arrivals
    pub Noted-ends : (remains : Option (List ℕ)) (new : Tapes) (trusted : Type 0)
        (stood stands : List Terminal → Room → Type 0) (outs : List Timed)
        (answers : List (List ℕ))
        → Noted step setting left old remains new trusted stood stands outs answers
        → (end : ServeEnd) (lasts : Type 0) → lasts
        → KeepsEach came response lasts (ActsOnEach step setting trusted stood stands) left old new end
        (record { outs = outs; answers = answers; last = None })
    Noted-ends remains new trusted stood stands outs answers before end lasts same = record {
      text = before.text;
      kept = before.kept;
      ends =
          inl (
            refl,
            same,
            before.moved,
            (λ stream known. let begins = before.begins stream known in (begins.0, begins.2, tt)),
            ([], inl refl, rw append-nil before.grew),
          );
    }

    -- one more arrival
    module _ (early_left remains : Option (List ℕ)) (mid : Tapes) (early late : Type 0)
        (stood stays stands : List Terminal → Room → Type 0) (earlier : late → early)
        (outs : List Timed) (answers : List (List ℕ))
        (noted : Noted step setting left old early_left mid early stood stays outs answers)
        (same : Keeps early_left remains) (new : Tapes) (after : Option (List ℕ)) (o : Arrival)
        (pass : Passes remains after o) (at : ℕ)
        (lasts later : Type 0) (both : later → lasts) where
      before : Noted step setting left old remains mid early stood stays outs answers
      before = Noted-kept early_left remains mid early stood stays outs answers noted same

      abbrev ServedTrace-to : ServeEnd → ServedTrace
      ServedTrace-to e = record { outs = outs; answers = answers; last = last_of e (o, at) }

      abbrev Now : List Timed → List (List ℕ) → Type 0
      Now = ActsOnEach step setting late stood stands

      abbrev One : Result (Unit {0}) ServeEnd → Type 0
      One = KeepsOne came response later (Unmoved late stays stands) (Acts step setting late stays stands) mid new at o

      same_moves : Unmoved late stays stands → Now outs answers
      same_moves still trust terminals room standing =
          let first = before.moved (earlier trust) terminals room standing in
          (first.0, first.1, still trust terminals first.0 first.2)

      one_moves : (answer : List ℕ) → Acts step setting late stays stands (o, at) answer
          → Now (outs ++ (o, at) ∷ []) (answers ++ answer ∷ [])
      one_moves answer acts trust terminals room standing =
          let first = before.moved (earlier trust) terminals room standing in
          let second = acts trust terminals first.0 first.2 in (
            second.0,
            AreReplies-push step setting terminals room first.0 second.0 outs answers (o, at) answer first.1 second.1,
            second.2,
          )

      begins_more : (stream : List ℕ) → left ≡ Some stream
          → (next : List ℕ) × (after ≡ Some next)
          × Begins stream (map (λ x. x.0) (outs ++ (o, at) ∷ [])) next
      begins_more stream known =
          let begins = before.begins stream known in
          let passes = pass.passes begins.0 begins.1 in
          (passes.0, passes.2, Begins-push stream outs begins.0 (o, at) passes.0 begins.2 before.stay passes.1)

      has_next : (stream : List ℕ) → left ≡ Some stream
          → (rest : List ℕ) × Begins stream (map (λ x. x.0) outs) rest × HasNext o rest
      has_next stream known =
          let begins = before.begins stream known in
          let passes = pass.passes begins.0 begins.1 in
          (begins.0, begins.2, (passes.0, passes.1))

      grow_more : (moments text bytes : List ℕ) → Grow mid new moments text bytes
          → Grow old new (map (λ x. x.1) outs ++ moments) (before.text ++ text)
          (concat answers ++ bytes)
      grow_more moments text bytes more = record {
        given = Appends-more old.given mid.given new.given (map (λ x. x.1) outs) moments before.grew.given more.given;
        kept = Appends-more old.kept mid.kept new.kept before.text text before.grew.kept more.kept;
        held = Appends-more old.held mid.held new.held (concat answers) bytes before.grew.held more.held;
      }

      grow_next : (text bytes : List ℕ) → Grow mid new (at ∷ []) text bytes
          → Grow old new (map (λ x. x.1) (outs ++ (o, at) ∷ [])) (before.text ++ text)
          (concat answers ++ bytes)
      grow_next text bytes more =
          rw (map-append (λ (x : Timed). x.1) outs ((o, at) ∷ [])) (grow_more (at ∷ []) text bytes more)

      grow_one : (text answer : List ℕ) → Grow mid new (at ∷ []) text answer
          → Grow old new (map (λ x. x.1) (outs ++ (o, at) ∷ [])) (before.text ++ text)
          (concat (answers ++ answer ∷ []))
      grow_one text answer more =
          let all : concat (answers ++ answer ∷ [])
          ≡ concat answers ++ answer =
          concat-append answers (answer ∷ []) ∙ ap (λ t. concat answers ++ t) (append-nil answer) in
          rw all (grow_next text answer more)

      -- it was answered, and stays open
      pub Noted-more : (one : One (Ok tt)) → is_closing o ≡ false
          → Noted step setting left old after new late stood stands (outs ++ (o, at) ∷ [])
          (answers ++ one.0 ∷ [])
      Noted-more one open_ = record {
        text = before.text ++ one.1;
        begins = begins_more;
        stay = All-push (λ (x : Timed). is_closing x.0 ≡ false) outs (o, at) before.stay open_;
        kept = AreKept-push outs answers before.text (o, at) one.0 one.1 before.kept one.3;
        grew = grow_one one.1 one.0 one.4;
        moved = one_moves one.0 one.2;
      }

      -- it was answered, and closes
      pub Noted-closes : (one : One (Ok tt)) → lasts → KeepsEach came response lasts Now left old new Closed
          (record { outs = outs ++ (o, at) ∷ []; answers = answers ++ one.0 ∷ []; last = None })
      Noted-closes one same = record {
        text = before.text ++ one.1;
        kept = AreKept-push outs answers before.text (o, at) one.0 one.1 before.kept one.3;
        ends = inl (
          refl,
          same,
          one_moves one.0 one.2,
          (λ stream known. let begins = begins_more stream known in (begins.0, begins.2, tt)),
          ([], inl refl, rw append-nil (grow_one one.1 one.0 one.4)),
        );
      }

      stopped : later → Unmoved late stays stands → DoesNothing mid new
          → KeepsEach came response lasts Now left old new ClockFault (ServedTrace-to ClockFault)
      stopped same still none = record {
        text = before.text;
        kept = before.kept;
        ends = inl (
          refl,
          both same,
          same_moves still,
          (λ stream known. let begins = before.begins stream known in (begins.0, begins.2, tt)),
          (none.0, none.1, simp append-nil at (grow_more none.0 [] [] none.2)),
        );
      }

      begun_after : (end : ServeEnd) (tail wrote : List ℕ)
          → IsBegun came response end later (Unmoved late stays stands)
          (Acts step setting late stays stands (o, at)) (o, at) tail wrote
          → IsBegun came response end lasts (Now outs answers)
          (λ answer. Now (outs ++ (o, at) ∷ []) (answers ++ answer ∷ []))
          (o, at) tail wrote
      begun_after end tail wrote (inl (still, inl cut)) = inl (same_moves still, inl (both cut.0, cut.1, cut.2))
      begun_after end tail wrote (inl (still, inr cause)) = inl (same_moves still, inr cause)
      begun_after end tail wrote (inr some) = inr (some.0, one_moves some.0 some.1, both some.2, some.3)

      begun : (end : ServeEnd) (tail wrote : List ℕ)
          → IsBegun came response end later (Unmoved late stays stands)
          (Acts step setting late stays stands (o, at)) (o, at) tail wrote
          → Grow mid new (at ∷ []) tail wrote
          → KeepsEach came response lasts Now left old new end
          (record { outs = outs; answers = answers; last = Some (o, at) })
      begun end tail wrote is grew = record {
        text = before.text;
        kept = before.kept;
        ends = inr ((o, at), refl, tail, wrote, has_next, begun_after end tail wrote is, grow_next tail wrote grew);
      }

      -- serving ended with it
      pub Noted-breaks : (end : ServeEnd) → One (Err end)
          → KeepsEach came response lasts Now left old new end (ServedTrace-to end)
      Noted-breaks ClockFault one = stopped one.0 one.1 one.2
      Noted-breaks Closed one = begun Closed one.0 one.1 one.2 one.3
      Noted-breaks Cut one = begun Cut one.0 one.1 one.2 one.3
      Noted-breaks ReadFault one = begun ReadFault one.0 one.1 one.2 one.3
      Noted-breaks WriteFault one = begun WriteFault one.0 one.1 one.2 one.3
      Noted-breaks JournalFailed one = begun JournalFailed one.0 one.1 one.2 one.3
      Noted-breaks ReadsSpent one = begun ReadsSpent one.0 one.1 one.2 one.3
      Noted-breaks Memory one = begun Memory one.0 one.1 one.2 one.3
