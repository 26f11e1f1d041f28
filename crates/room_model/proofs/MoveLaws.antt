-- Moves are all made, as their asks are one by one, or none is, for the first that is refused.
use Rattle.std.proofs.Common.{ap, inl, inr, subst, sym, ◌∙◌}
use Rattle.std.specs.Prelude.{Err, List, Ok, [], refl, ℕ, ◌++◌, ◌∷◌, ◌≡◌, ◌⊎◌}
use Rattle.room_types.specs.declared.answers.MoveLine.{MoveLine}
use Rattle.room_types.specs.declared.asks.Move.{Move}
use Rattle.room_types.specs.declared.asks.Moves.{Moves}
use Rattle.room_types.specs.declared.decisions.Decision.{Decision}
use Rattle.room_types.specs.declared.refusal_statuses.Refusal.{Refusal}
use Rattle.room_model.proofs.MoveFolds.{apply_both, by_ask}
use Rattle.room_model.specs.Decisions.{Verdict, answer_of, changes_of}
use Rattle.room_model.specs.Events.{by_desk}
use Rattle.room_model.specs.Moves.{AreLinesOf, AreMade, AreRefused, one_by_one}
use Rattle.room_model.specs.Room.{Room, apply}
use Rattle.room_model.specs.Run.{answers, room_run}
use Rattle.room_model.specs.Step.{Course, and_then, answer_to, ask_of, course, desk_asks, line_of}
use Rattle.room_model.specs.Step.{moves_in, single_asks, verdict_of}

-- what a move asks is decided in one step
pub move_is : (d : ℕ) (m : Move) (at : ℕ) (r : Room)
    → desk_asks d (ask_of m) at r ≡ single_asks d (ask_of m) at r
move_is d m at r =
    by_ask (λ a. desk_asks d a at r ≡ single_asks d a at r) (λ c. refl) (λ n c. refl) m

module _ (d at : ℕ) where
  -- the first that is refused, and those before it
  record Stops (ms : List Move) (r : Room) (why : Refusal) : Type 0 where
    before : List Move
    first : Move
    after : List Move
    split : ms ≡ before ++ first ∷ after
    lines : List MoveLine
    said : AreLinesOf before (answers (one_by_one d before at) r) lines
    refused : answer_to (by_desk d (ask_of first) at) (room_run (one_by_one d before at) r) ≡ Err why

  -- what a course comes to
  abbrev IsCourse : List Move → Room → Course → Type 0
  IsCourse ms r (Ok x) =
      (apply r x.0 ≡ room_run (one_by_one d ms at) r)
      × AreLinesOf ms (answers (one_by_one d ms at) r) x.1
  IsCourse ms r (Err why) = Stops ms r why

  module _ (m : Move) (ms : List Move) (r : Room) where
    -- the first is made, and so it goes on
    goes_on : (y : Decision) → desk_asks d (ask_of m) at r ≡ Ok y → (rest : Course)
        → IsCourse ms (apply r y.changes) rest
        → IsCourse (m ∷ ms) r (and_then m (Ok y) (λ cs. rest))
    goes_on y e (Ok z) is = (
      apply_both r y.changes z.0 ∙ is.0
          ∙ sym (ap (λ v. room_run (one_by_one d ms at) (apply r (changes_of v))) e),
      subst
          (λ v.
          AreLinesOf (m ∷ ms) (answer_of v ∷ answers (one_by_one d ms at) (apply r (changes_of v)))
          (line_of m y.answer ∷ z.1)) (sym e) (refl, is.1),
    )
    goes_on y e (Err why) is = record {
      before = m ∷ is.before;
      first = is.first;
      after = is.after;
      split = ap (λ l. m ∷ l) is.split;
      lines = line_of m y.answer ∷ is.lines;
      said =
          subst
          (λ v.
          AreLinesOf (m ∷ is.before)
          (answer_of v ∷ answers (one_by_one d is.before at) (apply r (changes_of v)))
          (line_of m y.answer ∷ is.lines)) (sym e) (refl, is.said);
      refused =
          subst
          (λ v.
          answer_to (by_desk d (ask_of is.first) at)
          (room_run (one_by_one d is.before at) (apply r (changes_of v))) ≡ Err why) (sym e) is.refused;
    }

    begins : (x : Verdict) → desk_asks d (ask_of m) at r ≡ x
        → ((s : Room) → IsCourse ms s (course d ms at s))
        → IsCourse (m ∷ ms) r (and_then m x (λ cs. course d ms at (apply r cs)))
    begins (Ok y) e later = goes_on y e (course d ms at (apply r y.changes)) (later (apply r y.changes))
    begins (Err why) e later = record {
      before = [];
      first = m;
      after = ms;
      split = refl;
      lines = [];
      said = tt;
      refused = ap answer_of e;
    }

  course_is : (ms : List Move) (r : Room) → IsCourse ms r (course d ms at r)
  course_is [] r = (refl, tt)
  course_is (m ∷ ms) r =
      begins m ms r (single_asks d (ask_of m) at r) (move_is d m at r) (λ s. course_is ms s)

  by_course : (ms : Moves) (r : Room) (x : Course) → course d (moves_in ms) at r ≡ x
      → IsCourse (moves_in ms) r x → AreMade d ms at r ⊎ AreRefused d ms at r
  by_course ms r (Ok z) e is = inl (record {
    lines = z.1;
    answered = ap (λ y. answer_of (verdict_of y)) e;
    room = ap (λ y. apply r (changes_of (verdict_of y))) e ∙ is.0;
    said = is.1;
  })
  by_course ms r (Err why) e is = inr (record {
    why = why;
    answered = ap (λ y. answer_of (verdict_of y)) e;
    room = ap (λ y. apply r (changes_of (verdict_of y))) e;
    before = is.before;
    first = is.first;
    after = is.after;
    split = is.split;
    done = (is.lines, is.said);
    refused = is.refused;
  })

  pub made_or_refused : (ms : Moves) (r : Room) → AreMade d ms at r ⊎ AreRefused d ms at r
  made_or_refused ms r = by_course ms r (course d (moves_in ms) at r) refl (course_is (moves_in ms) r)
