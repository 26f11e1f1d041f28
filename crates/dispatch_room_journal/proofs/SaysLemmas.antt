-- Lemmas on what the records of a text say.
use Rattle.std.proofs.Common.{◌≡◌, ◌∙◌, refl, ap, arith, ℕ, zero, suc, ◌+◌, ◌-◌, ◌<◌, ◌≤◌, List, []}
use Rattle.std.proofs.Common.{◌∷◌, ◌++◌, length, length-append, length-drop, take, drop}
use Rattle.std.proofs.Common.{take-append-drop, Bool, true, false, if◌then◌else◌}
use Rattle.std.proofs.lemmas.List.{take-append-le, drop-append-le}
use Rattle.std.proofs.lemmas.Slice.Eq.{bytes_eq-Decides}
use Rattle.std.specs.Str.{bytes_eq}
use Rattle.dispatch_room_journal.specs.declared.record_headers.TheConstants.{HEADER}
use Rattle.dispatch_room_journal.specs.declared.record_fronts.Front.{Front}
use Rattle.dispatch_room_journal.specs.declared.record_fronts.Front.TheVariants.{Empty, Short}
use Rattle.dispatch_room_journal.specs.declared.record_fronts.Front.TheVariants.{Wrong, Whole}
use Rattle.dispatch_room_journal.specs.Chains.{first_check, is_end, opening, said_by}
use Rattle.dispatch_room_journal.specs.declared.read_progress.Reach.{Reach}
use Rattle.dispatch_room_journal.specs.RecordFronts.{after, body_in, front_of, list_says, said_in}
use Rattle.dispatch_room_journal.specs.RecordFronts.{said_with, says, stops_at}

-- what is said with what the rest says
said_with-same : (reach : Reach) (f g : List ℕ → Bool → List ℕ → List ℕ) (text : List ℕ) (front : Front)
    → ((size : ℕ) (check : List ℕ) (has_ended : Bool)
    → f check has_ended (after size text) ≡ g check has_ended (after size text))
    → said_with reach f text front ≡ said_with reach g text front
said_with-same reach f g text Empty same = refl
said_with-same reach f g text Short same = refl
said_with-same reach f g text Wrong same = refl
said_with-same reach f g text (Whole size check) same =
    ap (λ rest. if stops_at reach (body_in size text) then [] else said_by (body_in size text) ++ rest)
    (same size check (is_end (body_in size text)))

module _ (hash : List ℕ → List ℕ) (reach : Reach) where
  -- as many steps as bytes are enough
  said_in-enough : (n m : ℕ) (check : List ℕ) (has_ended : Bool) (text : List ℕ)
      → length text ≤ n → length text ≤ m
      → said_in hash reach n check has_ended text ≡ said_in hash reach m check has_ended text
  said_in-enough zero zero check has_ended text fits enough = refl
  said_in-enough zero (suc m) check has_ended [] fits enough = refl
  said_in-enough zero (suc m) check has_ended (byte ∷ text) fits enough = absurd (omega (arith, fits))
  said_in-enough (suc n) zero check has_ended [] fits enough = refl
  said_in-enough (suc n) zero check has_ended (byte ∷ text) fits enough = absurd (omega (arith, enough))
  said_in-enough (suc n) (suc m) check has_ended text fits enough =
      said_with-same reach (λ c e t. said_in hash reach n c e t) (λ c e t. said_in hash reach m c e t) text
      (front_of hash check has_ended text)
      (λ size c e. said_in-enough n m c e (after size text)
      (omega (arith, fits, length-drop (HEADER + size) text))
      (omega (arith, enough, length-drop (HEADER + size) text)))

  pub says_none : (check : List ℕ) (has_ended : Bool) → says hash reach check has_ended [] ≡ []
  unfolding says
  says_none check has_ended = refl

  module _ (check : List ℕ) (has_ended : Bool) where
    -- what a text says goes on with what is at its front
    says_front : (text : List ℕ) (front : Front) → front_of hash check has_ended text ≡ front
        → says hash reach check has_ended text ≡ said_with reach (says hash reach) text front
    unfolding says
    says_front [] front is = ap (said_with reach (says hash reach) []) is
    says_front (byte ∷ text) front is =
        said_with-same reach (λ c e t. said_in hash reach (length text) c e t) (says hash reach) (byte ∷ text)
        (front_of hash check has_ended (byte ∷ text))
        (λ size c e. said_in-enough (length text) (length (after size (byte ∷ text))) c e
        (after size (byte ∷ text)) (omega (arith, length-drop (HEADER + size) (byte ∷ text))) (omega arith))
        ∙ ap (said_with reach (says hash reach) (byte ∷ text)) is

    pub says_wrong : (text : List ℕ) → front_of hash check has_ended text ≡ Wrong
        → says hash reach check has_ended text ≡ 0 ∷ []
    says_wrong text is = says_front text Wrong is

    pub says_short : (text : List ℕ) → front_of hash check has_ended text ≡ Short
        → says hash reach check has_ended text ≡ 0 ∷ []
    says_short text is = says_front text Short is

    -- a segment ends where a row stands
    pub says_stop : (text : List ℕ) (size : ℕ) (next : List ℕ)
        → front_of hash check has_ended text ≡ Whole size next
        → stops_at reach (body_in size text) ≡ true → says hash reach check has_ended text ≡ []
    says_stop text size next is stops = says_front text (Whole size next) is ∙ rw stops refl

    pub says_whole : (text : List ℕ) (size : ℕ) (next : List ℕ)
        → front_of hash check has_ended text ≡ Whole size next
        → stops_at reach (body_in size text) ≡ false
        → says hash reach check has_ended text
        ≡ said_by (body_in size text) ++ says hash reach next (is_end (body_in size text)) (after size text)
    says_whole text size next is goes = says_front text (Whole size next) is ∙ rw goes refl

  -- the first bytes of a list are too few for the line that begins a chain
  pub list_short : (text : List ℕ) → length text < 7 → list_says hash reach text ≡ text
  unfolding list_says
  list_short text short = by_test (bytes_eq (take 7 text) opening) refl
    where
      by_test : (test : Bool) → bytes_eq (take 7 text) opening ≡ test → list_says hash reach text ≡ text
      by_test false is = rw is refl
      by_test true is =
          let same : take 7 text ≡ opening = (bytes_eq-Decides (take 7 text) opening).0 is in
          let whole : take 7 text ++ drop 7 text ≡ text = take-append-drop 7 text in
          absurd (omega (arith, short, ap length same, ap length whole, length-append (take 7 text) (drop 7 text)))

  pub list_chain : (text more : List ℕ) → 7 ≤ length text → bytes_eq (take 7 text) opening ≡ true
      → list_says hash reach (text ++ more) ≡ says hash reach first_check false (drop 7 text ++ more)
  unfolding list_says
  list_chain text more long is =
      rw (take-append-le 7 text more long, is)
      (ap (says hash reach first_check false) (drop-append-le 7 text more long))

  pub list_plain : (text more : List ℕ) → 7 ≤ length text → bytes_eq (take 7 text) opening ≡ false
      → list_says hash reach (text ++ more) ≡ text ++ more
  unfolding list_says
  list_plain text more long is = rw (take-append-le 7 text more long, is) refl
