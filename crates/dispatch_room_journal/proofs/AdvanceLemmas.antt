-- Lemmas on what is left to be given, before a step and after it.
use Rattle.std.proofs.Common.{◌≡◌, ◌≢◌, ◌∙◌, inl, inr, refl, sym, ap, arith, ℕ, zero, suc, ◌+◌, ◌-◌}
use Rattle.std.proofs.Common.{◌*◌, ◌<◌, ◌≤◌, List, [], ◌∷◌, ◌++◌, length, length-append, take}
use Rattle.std.proofs.Common.{append_assoc, append-nil, Bool, true, false, ◌||◌, cond, Option, Some}
use Rattle.std.proofs.Common.{None, Ok}
use Rattle.std.specs.Io.KnownBytes.{Consumes, IsAtEnd, Keeps, prepend_known}
use Rattle.std.proofs.lemmas.Bool.{false≢true, ne_eqb}
use Rattle.std.proofs.lemmas.List.{nil_from_length}
use Rattle.std.proofs.Math.Bool.{or-true}
use Rattle.std.specs.Prelude.{◌==◌, set}
use Rattle.dispatch_room_journal.specs.declared.record_inbox.TheConstants.{RECORD_ROOM}
use Rattle.dispatch_room_journal.specs.declared.read_progress.Mode.{Mode}
use Rattle.dispatch_room_journal.specs.declared.read_progress.Mode.TheVariants.{Fresh, Plain, Chain}
use Rattle.dispatch_room_journal.specs.declared.read_progress.Mode.TheVariants.{Done}
use Rattle.dispatch_room_journal.specs.declared.read_progress.Reach.TheVariants.{Full, Segment}
use Rattle.dispatch_room_journal.specs.declared.read_progress.Step.{Step}
use Rattle.dispatch_room_journal.specs.declared.read_progress.Step.TheVariants.{Ended, More, Moved}
use Rattle.dispatch_room_journal.specs.declared.read_progress.Step.TheVariants.{Passed, Wrong}
use Rattle.dispatch_room_journal.specs.ReadSteps.{Advances, EndIs, Nearer, Nears, PassesRows}
use Rattle.dispatch_room_journal.specs.ReadSteps.{StepIs, done_of, effort, last_of, left_in}
use Rattle.dispatch_room_journal.specs.ReadSteps.{most_rows, reach_of, rest_of, rows_by, rows_next}
use Rattle.dispatch_room_journal.specs.ReadSteps.{weight}

module _ (mode : Mode) (kept : List ℕ) (new_mode : Mode) (new_vouched : ℕ) (new_kept : List ℕ) where
  -- without a read
  pub moved : (known : Option (List ℕ)) → StepIs mode kept new_mode new_vouched new_kept Moved
      → Keeps (left_in mode 0 kept known) (left_in new_mode new_vouched new_kept known)
  moved None is = tt
  moved (Some more) is = is.0 more

  pub passed : (known : Option (List ℕ)) → StepIs mode kept new_mode new_vouched new_kept Passed
      → Keeps (left_in mode 0 kept known) (left_in new_mode new_vouched new_kept known)
  passed None is = tt
  passed (Some more) is = is more

  pub wrong : (known : Option (List ℕ)) → StepIs mode kept new_mode new_vouched new_kept Wrong
      → Consumes (left_in mode 0 kept known) (left_in (done_of new_mode) new_vouched new_kept known) (0 ∷ [])
  wrong None is = tt
  wrong (Some more) is = rw is.0 (is.1 more)

  pub ended : (known : Option (List ℕ)) → StepIs mode kept new_mode new_vouched new_kept Ended
      → Keeps (left_in mode 0 kept known) (left_in new_mode new_vouched new_kept known)
      × IsAtEnd (left_in new_mode new_vouched new_kept known)
  ended None is = (tt, tt)
  ended (Some more) is = (is.1 more ∙ sym (is.0 more), is.1 more)

  -- where a read found that nothing follows
  module _ (old now : Option (List ℕ)) (more : List ℕ) (none : length more ≡ 0)
      (takes : Consumes old now more) (at_end : IsAtEnd now)
      (last : rest_of mode kept ≡ last_of mode kept) where
    nothing : more ≡ []
    nothing = nil_from_length more none

    end_moved_by : (before after : Option (List ℕ)) → Consumes before after [] → IsAtEnd after
        → EndIs mode kept new_mode new_vouched new_kept Moved
        → Keeps (left_in mode 0 kept before) (left_in new_mode new_vouched new_kept after)
    end_moved_by None after takes at_end is = tt
    end_moved_by (Some xs) None takes at_end is = absurd takes
    end_moved_by (Some xs) (Some ys) takes at_end is =
        rw (takes, at_end, append-nil kept, append-nil new_kept) (is.1 ∙ sym last)

    end_wrong_by : (before after : Option (List ℕ)) → Consumes before after [] → IsAtEnd after
        → EndIs mode kept new_mode new_vouched new_kept Wrong
        → Consumes (left_in mode 0 kept before) (left_in (done_of new_mode) new_vouched new_kept after) (0 ∷ [])
    end_wrong_by None after takes at_end is = tt
    end_wrong_by (Some xs) None takes at_end is = absurd takes
    end_wrong_by (Some xs) (Some ys) takes at_end is =
        rw (takes, at_end, append-nil kept, is.0) (last ∙ is.1)

    end_ended_by : (before after : Option (List ℕ)) → Consumes before after [] → IsAtEnd after
        → EndIs mode kept new_mode new_vouched new_kept Ended
        → Keeps (left_in mode 0 kept before) (left_in new_mode new_vouched new_kept after)
        × IsAtEnd (left_in new_mode new_vouched new_kept after)
    end_ended_by None None takes at_end is = (tt, tt)
    end_ended_by None (Some ys) takes at_end is =
        (tt, rw (at_end, append-nil new_kept) is.1)
    end_ended_by (Some xs) None takes at_end is = absurd takes
    end_ended_by (Some xs) (Some ys) takes at_end is =
        rw (takes, at_end, append-nil kept, append-nil new_kept) (is.1 ∙ sym (last ∙ is.0), is.1)

    pub end_moved : EndIs mode kept new_mode new_vouched new_kept Moved
        → Keeps (left_in mode 0 kept old) (left_in new_mode new_vouched new_kept now)
    end_moved is = end_moved_by old now (rw nothing at takes) at_end is

    pub end_wrong : EndIs mode kept new_mode new_vouched new_kept Wrong
        → Consumes (left_in mode 0 kept old) (left_in (done_of new_mode) new_vouched new_kept now) (0 ∷ [])
    end_wrong is = end_wrong_by old now (rw nothing at takes) at_end is

    pub end_ended : EndIs mode kept new_mode new_vouched new_kept Ended
        → Keeps (left_in mode 0 kept old) (left_in new_mode new_vouched new_kept now)
        × IsAtEnd (left_in new_mode new_vouched new_kept now)
    end_ended is = end_ended_by old now (rw nothing at takes) at_end is

module _ (mode : Mode) where
  -- a read that failed left all as it was
  pub kept_same : (vouched : ℕ) (kept : List ℕ) (old now : Option (List ℕ)) → Keeps old now
      → Keeps (left_in mode vouched kept old) (left_in mode vouched kept now)
  kept_same vouched kept None now keeps = tt
  kept_same vouched kept (Some xs) None keeps = absurd keeps
  kept_same vouched kept (Some xs) (Some ys) keeps = rw keeps refl

  -- what was read joins what was kept
  pub read_more : (kept more after : List ℕ) (old now : Option (List ℕ)) → after ≡ kept ++ more
      → Consumes old now more
      → Keeps (left_in mode 0 kept old) (left_in mode 0 after now)
  read_more kept more after None now is takes = tt
  read_more kept more after (Some xs) None is takes = absurd takes
  read_more kept more after (Some xs) (Some ys) is takes =
      rw (is, takes) (ap (rest_of mode) (append_assoc kept more ys))

-- what was read brings the end nearer
pub read_nears : (mode : Mode) (len more : ℕ) → 0 < more → len + more ≤ RECORD_ROOM
    → effort mode (len + more) < effort mode len
read_nears (Fresh reach) len more some fits = omega (arith, some, fits)
read_nears (Plain reach) len more some fits = omega (arith, some, fits)
read_nears (Done reach) len more some fits = omega (arith, some, fits)
read_nears (Chain reach link) len more some fits = by_end link.has_ended
  where
    by_end : (has_ended : Bool)
        → cond has_ended (RECORD_ROOM - (len + more)) (3 * RECORD_ROOM - (len + more))
        < cond has_ended (RECORD_ROOM - len) (3 * RECORD_ROOM - len)
    by_end true = omega (arith, some, fits)
    by_end false = omega (arith, some, fits)

-- a step that was taken where nothing may be given
pub lighter : (mode : Mode) (len : ℕ) (new_mode : Mode) (new_vouched new_len : ℕ)
    → Nears mode len new_mode new_vouched new_len
    → weight new_mode new_vouched new_len < weight mode 0 len
lighter mode len new_mode zero new_len (inl some) = absurd (omega (arith, some))
lighter mode len new_mode zero new_len (inr near) = omega (arith, near)
lighter mode len new_mode (suc vouched) new_len near = omega arith

-- the greatest weight
abbrev pub heaviest : ℕ
heaviest = 5 * RECORD_ROOM + 1

effort_fits : (mode : Mode) (len : ℕ) → effort mode len ≤ 5 * RECORD_ROOM
effort_fits (Fresh reach) len = omega arith
effort_fits (Plain reach) len = omega arith
effort_fits (Done reach) len = omega arith
effort_fits (Chain reach link) len = by_end link.has_ended
  where
    by_end : (has_ended : Bool) → cond has_ended (RECORD_ROOM - len) (3 * RECORD_ROOM - len) ≤ 5 * RECORD_ROOM
    by_end true = omega arith
    by_end false = omega arith

weight_fits : (mode : Mode) (vouched len : ℕ) → weight mode vouched len ≤ heaviest
weight_fits mode zero len = omega (arith, effort_fits mode len)
weight_fits mode (suc vouched) len = omega arith

-- the rows that may still be passed over, and then the weight
abbrev pub measure : Mode → ℕ → ℕ → ℕ → ℕ
measure mode vouched len passed = (most_rows - passed) * (heaviest + 1) + weight mode vouched len

pub smaller : (mode : Mode) (kept : List ℕ) (new_mode : Mode) (new_vouched new_len passed new_passed : ℕ)
    → Nearer mode kept new_mode new_vouched new_len → new_passed ≡ passed + rows_next mode kept
    → passed < most_rows
    → measure new_mode new_vouched new_len new_passed < measure mode 0 (length kept) passed
smaller mode kept new_mode new_vouched new_len passed new_passed (inl near) counts fits =
    omega (arith, lighter mode (length kept) new_mode new_vouched new_len near, counts, fits)
smaller mode kept new_mode new_vouched new_len passed new_passed (inr row) counts fits =
    omega (arith, weight_fits new_mode new_vouched new_len, counts, row, fits)

-- by segments no row is passed over
pub no_rows : (mode : Mode) (kept : List ℕ) → reach_of mode ≡ Segment → rows_next mode kept ≡ 0
no_rows (Fresh reach) kept segments = refl
no_rows (Plain reach) kept segments = refl
no_rows (Chain Full link) kept segments = cc
no_rows (Chain Segment link) kept segments = refl
no_rows (Done reach) kept segments = refl

-- so none is counted
pub legs_row : (mode : Mode) (kept : List ℕ) → 1 ≡ rows_next mode kept → reach_of mode ≢ Segment
legs_row mode kept row segments = absurd (omega (arith, row, no_rows mode kept segments))

module _ (mode : Mode) (kept : List ℕ) (new_mode : Mode) (new_vouched : ℕ) (new_kept : List ℕ) where
  -- a step without a read
  pub settled : (E : Type 0) (known : Option (List ℕ)) (step : Step) → step ≢ More
      → StepIs mode kept new_mode new_vouched new_kept step → rows_by step ≡ rows_next mode kept
      → Advances {E = E} (left_in mode 0 kept known) (left_in new_mode new_vouched new_kept known)
      (left_in (done_of new_mode) new_vouched new_kept known)
      (Nearer mode kept new_mode new_vouched (length new_kept)) (Ok step)
  settled E known More other is rows = absurd (other refl)
  settled E known Moved other is rows = (moved mode kept new_mode new_vouched new_kept known is, inl is.1)
  settled E known Passed other is rows = (passed mode kept new_mode new_vouched new_kept known is, inr (sym rows))
  settled E known Wrong other is rows = wrong mode kept new_mode new_vouched new_kept known is
  settled E known Ended other is rows = ended mode kept new_mode new_vouched new_kept known is

  -- a step after a read that found that nothing follows
  pub finished : (E : Type 0) (old now : Option (List ℕ)) (more : List ℕ) → length more ≡ 0
      → Consumes old now more → IsAtEnd now → rest_of mode kept ≡ last_of mode kept
      → (step : Step) → EndIs mode kept new_mode new_vouched new_kept step
      → Advances {E = E} (left_in mode 0 kept old) (left_in new_mode new_vouched new_kept now)
      (left_in (done_of new_mode) new_vouched new_kept now)
      (Nearer mode kept new_mode new_vouched (length new_kept)) (Ok step)
  finished E old now more none takes at_end last More is = absurd is
  finished E old now more none takes at_end last Passed is = absurd is
  finished E old now more none takes at_end last Moved is = (
    end_moved mode kept new_mode new_vouched new_kept old now more none takes at_end last is,
    inl (inl is.0),
  )
  finished E old now more none takes at_end last Wrong is =
      end_wrong mode kept new_mode new_vouched new_kept old now more none takes at_end last is
  finished E old now more none takes at_end last Ended is =
      end_ended mode kept new_mode new_vouched new_kept old now more none takes at_end last is

-- whether reading failed: the rows that were passed over are not too many
pub not_spent : (passed : ℕ) → passed < most_rows → (passed == most_rows) ≡ false
not_spent passed fits = ne_eqb passed most_rows (λ is. omega (arith, is, fits))

-- and where they are
pub failed_last : (after failed spent : Bool) (passed : ℕ) → passed ≡ most_rows
    → (after || (passed == most_rows)) ≡ ((failed || spent) || true)
failed_last after failed spent passed is = rw is (or-true after ∙ sym (or-true (failed || spent)))

pub or_none : (a b c : Bool) → a ≡ c → b ≡ false → (a || b) ≡ c
or_none true b c same none = same
or_none false b c same none = none ∙ same

pub failed_now : (failed fault after : Bool) (passed now : ℕ) → after ≡ (failed || fault)
    → passed < most_rows → now < most_rows
    → (after || (now == most_rows)) ≡ ((failed || (passed == most_rows)) || fault)
failed_now failed fault after passed now is some fits =
    rw (is, not_spent passed some, not_spent now fits) (or_first failed fault)
  where
    or_first : (a b : Bool) → ((a || b) || false) ≡ ((a || false) || b)
    or_first true b = refl
    or_first false true = refl
    or_first false false = refl

-- the byte that is given where a record is wrong
pub first_set : (bytes : List ℕ) → (length bytes == 0) ≡ false → take 1 (set bytes 0 0) ≡ 0 ∷ []
first_set [] some = absurd (false≢true (sym some))
first_set (byte ∷ bytes) some = refl

-- no byte that is left of a text was added
module _ (old_kept new_kept : List ℕ) (passed rows : ℕ) where
  -- a step without a read
  pub passes_step : (known : Option (List ℕ)) → rows + length new_kept ≤ length old_kept
      → PassesRows (prepend_known old_kept known) (prepend_known new_kept known) passed (passed + rows)
  passes_step None shorter = tt
  passes_step (Some more) shorter =
      omega (arith, shorter, length-append old_kept more, length-append new_kept more)

-- a read
pub passes_read : (kept new_kept more : List ℕ) (passed : ℕ) (old now : Option (List ℕ)) → Consumes old now more
    → length new_kept ≤ length (kept ++ more)
    → PassesRows (prepend_known kept old) (prepend_known new_kept now) passed passed
passes_read kept new_kept more passed None now takes fits = tt
passes_read kept new_kept more passed (Some xs) None takes fits = absurd takes
passes_read kept new_kept more passed (Some xs) (Some ys) takes fits =
    omega (
      arith,
      fits,
      ap length takes,
      length-append more ys,
      length-append kept more,
      length-append kept xs,
      length-append new_kept ys,
    )

pub passes_same : (kept : List ℕ) (passed : ℕ) (old now : Option (List ℕ)) → Keeps old now
    → PassesRows (prepend_known kept old) (prepend_known kept now) passed passed
passes_same kept passed None now keeps = tt
passes_same kept passed (Some xs) None keeps = absurd keeps
passes_same kept passed (Some xs) (Some ys) keeps = rw keeps (omega arith)

pub passes_none : (text : Option (List ℕ)) (passed : ℕ) → PassesRows text text passed passed
passes_none None passed = tt
passes_none (Some text) passed = omega arith

pub passes_on : (first middle last : Option (List ℕ)) (passed between now : ℕ)
    → PassesRows first middle passed between → PassesRows middle last between now
    → PassesRows first last passed now
passes_on None middle last passed between now one two = tt
passes_on (Some a) None last passed between now one two = absurd one
passes_on (Some a) (Some b) None passed between now one two = absurd two
passes_on (Some a) (Some b) (Some c) passed between now one two = omega (arith, one, two)
