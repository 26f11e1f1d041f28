-- How far a list was read, and what is left to be given of what it says.
use Rattle.std.specs.Prelude.{◌≡◌, ◌⊎◌, ⊤, ℕ, zero, suc, ◌+◌, ◌-◌, ◌*◌, ◌<◌, ◌≤◌, List, [], ◌∷◌}
use Rattle.std.specs.Prelude.{◌++◌, length, take, drop, Bool, false, cond, is_err, ◌||◌}
use Rattle.std.specs.Prelude.{if◌then◌else◌, Option, MatchResult, Result, Ok, Err, None, Some}
use Rattle.std.specs.Option.{option_map}
use Rattle.std.specs.Io.KnownBytes.{Consumes, IsAtEnd, Keeps}
use Rattle.dispatch_room_journal.specs.declared.record_inbox.TheConstants.{RECORD_ROOM}
use Rattle.dispatch_room_journal.specs.declared.read_progress.Mode.{Mode}
use Rattle.dispatch_room_journal.specs.declared.read_progress.Mode.TheVariants.{Fresh, Plain, Chain}
use Rattle.dispatch_room_journal.specs.declared.read_progress.Mode.TheVariants.{Done}
use Rattle.dispatch_room_journal.specs.declared.read_progress.Step.{Step}
use Rattle.dispatch_room_journal.specs.declared.read_progress.Reach.{Reach}
use Rattle.dispatch_room_journal.specs.declared.read_progress.Reach.TheVariants.{Full, Segment}
use Rattle.dispatch_room_journal.specs.declared.read_progress.Step.TheVariants.{Ended, More, Moved}
use Rattle.dispatch_room_journal.specs.declared.read_progress.Step.TheVariants.{Passed, Wrong}
use Rattle.dispatch_room_journal.specs.declared.record_fronts.Front.{Front}
use Rattle.dispatch_room_journal.specs.declared.record_fronts.Front.TheVariants.{Empty, Short}
use Rattle.dispatch_room_journal.specs.declared.record_fronts.Front.TheVariants.{Whole}
use Rattle.dispatch_room_journal.specs.declared.record_fronts.Front.TheVariants.{Wrong as NoFront}
use Rattle.dispatch_room_journal.specs.Chains.{is_row, sha256_digits}
use Rattle.dispatch_room_journal.specs.RecordFronts.{body_in, front_of, list_says, says}

-- one read to the back of the bytes that were kept: what it gave, and whether it failed
pub record Fills {R E : Type 0} (left : R → Option (List ℕ)) (has_failed : R → Bool)
    (old new : R) (before after : List ℕ) (result : Result ℕ E) : Type 0 where
  pub fits : length after ≤ RECORD_ROOM
  pub failed : has_failed new ≡ (has_failed old || is_err result)
  pub bytes : MatchResult result
      (λ n. (more : List ℕ) × (length more ≡ n) × (after ≡ before ++ more)
      × Consumes (left old) (left new) more × (n ≡ 0 → IsAtEnd (left new)))
      (λ _. (after ≡ before) × Keeps (left old) (left new))

-- what a text says that goes on where reading is
abbrev pub rest_of : Mode → List ℕ → List ℕ
rest_of (Fresh reach) text = list_says sha256_digits reach text
rest_of (Plain reach) text = text
rest_of (Chain reach link) text = says sha256_digits reach link.check link.has_ended text
rest_of (Done reach) text = []

-- what is left to be given, of a text of which so many bytes may be given as they are
abbrev pub left_of : Mode → ℕ → List ℕ → List ℕ
left_of mode vouched text = take vouched text ++ rest_of mode (drop vouched text)

-- of the bytes that were kept, and of those that are left to be read, where they are known
abbrev pub left_in : Mode → ℕ → List ℕ → Option (List ℕ) → Option (List ℕ)
left_in mode vouched kept left = option_map (λ more. left_of mode vouched (kept ++ more)) left

-- what is left to be given where nothing more follows
abbrev pub last_of : Mode → List ℕ → List ℕ
last_of (Fresh reach) text = text
last_of (Plain reach) text = text
last_of (Chain reach link) [] = []
last_of (Chain reach link) (byte ∷ more) = 0 ∷ []
last_of (Done reach) text = []

-- the last record that was read says that the list ended well
abbrev pub ends_well : Mode → Bool
ends_well (Chain reach link) = link.has_ended
ends_well (Fresh reach) = false
ends_well (Plain reach) = false
ends_well (Done reach) = false

-- as many rows as are counted
abbrev pub most_rows : ℕ
most_rows = 18446744073709551615

-- how far a list is to be read
abbrev pub reach_of : Mode → Reach
reach_of (Fresh reach) = reach
reach_of (Plain reach) = reach
reach_of (Chain reach link) = reach
reach_of (Done reach) = reach

-- nothing that is left of it says anything
abbrev pub done_of : Mode → Mode
done_of mode = Done (reach_of mode)

-- no more rows were passed over than bytes are gone from a text, where it is known
abbrev pub PassesRows : Option (List ℕ) → Option (List ℕ) → ℕ → ℕ → Type 0
PassesRows None after passed now = ⊤
PassesRows (Some text) None passed now = ⊥
PassesRows (Some text) (Some rest) passed now = now + length rest ≤ passed + length text

-- the rows at the front of a text: one, or none
abbrev pub rows_at : List ℕ → Front → ℕ
rows_at text Empty = 0
rows_at text Short = 0
rows_at text NoFront = 0
rows_at text (Whole size check) = if is_row (body_in size text) then 1 else 0

-- the rows that the next step passes over: in a list that is read by segments none
abbrev pub rows_next : Mode → List ℕ → ℕ
rows_next (Fresh reach) kept = 0
rows_next (Plain reach) kept = 0
rows_next (Chain Full link) kept =
    rows_at kept (front_of sha256_digits link.check link.has_ended kept)
rows_next (Chain Segment link) kept = 0
rows_next (Done reach) kept = 0

-- the rows that a step passed over
abbrev pub rows_by : Step → ℕ
rows_by More = 0
rows_by Moved = 0
rows_by Passed = 1
rows_by Wrong = 0
rows_by Ended = 0

abbrev pub rows_of : {E : Type 0} → Result Step E → ℕ
rows_of (Ok step) = rows_by step
rows_of (Err e) = 0

-- how far it is to where a read has to give something, or passes over a row
abbrev pub effort : Mode → ℕ → ℕ
effort (Fresh reach) len = 5 * RECORD_ROOM - len
effort (Plain reach) len = RECORD_ROOM - len
effort (Chain reach link) len = cond link.has_ended (RECORD_ROOM - len) (3 * RECORD_ROOM - len)
effort (Done reach) len = RECORD_ROOM - len

-- the same, and nothing where something may be given
abbrev pub weight : Mode → ℕ → ℕ → ℕ
weight mode zero len = suc (effort mode len)
weight mode (suc vouched) len = 0

-- something may be given, or it is less far
abbrev pub Nears : Mode → ℕ → Mode → ℕ → ℕ → Type 0
Nears mode len new_mode new_vouched new_len =
    (0 < new_vouched) ⊎ (effort new_mode new_len < effort mode len)

-- or a row is passed over
abbrev pub Nearer : Mode → List ℕ → Mode → ℕ → ℕ → Type 0
Nearer mode kept new_mode new_vouched new_len =
    Nears mode (length kept) new_mode new_vouched new_len ⊎ (rows_next mode kept ≡ 1)

-- One step, with nothing that may be given: it leaves what is left as it is, and it is nearer, or a
-- row was passed over; or more has to be read, for which there is room; or it was found what is
-- left.
module _ (mode : Mode) (kept : List ℕ) (new_mode : Mode) (new_vouched : ℕ) (new_kept : List ℕ) where
  abbrev pub StepIs : Step → Type 0
  StepIs More = (new_mode ≡ mode) × (new_vouched ≡ 0) × (new_kept ≡ kept)
      × (length kept < RECORD_ROOM) × (rest_of mode kept ≡ last_of mode kept)
  StepIs Moved = ((more : List ℕ)
      → left_of new_mode new_vouched (new_kept ++ more) ≡ rest_of mode (kept ++ more))
      × Nears mode (length kept) new_mode new_vouched (length new_kept)
  StepIs Passed = (more : List ℕ)
      → left_of new_mode new_vouched (new_kept ++ more) ≡ rest_of mode (kept ++ more)
  StepIs Wrong = (new_vouched ≡ 0) × ((more : List ℕ) → rest_of mode (kept ++ more) ≡ 0 ∷ [])
  StepIs Ended = ((more : List ℕ) → rest_of mode (kept ++ more) ≡ [])
      × ((more : List ℕ) → left_of new_mode new_vouched (new_kept ++ more) ≡ [])

  -- a step where nothing more follows
  abbrev pub EndIs : Step → Type 0
  EndIs More = ⊥
  EndIs Moved = (0 < new_vouched) × (left_of new_mode new_vouched new_kept ≡ last_of mode kept)
  EndIs Passed = ⊥
  EndIs Wrong = (new_vouched ≡ 0) × (last_of mode kept ≡ 0 ∷ [])
  EndIs Ended = (last_of mode kept ≡ []) × (left_of new_mode new_vouched new_kept ≡ [])

-- one step, and a read where one is needed: what was left before and is after it; and where it was
-- not found what is left, this holds
abbrev pub Advances : {E : Type 0} → Option (List ℕ) → Option (List ℕ) → Option (List ℕ) → Type 0
    → Result Step E → Type 0
Advances before after response Near (Ok More) = Keeps before after × Near
Advances before after response Near (Ok Moved) = Keeps before after × Near
Advances before after response Near (Ok Passed) = Keeps before after × Near
Advances before after response Near (Ok Wrong) = Consumes before response (0 ∷ [])
Advances before after response Near (Ok Ended) = Keeps before after × IsAtEnd after
Advances before after response Near (Err e) = Keeps before after
