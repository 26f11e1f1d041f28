-- Lemmas on steps in a list.
use Rattle.std.proofs.Common.{◌≡◌, ◌∙◌, inl, inr, refl, sym, ap, arith, ℕ, ◌+◌, ◌-◌, cond, ◌||◌}
use Rattle.std.proofs.Common.{◌<◌, ◌≤◌, List, [], ◌∷◌, ◌++◌, length, length-drop, take, drop}
use Rattle.std.proofs.Common.{append_assoc, append-nil, take-append-drop, Bool, true, false}
use Rattle.std.proofs.lemmas.Bool.{false≢true, or_right}
use Rattle.std.proofs.lemmas.List.{take-append-le, drop-append-le, drop-drop}
use Rattle.std.proofs.Math.Seq.{take-add}
use Rattle.dispatch_room_journal.specs.declared.record_inbox.TheConstants.{RECORD_ROOM}
use Rattle.dispatch_room_journal.specs.declared.record_headers.TheConstants.{HEADER}
use Rattle.dispatch_room_journal.specs.declared.record_fronts.Front.{Front}
use Rattle.dispatch_room_journal.specs.declared.record_fronts.Front.TheVariants.{Short, Whole}
use Rattle.dispatch_room_journal.specs.declared.record_fronts.Link.{Link}
use Rattle.dispatch_room_journal.specs.declared.read_progress.Mode.{Mode}
use Rattle.dispatch_room_journal.specs.declared.read_progress.Mode.TheVariants.{Fresh, Plain, Chain}
use Rattle.dispatch_room_journal.specs.declared.read_progress.Mode.TheVariants.{Done}
use Rattle.dispatch_room_journal.specs.declared.read_progress.Step.TheVariants.{Moved, Passed}
use Rattle.dispatch_room_journal.specs.declared.read_progress.Reach.{Reach}
use Rattle.dispatch_room_journal.specs.declared.read_progress.Reach.TheVariants.{Full, Segment}
use Rattle.dispatch_room_journal.specs.Chains.{is_end, is_no_entry, is_row, said_by, sha256_digits}
use Rattle.dispatch_room_journal.specs.RecordFronts.{Stays, body_in, comes_next, front_of, says}
use Rattle.dispatch_room_journal.specs.RecordFronts.{stops_at}
use Rattle.dispatch_room_journal.specs.ReadSteps.{StepIs, effort, last_of, left_of, rest_of}
use Rattle.dispatch_room_journal.specs.ReadSteps.{rows_at, rows_next}
use Rattle.dispatch_room_journal.proofs.FrontLemmas.{body_stays}
use Rattle.dispatch_room_journal.proofs.SaysLemmas.{list_short, says_none, says_short, says_stop}
use Rattle.dispatch_room_journal.proofs.SaysLemmas.{says_whole}

-- nothing follows a record
pub empty_rest : (reach : Reach) (link : Link) (kept : List ℕ) → length kept < 1
    → rest_of (Chain reach link) kept ≡ last_of (Chain reach link) kept
empty_rest reach link [] none = says_none sha256_digits reach link.check link.has_ended
empty_rest reach link (byte ∷ kept) none = absurd (omega (arith, none))

-- too little follows a record
pub short_rest : (reach : Reach) (link : Link) (kept : List ℕ) → 1 ≤ length kept
    → front_of sha256_digits link.check link.has_ended kept ≡ Short
    → rest_of (Chain reach link) kept ≡ last_of (Chain reach link) kept
short_rest reach link [] some is = absurd (omega (arith, some))
short_rest reach link (byte ∷ kept) some is =
    says_short sha256_digits reach link.check link.has_ended (byte ∷ kept) is

-- no row is passed over where none stands
pub no_row : (reach : Reach) (link : Link) (kept : List ℕ) (front : Front)
    → front_of sha256_digits link.check link.has_ended kept ≡ front → rows_at kept front ≡ 0
    → rows_next (Chain reach link) kept ≡ 0
no_row Full link kept front is none = ap (rows_at kept) is ∙ none
no_row Segment link kept front is none = refl

pub one_row : (link : Link) (kept : List ℕ) (size : ℕ) (check : List ℕ)
    → front_of sha256_digits link.check link.has_ended kept ≡ Whole size check
    → is_row (body_in size kept) ≡ true → rows_next (Chain Full link) kept ≡ 1
one_row link kept size check is row = ap (rows_at kept) is ∙ ap (λ b. cond b 1 0) row

-- and where nothing stands
pub no_row_empty : (reach : Reach) (link : Link) (kept : List ℕ) → length kept < 1
    → rows_next (Chain reach link) kept ≡ 0
no_row_empty Full link [] none = refl
no_row_empty Full link (byte ∷ kept) none = absurd (omega (arith, none))
no_row_empty Segment link kept none = refl

-- what is at the front stays so where nothing follows
pub front_now : (link : Link) (kept : List ℕ) (front : Front)
    → ((more : List ℕ) → front_of sha256_digits link.check link.has_ended (kept ++ more) ≡ front)
    → front_of sha256_digits link.check link.has_ended kept ≡ front
front_now link kept front stays =
    ap (front_of sha256_digits link.check link.has_ended) (sym (append-nil kept)) ∙ stays []

module _ (reach : Reach) (link : Link) (kept : List ℕ) (size : ℕ) (check : List ℕ)
    (stays : Stays (front_of sha256_digits link.check link.has_ended) link.has_ended kept (Whole size check))
  where
    abbrev body : List ℕ
    body = body_in size kept

    abbrev next_mode : Mode
    next_mode = Chain reach (record { check = check; has_ended = is_end body })

    -- a segment ends before the row that stands there
    pub stopped : stops_at reach body ≡ true → (more : List ℕ) → rest_of (Chain reach link) (kept ++ more) ≡ []
    stopped stops more =
        says_stop sha256_digits reach link.check link.has_ended (kept ++ more) size check (stays.3 more)
        (ap (stops_at reach) (body_stays size kept more stays.0) ∙ stops)

    module _ (goes : stops_at reach body ≡ false) where
      -- what follows the record says what it did
      whole_rest : (more : List ℕ)
          → rest_of (Chain reach link) (kept ++ more)
          ≡ said_by body ++ says sha256_digits reach check (is_end body) (drop (HEADER + size) kept ++ more)
      whole_rest more =
          says_whole sha256_digits reach link.check link.has_ended (kept ++ more) size check (stays.3 more)
          (ap (stops_at reach) (body_stays size kept more stays.0) ∙ goes)
          ∙ rw (body_stays size kept more stays.0, drop-append-le (HEADER + size) kept more stays.0) refl

      said_moved : is_no_entry body ≡ false → (more : List ℕ)
          → left_of next_mode size (drop HEADER kept ++ more) ≡ rest_of (Chain reach link) (kept ++ more)
      said_moved says_some more =
          let rest = drop HEADER kept in
          let long : size ≤ length rest = omega (arith, stays.0, length-drop HEADER kept) in
          let split : drop size rest ≡ drop (HEADER + size) kept = drop-drop size HEADER kept in
          rw (take-append-le size rest more long, drop-append-le size rest more long, split)
          (sym (whole_rest more ∙ rw says_some refl))

      silent_moved : is_no_entry body ≡ true → (more : List ℕ)
          → left_of next_mode 0 (drop (HEADER + size) kept ++ more) ≡ rest_of (Chain reach link) (kept ++ more)
      silent_moved silent more = sym (whole_rest more ∙ rw silent refl)

    goes_on : (r : Reach) → is_row body ≡ false → stops_at r body ≡ false
    goes_on Full none = refl
    goes_on Segment none = none

    ended_once : (has_ended : Bool) → comes_next has_ended body ≡ true → is_end body ≡ true
        → has_ended ≡ false
    ended_once false next ends = refl
    ended_once true next ends = absurd (false≢true (rw ends at next))

    ended_nears : is_end body ≡ true → length kept ≤ RECORD_ROOM
        → effort next_mode (length (drop (HEADER + size) kept)) < effort (Chain reach link) (length kept)
    ended_nears ends fits =
        rw (ends, ended_once link.has_ended stays.2 ends)
        (omega (arith, fits, stays.0, length-drop (HEADER + size) kept))

    silent_ends : (ends row : Bool) → (ends || row) ≡ true → row ≡ false → ends ≡ true
    silent_ends true row silent none = refl
    silent_ends false row silent none = absurd (false≢true (sym none ∙ silent))

    -- the record that came next was taken
    module _ (new_mode : Mode) (new_vouched : ℕ) (new_kept : List ℕ) (mode : new_mode ≡ next_mode)
        (said : is_no_entry body ≡ false → (new_kept ≡ drop HEADER kept) × (new_vouched ≡ size))
        (silent : is_no_entry body ≡ true → (new_kept ≡ drop (HEADER + size) kept) × (new_vouched ≡ 0)) where
      -- it is no row
      pub took : length kept ≤ RECORD_ROOM → is_row body ≡ false
          → StepIs (Chain reach link) kept new_mode new_vouched new_kept Moved
      took fits none = by_test (is_no_entry body) refl
        where
          by_test : (test : Bool) → is_no_entry body ≡ test
              → StepIs (Chain reach link) kept new_mode new_vouched new_kept Moved
          by_test false is =
              let now = said is in rw (mode, now.0, now.1) (said_moved (goes_on reach none) is, inl stays.1)
          by_test true is =
              let now = silent is in
              let ends = silent_ends (is_end body) (is_row body) is none in
              rw (mode, now.0, now.1) (silent_moved (goes_on reach none) is, inr (ended_nears ends fits))

      -- it is a row, which is passed over
      pub passed : stops_at reach body ≡ false → is_row body ≡ true
          → StepIs (Chain reach link) kept new_mode new_vouched new_kept Passed
      passed goes row =
          let is = or_right (is_end body) (is_row body) row in
          let now = silent is in
          rw (mode, now.0, now.1) (silent_moved goes is)

-- all that was read may be given
pub all_vouched : (reach : Reach) (kept more : List ℕ)
    → left_of (Plain reach) (length kept) (kept ++ more) ≡ kept ++ more
all_vouched reach kept more = take-append-drop (length kept) (kept ++ more)

-- some of what may be given was given
pub given : (mode : Mode) (vouched n : ℕ) (kept more : List ℕ) → n ≤ vouched → vouched ≤ length kept
    → left_of mode vouched (kept ++ more)
    ≡ take n kept ++ left_of mode (vouched - n) (drop n kept ++ more)
given mode vouched n kept more fits within =
    let text = kept ++ more in
    let rest = vouched - n in
    let sum : vouched ≡ n + rest = omega (arith, fits) in
    let front : take n text ≡ take n kept = take-append-le n kept more (omega (arith, fits, within)) in
    let back : drop n text ≡ drop n kept ++ more = drop-append-le n kept more (omega (arith, fits, within)) in
    ap (λ v. take v text ++ rest_of mode (drop v text)) sum
    ∙ rw (take-add n rest text, sym (drop-drop rest n text), front, back)
    (append_assoc (take n kept) (take rest (drop n kept ++ more)) (rest_of mode (drop rest (drop n kept ++ more))))

-- where nothing was read, nothing is left
pub none_left : (mode : Mode) (kept : List ℕ) → length kept < 1
    → (last_of mode kept ≡ []) × (left_of mode 0 kept ≡ [])
none_left (Fresh reach) [] none = (refl, list_short sha256_digits reach [] (omega arith))
none_left (Plain reach) [] none = (refl, refl)
none_left (Chain reach link) [] none = (refl, says_none sha256_digits reach link.check link.has_ended)
none_left (Done reach) [] none = (refl, refl)
none_left mode (byte ∷ kept) none = absurd (omega (arith, none))

-- what is left behind the last record is no record
pub wrong_end : (reach : Reach) (link : Link) (kept : List ℕ) → 1 ≤ length kept
    → last_of (Chain reach link) kept ≡ 0 ∷ []
wrong_end reach link [] some = absurd (omega (arith, some))
wrong_end reach link (byte ∷ kept) some = refl
