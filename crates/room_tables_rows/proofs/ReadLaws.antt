-- What a reader returns for numbers, for the numbers of codes, and for texts.
use Rattle.std.proofs.Common.{◌≡◌, ◌+◌, ◌<◌, ◌&&◌, ◌||◌, ◌∙◌, not, nat_eq, ℕ, zero, suc, List, []}
use Rattle.std.proofs.Common.{◌∷◌, length, Bool, true, false, Option, Some, None, Result, Ok, Err}
use Rattle.std.proofs.Common.{MatchResult, is_some, is_ok, IfSome, refl, sym, ap, arith}
use Rattle.std.specs.Str.{IsUtf8, is_utf8}
use Rattle.std.proofs.lemmas.Bool.{and_parts}
use Rattle.std.proofs.lemmas.Bool.Decides.{nat_tests}
use Rattle.std.proofs.lemmas.Str.{is_utf8-from_IsUtf8, IsUtf8-from_is_utf8}
use Rattle.sqlite_value.specs.declared.value.Value.{Value}
use Rattle.sqlite_value.specs.declared.value.Value.TheVariants.{Null, Int, Real, Text, Blob}
use Rattle.sqlite_value.specs.Order.{Row}
use Rattle.room_tables_schema.proofs.ColumnValues.{columns_are, columns_from}
use Rattle.room_tables_schema.specs.TypedRows.{number, number_or_null}
use Rattle.room_types.specs.Codes.{Decodes, kind_number, status_number, button_number}
use Rattle.room_types.specs.Codes.{outcome_number, state_columns, state_number, merged_into}
use Rattle.room_types.specs.declared.codes.Kind.{Kind}
use Rattle.room_types.specs.declared.codes.Kind.TheVariants.{Ambulance, Car, Support}
use Rattle.room_types.specs.declared.codes.Status.{Status}
use Rattle.room_types.specs.declared.codes.Status.TheVariants.{OffDuty, Available, Mobilised}
use Rattle.room_types.specs.declared.codes.Status.TheVariants.{AtScene, Leaving, AtHospital}
use Rattle.room_types.specs.declared.codes.Status.TheVariants.{Returning, Offered}
use Rattle.room_types.specs.declared.codes.Button.{Button}
use Rattle.room_types.specs.declared.codes.Button.TheVariants as button
use Rattle.room_types.specs.declared.codes.Outcome.{Outcome}
use Rattle.room_types.specs.declared.codes.Outcome.TheVariants.{Normal, Skipped, Wrong, Late, Stale}
use Rattle.room_types.specs.declared.codes.State.{State}
use Rattle.room_types.specs.declared.codes.State.TheVariants.{Active, Closed, Merged}
use Rattle.room_tables_rows.specs.ColumnValues.{kind_in, status_in, button_in, outcome_in}
use Rattle.room_tables_rows.specs.ReadableColumns.{all_stand, is_number, is_kind, is_status}
use Rattle.room_tables_rows.specs.ReadableColumns.{is_button, is_outcome, is_or_null, is_serial}
use Rattle.room_tables_rows.specs.ReadableColumns.{is_state, is_text}

taken : {C : Type 0} {c : C} → None ≡ Some c → ⊥
taken e = cc

-- ---- codes

-- what passes for each number below a bound
abbrev all_below : ℕ → (ℕ → Bool) → Bool
all_below zero test = true
all_below (suc n) test = test n && all_below n test

passes_below : (bound : ℕ) (test : ℕ → Bool) → all_below bound test ≡ true → (n : ℕ) → n < bound
    → test n ≡ true
passes_below zero test all n below = absurd (omega arith)
passes_below (suc k) test all n below =
    let here = and_parts (test k) (all_below k test) all in
    go (nat_eq n k) refl here.0 (λ less. passes_below k test here.1 n less)
  where
    go : (b : Bool) → nat_eq n k ≡ b → test k ≡ true → (n < k → test n ≡ true) → test n ≡ true
    go true same at_k under = let at : n ≡ k = grind (arith, nat_tests) in rw at at_k
    go false other at_k under = under (grind (arith, nat_tests))

-- A code is read of each number in its range, and of no other.
module _ {C : Type 0} (label : C → ℕ) (least greatest : ℕ) (code_in : ℕ → C)
    (inside : (c : C) → is_number least greatest (number (label c)) ≡ true)
    (checked : all_below (suc greatest) (λ n. not (is_number least greatest (number n)) || nat_eq (label (code_in n)) n)
    ≡ true) where
  back : (n : ℕ) → is_number least greatest (number n) ≡ true → label (code_in n) ≡ n
  back n is =
      let below : n < suc greatest = grind (arith, nat_tests) in
      let passed = passes_below (suc greatest)
      (λ m. not (is_number least greatest (number m)) || nat_eq (label (code_in m)) m) checked n below in
      let same : nat_eq (label (code_in n)) n
      ≡ true = then (is_number least greatest (number n)) (nat_eq (label (code_in n)) n) is passed in
      grind (arith, nat_tests)
    where
      then : (a b : Bool) → a ≡ true → (not a || b) ≡ true → b ≡ true
      then true b is h = h
      then false b is h = absurd (cc)

  pub read_in_range : (n : ℕ) (read : Option C) → Decodes label n read
      → is_some read ≡ is_number least greatest (number n)
  read_in_range n (Some c) h = rw (← h.has_it) (sym (inside c))
  read_in_range n None h = none (is_number least greatest (number n)) (λ is. taken (h.only_one (code_in n) (back n is)))
    where
      none : (b : Bool) → (b ≡ true → ⊥) → false ≡ b
      none true never = absurd (never refl)
      none false never = refl

kind_inside : (c : Kind) → is_kind (number (kind_number c)) ≡ true
kind_inside Ambulance = refl
kind_inside Car = refl
kind_inside Support = refl

pub kind_read : (n : ℕ) (read : Option Kind) → Decodes kind_number n read
    → is_some read ≡ is_kind (number n)
kind_read = read_in_range kind_number 1 3 (λ n. kind_in (number n)) kind_inside refl

status_inside : (c : Status) → is_status (number (status_number c)) ≡ true
status_inside OffDuty = refl
status_inside Available = refl
status_inside Mobilised = refl
status_inside AtScene = refl
status_inside Leaving = refl
status_inside AtHospital = refl
status_inside Returning = refl
status_inside Offered = refl

pub status_read : (n : ℕ) (read : Option Status) → Decodes status_number n read
    → is_some read ≡ is_status (number n)
status_read = read_in_range status_number 0 7 (λ n. status_in (number n)) status_inside refl

button_inside : (c : Button) → is_button (number (button_number c)) ≡ true
button_inside button.Position = refl
button_inside button.Mobile = refl
button_inside button.Scene = refl
button_inside button.Leave = refl
button_inside button.Hospital = refl
button_inside button.Return = refl
button_inside button.Home = refl

pub button_read : (n : ℕ) (read : Option Button) → Decodes button_number n read
    → is_some read ≡ is_button (number n)
button_read = read_in_range button_number 0 6 (λ n. button_in (number n)) button_inside refl

outcome_inside : (c : Outcome) → is_outcome (number (outcome_number c)) ≡ true
outcome_inside Normal = refl
outcome_inside Skipped = refl
outcome_inside Wrong = refl
outcome_inside Late = refl
outcome_inside Stale = refl

pub outcome_read : (n : ℕ) (read : Option Outcome) → Decodes outcome_number n read
    → is_some read ≡ is_outcome (number n)
outcome_read = read_in_range outcome_number 0 4 (λ n. outcome_in (number n)) outcome_inside refl

-- a state is read of its number and of what it was merged into
state_of : (n : ℕ) (o : Option ℕ) (read : Option State) → Decodes state_columns (n, o) read
    → true ≡ is_or_null is_serial (number_or_null o)
    → is_some read ≡ is_state (number n) (number_or_null o)
state_of n o (Some s) h fits =
    rw (← ap (λ (p : ℕ × Option ℕ). p.0) h.has_it, ← ap (λ (p : ℕ × Option ℕ). p.1) h.has_it)
    (merged_read s (fits ∙ ap (λ (p : ℕ × Option ℕ). is_or_null is_serial (number_or_null p.1)) (sym h.has_it)))
  where
    merged_read : (s : State) → true ≡ is_or_null is_serial (number_or_null (merged_into s))
        → true ≡ is_state (number (state_number s)) (number_or_null (merged_into s))
    merged_read Active fits = refl
    merged_read Closed fits = refl
    merged_read (Merged m) fits = fits
state_of zero None None h fits = absurd (taken (h.only_one Active refl))
state_of zero (Some m) None h fits = refl
state_of (suc zero) None None h fits = absurd (taken (h.only_one Closed refl))
state_of (suc zero) (Some m) None h fits = refl
state_of (suc (suc zero)) None None h fits = refl
state_of (suc (suc zero)) (Some m) None h fits = absurd (taken (h.only_one (Merged m) refl))
state_of (suc (suc (suc n))) o None h fits =
    let unmerged : is_number 0 1 (number (suc (suc (suc n)))) ≡ false = grind (arith, nat_tests) in
    let not_merged : is_number 2 2 (number (suc (suc (suc n)))) ≡ false = grind (arith, nat_tests) in
    rw (unmerged, not_merged) refl

pub state_read : (state into : Value) (n : ℕ) (o : Option ℕ) (read : Option State)
    → Decodes state_columns (n, o) read → number n ≡ state → number_or_null o ≡ into
    → true ≡ is_or_null is_serial into → is_some read ≡ is_state state into
state_read state into n o read h is_state_column is_into_column fits =
    state_of n o read h (fits ∙ ap (is_or_null is_serial) (sym is_into_column))
    ∙ (λ i. is_state (is_state_column i) (is_into_column i))

-- ---- rows

-- after what does not stand, nothing does
pub none_stand : (before : Bool) → false ≡ before
    → (tests : List (Value → Bool)) (row : Row) (at : ℕ) → false ≡ all_stand before tests row at
none_stand false not_before [] row at = refl
none_stand false not_before (stands ∷ more) row at = none_stand false refl more row (at + 1)
none_stand true not_before tests row at = absurd (cc)

-- values that stand in all columns of a row are the row
pub all_columns : {X : Type 0} (read : Option X) (cells : X → Row) (count : ℕ) (row : Row)
    → length row ≡ count
    → IfSome read (λ x. cells x ≡ columns_from 0 count row) → IfSome read (λ x. cells x ≡ row)
all_columns None cells count row long is = tt
all_columns (Some x) cells count row long is = is ∙ columns_are count row long

-- ---- texts

-- no text, no callsign and no token
pub no_letters : (test : List ℕ → Bool) → ((text : List ℕ) → test text ≡ true → IsUtf8 text)
    → (v : Value) → false ≡ is_text is_utf8 v → false ≡ is_text test v
no_letters test texts (Text t) none = go (test t) (texts t)
  where
    go : (b : Bool) → (b ≡ true → IsUtf8 t) → false ≡ b
    go true is = none ∙ is_utf8-from_IsUtf8 t (is refl)
    go false is = refl
no_letters test texts Null none = refl
no_letters test texts (Int n) none = refl
no_letters test texts (Real x) none = refl
no_letters test texts (Blob b) none = refl

-- UTF-8 is tested as it is defined
pub text_read : {S E : Type 0} (bytes : List ℕ) (shown : S → List ℕ) (Fails : E → Type 0)
    (result : Result S E) → MatchResult result (λ s. (shown s ≡ bytes) × IsUtf8 bytes)
    (λ e. ¬ (IsUtf8 bytes) × Fails e) → is_ok result ≡ is_utf8 bytes
text_read bytes shown Fails (Ok s) h = sym (is_utf8-from_IsUtf8 bytes h.1)
text_read bytes shown Fails (Err e) h = go (is_utf8 bytes) refl
  where
    go : (b : Bool) → is_utf8 bytes ≡ b → false ≡ b
    go true is = absurd (h.0 (IsUtf8-from_is_utf8 bytes is))
    go false is = refl
