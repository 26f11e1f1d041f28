-- Texts of fields, and the numbers that digits write.
use Rattle.std.proofs.Common.{Bor, ◌≡◌, ◌<◌, ◌^◌, ℕ, zero, suc, List, [], ◌∷◌, length, map, get_or}
use Rattle.std.proofs.Common.{bytes_eq, Bool, true, false, not, Some, Result, Ok, Err, refl, sym}
use Rattle.std.proofs.Common.{ap, ◌∙◌, arith, rules, inl, inr}
use Rattle.std.specs.Result.{result_ok}
use Rattle.std.specs.Str.Parse.{ParsesUnsigned, digits_value}
use Rattle.std.proofs.lemmas.Bool.{and_parts, cases_lt, le-ltb, lt-ltb, not_from_true}
use Rattle.std.proofs.lemmas.List.{ext_get_or, get_or-map}
use Rattle.std.proofs.lemmas.Slice.Eq.{bytes_eq-Decides}
use Rattle.std.proofs.lemmas.Str.Parse.{IsNumeralModel, numerals_by_value, parse_digits}
use Rattle.csv.specs.Records.{field_at}
use Rattle.room_types.specs.Numerals.{are_digits}
use Rattle.dispatch_room_csv.specs.RowFields.{is_numeral, number_of, text_at}
use Rattle.dispatch_room_csv.specs.Records.{Fields}

-- only digits have a number
numerals : IsNumeralModel (λ text. are_digits text ≡ true) (digits_value 10)
numerals = numerals_by_value _ (search rules)

-- a numeral has a digit
some_digit : (text : List ℕ) → is_numeral text ≡ true → 0 < length text
some_digit [] numeral = absurd (cc)
some_digit (b ∷ bs) numeral = omega arith

-- what is read of only digits is their number
pub number_read : {E : Type 0} (text : List ℕ) (parsed : Result ℕ E) → is_numeral text ≡ true
    → ParsesUnsigned 32 10 text parsed
    → result_ok parsed ≡ number_of text
number_read {E = E} text (Ok n) numeral gives =
    let read = parse_digits numerals {E = E} 32 text (Ok n) gives (and_parts _ _ numeral).1 in
    rw (numeral, lt-ltb (digits_value 10 text) (2 ^ 32) read.0.1) (ap Some read.1)
number_read {E = E} text (Err e) numeral gives =
    let unread = parse_digits numerals {E = E} 32 text (Err e) gives (and_parts _ _ numeral).1 in
    elim (cases_lt (digits_value 10 text) (2 ^ 32)) [
      | inl less ↦ absurd (unread (some_digit text numeral, less))
      | inr more ↦ rw (numeral, le-ltb (digits_value 10 text) (2 ^ 32) more) refl
    ]

-- the text of a field is the field
pub text_is : (row : Fields) (at : ℕ) → text_at row at ≡ get_or row at []
unfolding field_at
text_is [] at = refl
text_is (field ∷ fields) zero = refl
text_is (field ∷ fields) (suc at) = text_is fields at

-- a name among others, read as a text
pub name_at : (names : List (Bor (List ℕ))) (at : ℕ) (d : Bor (List ℕ)) → at < length names
    → get_or (map (λ name. name.now) names) at [] ≡ (get_or names at d).now
name_at names at d within = get_or-map (λ name. name.now) names at d [] within

-- texts are found to differ exactly where they do
pub no_other : (other : Bool) (xs ys : List ℕ) → other ≡ not (bytes_eq xs ys) → other ≡ false
    → xs ≡ ys
no_other other xs ys test same = (bytes_eq-Decides xs ys).0 (of_not _ (sym test ∙ same))
  where
    of_not : (b : Bool) → not b ≡ false → b ≡ true
    of_not true h = refl
    of_not false h = absurd (cc (h))

pub another : (other : Bool) (xs ys : List ℕ) → other ≡ not (bytes_eq xs ys) → other ≡ true
    → xs ≡ ys → ⊥
another other xs ys test differ same =
    cc (test, differ, not_from_true (bytes_eq xs ys) ((bytes_eq-Decides xs ys).1 same))

-- a record whose texts are these has these fields
pub same_fields : (row names : Fields) → length row ≡ length names
    → ((at : ℕ) → at < length names → text_at row at ≡ get_or names at []) → row ≡ names
same_fields row names long each =
    ext_get_or [] row names long (λ at within. sym (text_is row at) ∙ each at (omega arith))
