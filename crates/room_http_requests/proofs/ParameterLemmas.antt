-- Bytes of ASCII are text, and digits have their number.
use Rattle.std.proofs.Common.{◌≡◌, ◌<◌, ◌^◌, ℕ, true, List, [], ◌∷◌, length, refl, sym, arith, inl}
use Rattle.std.proofs.Common.{inr, rules}
use Rattle.std.specs.Borrow.{Bor}
use Rattle.std.specs.Prelude.{MatchResult, IsOk, Option, None, Some, Result, Ok, Err, option_map}
use Rattle.std.specs.Prelude.{unwrap_or}
use Rattle.std.specs.Str.{IsUtf8}
use Rattle.std.specs.Str.Parse.{ParsesUnsigned, digits_value}
use Rattle.std.proofs.Math.Bool.{and-false}
use Rattle.std.proofs.lemmas.Bool.{and_parts, cases_lt, lt-leb}
use Rattle.std.proofs.lemmas.Str.Parse.{IsNumeralModel, numerals_by_value, parse_digits}
use borrow.Author.Tests.{ltb-true}
use Rattle.room_types.proofs.Letters.{letters_text}
use Rattle.room_types.specs.Numerals.{are_digits, within}
use Rattle.room_http_requests.specs.Parameters.{are_ascii, is_ascii, is_plain_numeral, whole_of}

-- bytes of ASCII are UTF-8
pub ascii_is_text : (bytes : List ℕ) → are_ascii bytes ≡ true → IsUtf8 bytes
ascii_is_text = letters_text is_ascii (λ b. ltb-true b 128)

-- a reading of bytes that are text does not fail
pub reads_text : {A E : Type 0} (P : A → Type 0) (U : Type 0) (Q : E → Type 0) (r : Result A E)
    → MatchResult r P (λ e. ¬ U × Q e) → U → IsOk r
reads_text P U Q (Ok s) read u = refl
reads_text P U Q (Err e) read u = absurd (read.0 u)

-- what stands in for a text that is not there is seen as its text is
pub unwrap_or-now : (text : Option (Bor (List ℕ))) (other : Bor (List ℕ))
    → (unwrap_or text other).now ≡ unwrap_or (option_map (λ t. t.now) text) other.now
unwrap_or-now None other = refl
unwrap_or-now (Some t) other = refl

-- only digits have a number
pub numerals : IsNumeralModel (λ text. are_digits text ≡ true) (digits_value 10)
numerals = numerals_by_value _ (search rules)

-- a numeral has a digit
some_digit : (text : List ℕ) → is_plain_numeral text ≡ true → 0 < length text
some_digit [] numeral = absurd (cc)
some_digit (b ∷ bs) numeral = omega arith

-- a number above the greatest is not within
above : (least greatest n : ℕ) → greatest < n → within least greatest n ≡ None
above least greatest n more = rw (lt-leb n greatest more, and-false) refl

-- a numeral that is too large to be read is not in the range
pub not_read : {E : Type 0} (parsed : Result ℕ E) (e : E) (least greatest : ℕ) (text : List ℕ)
    → greatest < 2 ^ 32
    → is_plain_numeral text ≡ true → parsed ≡ Err e → ParsesUnsigned 32 10 text parsed
    → None ≡ whole_of least greatest text
not_read parsed e least greatest text fits numeral failed gives =
    let digits : are_digits text ≡ true = (and_parts _ _ numeral).1 in
    let unread : ¬ ((0 < length text) × (digits_value 10 text < 2 ^ 32)) = rw failed at
    (parse_digits numerals 32 text parsed gives digits) in
    rw numeral (elim (cases_lt (digits_value 10 text) (2 ^ 32)) [
      | inl less ↦ absurd (unread (some_digit text numeral, less))
      | inr more ↦ sym (above least greatest _ (omega arith))
    ])
