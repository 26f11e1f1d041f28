-- Lemmas on the digits of numbers.
use Rattle.std.proofs.Common.{◌≡◌, ◌≢◌, ◌∙◌, sym, ap, refl, arith, ℕ, ◌+◌, ◌/◌, ◌%◌, ◌^◌, ◌<◌, ◌≤◌}
use Rattle.std.proofs.Common.{List, [], ◌∷◌, ◌++◌, length, ◌⊎◌, inl, inr, append-nil, length-append}
use Rattle.std.proofs.Common.{decimal, Result, Ok, Err, is_ok, Option, Some, None, is_some, Bool}
use Rattle.std.proofs.Common.{IsTrue, ◌↔◌, MatchOption}
use Rattle.std.proofs.lemmas.Fmt.{decimal_by_steps, decimal_step, decimal_is_IsNumeral}
use Rattle.std.proofs.lemmas.Fmt.{parse-decimal, IsAscii-decimal}
use Rattle.std.proofs.lemmas.Bool.{cases_lt, false≢true}
use Rattle.std.proofs.lemmas.List.{nil_from_length, append_cancel_right}
use Rattle.std.proofs.lemmas.List.Elements.{All-from_get_or}
use Rattle.std.proofs.lemmas.Str.{IsUtf8-from_ascii}
use Rattle.std.proofs.lemmas.Str.Parse.{digit_at}
use Rattle.std.specs.Str.{IsUtf8}
use Rattle.std.specs.Str.Parse.{ParsesUnsigned}
use Rattle.dispatch_room_journal.specs.TextParts.{Lacks, IsNumber, BeginsOne}
use Rattle.dispatch_room_journal.proofs.TextLemmas.{split}

-- digits are text
pub digits_are_text : (bytes : List ℕ) (least greatest : ℕ) → greatest < 2 ^ 32 → ¬ (IsUtf8 bytes)
    → ¬ (IsNumber least greatest bytes)
digits_are_text bytes least greatest small none has =
    none (rw (has.3) (IsUtf8-from_ascii (decimal has.0) (IsAscii-decimal has.0 (omega (arith, has.2)))))

ok_injective : {E : Type 0} (m n : ℕ) → ◌≡◌ {A = Result ℕ E} (Ok m) (Ok n) → m ≡ n
ok_injective m n is = cc

-- digits are read as their number
pub digits_are_read : {E : Type 0} (text bytes : List ℕ) (r : Result ℕ E) (least greatest : ℕ)
    → greatest < 2 ^ 32 → text ≡ bytes
    → ParsesUnsigned 32 10 text r → (has : IsNumber least greatest bytes) → r ≡ Ok (has.0)
digits_are_read text bytes r least greatest small same reads has =
    parse-decimal 32 has.0 text r (omega (arith, has.2)) (omega (arith, has.2)) (same ∙ has.3) reads

-- what is read as no number is none
pub digits_are_some : (E : Type 0) (text bytes : List ℕ) (e : E) (least greatest : ℕ)
    → greatest < 2 ^ 32 → text ≡ bytes
    → ParsesUnsigned {E = E} 32 10 text (Err e) → ¬ (IsNumber least greatest bytes)
digits_are_some E text bytes e least greatest small same reads has =
    false≢true (ap is_ok (digits_are_read text bytes (Err e) least greatest small same reads has))

-- what is read as another number is none
pub digits_are_one : (text bytes : List ℕ) (n least greatest : ℕ) → greatest < 2 ^ 32 → text ≡ bytes
    → ParsesUnsigned {E = ℕ} 32 10 text (Ok n) → (has : IsNumber least greatest bytes) → n ≡ has.0
digits_are_one text bytes n least greatest small same reads has =
    ok_injective {E = ℕ} n has.0 (digits_are_read text bytes (Ok n) least greatest small same reads has)

-- digits have neither of the marks
pub digits_lack : (mark n : ℕ) → mark < 48 → n < 2 ^ 64 → Lacks mark (decimal n)
digits_lack mark n low small =
    let all = (decimal_is_IsNumeral n small).0 in
    All-from_get_or (λ byte. byte ≢ mark) (decimal n) 0
    (λ i within is. let digit = digit_at (decimal n) i all.1 within in absurd (omega (arith, low, is, digit)))

-- the first digits of a number are a number that is not above it, and not 0 where it isn't
abbrev Front : ℕ → List ℕ → Type 0
Front n digits =
    n < 2 ^ 64 → digits ≡ decimal n → (front rest : List ℕ) → digits ≡ front ++ rest → 0 < length front
    → (m : ℕ) × (front ≡ decimal m) × (m ≤ n) × (0 < n → 0 < m)

front_whole : (n : ℕ) (digits front rest : List ℕ) → digits ≡ decimal n → digits ≡ front ++ rest
    → length rest ≡ 0
    → (m : ℕ) × (front ≡ decimal m) × (m ≤ n) × (0 < n → 0 < m)
front_whole n digits front rest is cut none = (
  n,
  sym (append-nil front) ∙ ap (λ t. front ++ t) (sym (nil_from_length rest none)) ∙ sym cut ∙ is,
  omega arith,
  λ some. some,
)

front_one : (n : ℕ) → n < 10 → Front n ((48 + n) ∷ [])
front_one n one small is front rest cut some =
    let size : 1 ≡ length front + length rest = ap length cut ∙ length-append front rest in
    front_whole n ((48 + n) ∷ []) front rest is cut (omega (arith, size, some))

front_more : (n : ℕ) (digits : List ℕ) → 10 ≤ n → Front (n / 10) digits
    → Front n (digits ++ ((48 + n % 10) ∷ []))
front_more n digits more less small is front rest cut some = go (split digits front ((48 + n % 10) ∷ []) rest cut)
  where
    last : List ℕ
    last = (48 + n % 10) ∷ []

    shorter : digits ≡ decimal (n / 10)
    shorter = append_cancel_right digits (decimal (n / 10)) ((48 + n % 10) ∷ []) (is ∙ decimal_step n more small)

    below : (t : List ℕ) → digits ≡ front ++ t
        → (m : ℕ) × (front ≡ decimal m) × (m ≤ n) × (0 < n → 0 < m)
    below t cut =
        let found = less (omega (arith, small)) shorter front t cut some in
        let found_le : found.0 ≤ n / 10 = found.2 in
        let found_some : 0 < n / 10 → 0 < found.0 = found.3 in
        (found.0, found.1, omega (arith, found_le), λ _. found_some (omega (arith, more)))

    go : ((c : List ℕ) × (front ≡ digits ++ c) × ((48 + n % 10) ∷ [] ≡ c ++ rest))
        ⊎ ((c : List ℕ) × (digits ≡ front ++ c) × (rest ≡ c ++ ((48 + n % 10) ∷ [])))
        → (m : ℕ) × (front ≡ decimal m) × (m ≤ n) × (0 < n → 0 < m)
    go (inr found) = below found.0 found.1
    go (inl ([], longer, last)) = below [] (sym (longer ∙ append-nil digits) ∙ sym (append-nil front))
    go (inl (k ∷ c, longer, last)) =
        let size : 1 ≡ length (k ∷ c) + length rest = ap length last ∙ length-append (k ∷ c) rest in
        front_whole n (digits ++ ((48 + n % 10) ∷ [])) front rest is cut (omega (arith, size))

pub front_of : (n : ℕ) → n < 2 ^ 64 → (front rest : List ℕ) → decimal n ≡ front ++ rest
    → 0 < length front
    → (m : ℕ) × (front ≡ decimal m) × (m ≤ n) × (0 < n → 0 < m)
front_of n small front rest cut some =
    decimal_by_steps Front front_one front_more n small small refl front rest cut some

least_of : (least m n : ℕ) → least ≤ 1 → least ≤ n → (0 < n → 0 < m) → least ≤ m
least_of least m n low le above = go (cases_lt 0 n)
  where
    go : (0 < n) ⊎ (n ≤ 0) → least ≤ m
    go (inl some) = omega (arith, above some)
    go (inr none) = omega arith

-- the first part of a number from 0 or 1 to the greatest is empty, or such a number
pub begins_is_number : (bytes : List ℕ) (least greatest : ℕ) → greatest < 2 ^ 32 → least ≤ 1
    → 0 < length bytes
    → BeginsOne (IsNumber least greatest) bytes → IsNumber least greatest bytes
begins_is_number bytes least greatest small low some has =
    let n = has.2 in
    let n_le : n.0 ≤ greatest = n.2 in
    let found = front_of n.0 (omega (arith, n_le, small)) bytes has.1 (sym n.3 ∙ has.3) some in
    let found_le : found.0 ≤ n.0 = found.2 in
    (found.0, least_of least found.0 n.0 low n.1 found.3, omega (arith, found_le, n_le), found.1)

-- nothing is the first part of a number
pub begins_empty : (bytes : List ℕ) (least greatest : ℕ) → length bytes ≡ 0 → least ≤ greatest
    → BeginsOne (IsNumber least greatest) bytes
begins_empty bytes least greatest none le = (
  decimal greatest,
  decimal greatest,
  (greatest, le, omega arith, refl),
  ap (λ t. t ++ decimal greatest) (sym (nil_from_length bytes none)),
)

-- what was read as a number or none says whether the bytes begin one
pub begins_some : (bytes : List ℕ) (least greatest : ℕ) (r : Option ℕ) (b : Bool)
    → greatest < 2 ^ 32 → least ≤ 1 → 0 < length bytes
    → MatchOption r (¬ (IsNumber least greatest bytes))
    (λ n. (least ≤ n) × (n ≤ greatest) × (bytes ≡ decimal n))
    → b ≡ is_some r → IsTrue b ↔ BeginsOne (IsNumber least greatest) bytes
begins_some bytes least greatest (Some n) b small low some has is =
    (λ _. (bytes, [], (n, has.0, has.1, has.2), sym (append-nil bytes)), λ _. is)
begins_some bytes least greatest None b small low some has is = (
  λ yes. absurd (false≢true (sym is ∙ yes)),
  λ begun. absurd (has (begins_is_number bytes least greatest small low some begun)),
)
