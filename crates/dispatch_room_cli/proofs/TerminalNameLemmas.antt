-- Texts that name those who have a terminal, and those that name nobody.
use Rattle.std.proofs.Common.{Err, List, MatchOption, Ok, Result, ap, arith, codes, decimal, get_or}
use Rattle.std.proofs.Common.{suc, sym, zero, ℕ, ◌++◌, ◌<◌, ◌^◌, ◌∙◌, ◌∷◌, ◌≡◌, ◌≢◌, ◌≤◌}
use Rattle.std.specs.Result.{result_ok}
use Rattle.std.specs.Str.Parse.{ParsesUnsigned, digits_value, AllDigits}
use Rattle.std.specs.Str.Pattern.{FindsTextPrefix, StripsPrefix}
use Rattle.std.proofs.lemmas.Fmt.{decimal-digits_value, decimal_digit, decimal_injective}
use Rattle.std.proofs.lemmas.Fmt.{decimal_is_IsNumeral, decimal_nonempty, first_decimal}
use Rattle.std.proofs.lemmas.Fmt.{parse-decimal}
use Rattle.std.proofs.lemmas.List.{append_cancel_left}
use Rattle.std.proofs.lemmas.Str.Parse.{IsNumeralModel, digit_at, numerals_by_value, parse_plain}
use Rattle.std.proofs.lemmas.Str.Parse.{tells_digits}
use Rattle.room_types.specs.declared.asks.Who.{Who}
use Rattle.room_types.specs.declared.asks.Who.TheVariants.{Crew, Desk, Position}
use Rattle.dispatch_room_cli.specs.TerminalNames.{BeginsNumber, Names, NamesNobody, WritesNone}
use Rattle.dispatch_room_cli.specs.TerminalNames.{WritesNumber}

-- ---- numbers
numerals : IsNumeralModel (AllDigits 10) (digits_value 10)
numerals = numerals_by_value _ tells_digits

-- what is read of a text whose first byte is a digit from 1 is the number that it writes
pub number_read : {E : Type 0} (text : List ℕ) (parsed : Result ℕ E) → BeginsNumber text
    → ParsesUnsigned 32 10 text parsed
    → MatchOption (result_ok parsed) (WritesNone text) (WritesNumber text)
number_read {E = E} text (Ok number) begins gives =
    let read = parse_plain numerals {E = E} 32 text (Ok number) gives (omega arith) in
    let same : decimal number ≡ text = rw read.1 (decimal-digits_value numerals text read.0.0 read.0.1
    (λ zero. absurd (omega (arith, begins, zero))) (omega (arith, read.0.2))) in
    record { least = from_first number same; small = omega (arith, read.0.2, read.1); written = sym same }
  where
    from_first : (n : ℕ) → decimal n ≡ text → 1 ≤ n
    from_first zero same =
        let is : get_or text 0 0 ≡ 48 = ap (λ t. get_or t 0 0) (sym same ∙ decimal_digit 0 (omega arith)) in
        absurd (omega (arith, is, begins))
    from_first (suc n) same = omega arith
number_read {E = E} text (Err e) begins gives = λ number writes.
    no_ok number (parse-decimal {E = E} 32 number text (Err e) writes.small (omega (arith, writes.small))
    writes.written gives)
  where
    no_ok : (number : ℕ) → ◌≡◌ {A = Result ℕ E} (Err e) (Ok number) → ⊥
    no_ok number is = cc

-- a text with another first byte writes no number from 1
pub number_absent : (text : List ℕ) → ¬ BeginsNumber text → WritesNone text
number_absent text begins number writes =
    let few : number < 2 ^ 64 = omega (arith, writes.small) in
    let low : 48 < get_or (decimal number) 0 0 = first_decimal number writes.least few in
    let high = digit_at (decimal number) 0 (decimal_is_IsNumeral number few).0.1 (decimal_nonempty number few) in
    begins (rw writes.written (omega (arith, low), omega (arith, high)))

-- a text that writes a number outside a range writes none within it
pub out_of_range : (text : List ℕ) (found greatest : ℕ) → greatest < 2 ^ 32 → WritesNumber text found
    → ¬ ((1 ≤ found) × (found ≤ greatest))
    → (number : ℕ) → 1 ≤ number → number ≤ greatest → text ≢ decimal number
out_of_range text found greatest fits writes outside number least most is =
    let same : found ≡ number = decimal_injective found number (omega (arith, writes.small)) (omega arith)
    (sym writes.written ∙ is) in
    outside (omega arith, omega arith)

-- ---- what stands before a colon
pub stripped : (front text rest : List ℕ) → StripsPrefix (FindsTextPrefix front) text rest
    → text ≡ front ++ rest
stripped front text rest strips = strips.1.1 ∙ ap (λ t. front ++ t) (sym strips.2)

first_letter : (a b : ℕ) (s t : List ℕ) → a ∷ s ≡ b ∷ t → a ≡ b
first_letter a b s t is = cc

-- behind it no number, or no callsign
pub no_desk : (text rest : List ℕ) → text ≡ codes "desk:" ++ rest
    → ((number : ℕ) → 1 ≤ number → number ≤ 9 → rest ≢ decimal number) → NamesNobody text
no_desk text rest is none (Desk division) names =
    none division names.is_who.0 names.is_who.1 (append_cancel_left (codes "desk:") rest _ (sym is ∙ names.named))
no_desk text rest is none (Position position) names =
    absurd (omega (arith, first_letter 100 112 _ _ (sym is ∙ names.named)))
no_desk text rest is none (Crew callsign) names =
    absurd (omega (arith, first_letter 100 99 _ _ (sym is ∙ names.named)))

pub no_position : (text rest : List ℕ) → text ≡ codes "position:" ++ rest
    → ((number : ℕ) → 1 ≤ number → number ≤ 99 → rest ≢ decimal number) → NamesNobody text
no_position text rest is none (Desk division) names =
    absurd (omega (arith, first_letter 112 100 _ _ (sym is ∙ names.named)))
no_position text rest is none (Position position) names =
    none position names.is_who.0 names.is_who.1
    (append_cancel_left (codes "position:") rest _ (sym is ∙ names.named))
no_position text rest is none (Crew callsign) names =
    absurd (omega (arith, first_letter 112 99 _ _ (sym is ∙ names.named)))

-- ---- a text names one only
one_number : (s t : List ℕ) (a b : ℕ) → a < 2 ^ 64 → b < 2 ^ 64 → s ++ decimal a ≡ t → t ≡ s ++ decimal b
    → a ≡ b
one_number s t a b few less is other =
    decimal_injective a b few less (append_cancel_left s _ _ (is ∙ other))

-- what is written by the name of one is read back as this one
pub names_one : (text : List ℕ) (one other : Who) → Names text one → Names text other → one ≡ other
names_one text (Desk a) (Desk b) first second =
    ap Desk (one_number (codes "desk:") text a b (omega (arith, first.is_who)) (omega (arith, second.is_who))
    (sym first.named) second.named)
names_one text (Desk a) (Position b) first second =
    absurd (omega (arith, first_letter 100 112 _ _ (sym first.named ∙ second.named)))
names_one text (Desk a) (Crew b) first second =
    absurd (omega (arith, first_letter 100 99 _ _ (sym first.named ∙ second.named)))
names_one text (Position a) (Desk b) first second =
    absurd (omega (arith, first_letter 112 100 _ _ (sym first.named ∙ second.named)))
names_one text (Position a) (Position b) first second =
    ap Position (one_number (codes "position:") text a b (omega (arith, first.is_who))
    (omega (arith, second.is_who)) (sym first.named) second.named)
names_one text (Position a) (Crew b) first second =
    absurd (omega (arith, first_letter 112 99 _ _ (sym first.named ∙ second.named)))
names_one text (Crew a) (Desk b) first second =
    absurd (omega (arith, first_letter 99 100 _ _ (sym first.named ∙ second.named)))
names_one text (Crew a) (Position b) first second =
    absurd (omega (arith, first_letter 99 112 _ _ (sym first.named ∙ second.named)))
names_one text (Crew a) (Crew b) first second =
    ap Crew (append_cancel_left (codes "crew:") a b (sym first.named ∙ second.named))
