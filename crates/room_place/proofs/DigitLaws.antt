-- Digits, and the spaces that may stand between them.
use Rattle.std.proofs.Common.{Bool, List, [], ap, arith, cond, false, inl, inr, length, refl, sym}
use Rattle.std.proofs.Common.{true, ◌++◌, ◌+◌, ◌*◌, ◌-◌, ◌<◌, ◌^◌, ◌∙◌, ◌∷◌, ◌≡◌, ◌≤◌, ℕ}
use Rattle.std.proofs.Math.Nat.{mul_assoc, pow-succ'}
use Rattle.std.proofs.lemmas.Bool.{eqb-true, and_from, and_parts, or_left}
use Rattle.std.proofs.lemmas.Bool.Decides.{nat_tests}
use Rattle.std.specs.Char.{is_ascii_digit}
use Rattle.std.specs.List.{filter, fold}
use Rattle.std.specs.Prelude.{codes, ◌==◌}
use Rattle.room_place.specs.References.{AreDigits, IsGap, after_gap, are_allowed, number_of}

-- a digit is no space
digit_no_space : (b : ℕ) → is_ascii_digit b ≡ true → (b == 32) ≡ false
digit_no_space b digit = grind (arith, nat_tests)

pub filter-digits : (ds : List ℕ) → AreDigits ds → filter is_ascii_digit ds ≡ ds
filter-digits [] digits = refl
filter-digits (d ∷ ds) digits =
    let parts = and_parts (is_ascii_digit d) _ digits in
    ap (λ (b : Bool). cond b (d ∷ filter is_ascii_digit ds) (filter is_ascii_digit ds)) parts.0
    ∙ ap (λ xs. d ∷ xs) (filter-digits ds parts.1)

pub filter-gap : (gap : List ℕ) → IsGap gap → filter is_ascii_digit gap ≡ []
filter-gap gap is = elim is [ inl none ↦ ap (filter is_ascii_digit) none | inr one ↦ ap (filter is_ascii_digit) one ]

pub allowed-digits : (ds : List ℕ) → AreDigits ds → are_allowed ds ≡ true
allowed-digits [] digits = refl
allowed-digits (d ∷ ds) digits =
    let parts = and_parts (is_ascii_digit d) _ digits in
    and_from _ _ (or_left _ _ parts.0) (allowed-digits ds parts.1)

pub allowed-gap : (gap : List ℕ) → IsGap gap → are_allowed gap ≡ true
allowed-gap gap is = elim is [ inl none ↦ ap are_allowed none | inr one ↦ ap are_allowed one ]

-- the gap before digits is passed over, and nothing more
after_gap-digit : (d : ℕ) (tail : List ℕ) → is_ascii_digit d ≡ true
    → after_gap (d ∷ tail) ≡ d ∷ tail
after_gap-digit d tail digit = ap (λ (b : Bool). cond b tail (d ∷ tail)) (digit_no_space d digit)

pub after_gap-digits : (gap ds tail : List ℕ) → IsGap gap → AreDigits ds → 1 ≤ length ds
    → after_gap (gap ++ (ds ++ tail)) ≡ ds ++ tail
after_gap-digits gap [] tail is digits some = absurd (omega arith)
after_gap-digits gap (d ∷ ds) tail is digits some = elim is [
  | inl none ↦
      ap (λ (g : List ℕ). after_gap (g ++ (d ∷ ds ++ tail))) none
      ∙ after_gap-digit d (ds ++ tail) (and_parts (is_ascii_digit d) _ digits).0
  | inr one ↦ ap (λ (g : List ℕ). after_gap (g ++ (d ∷ ds ++ tail))) one
]

-- the gap that stands at the head
abbrev pub gap_of : List ℕ → List ℕ
gap_of [] = []
gap_of (b ∷ bs) = cond (b == 32) (codes " ") []

pub gap_of-IsGap : (bs : List ℕ) → IsGap (gap_of bs)
gap_of-IsGap [] = inl refl
gap_of-IsGap (b ∷ bs) =
    elim (b == 32) as (λ (t : Bool). IsGap (cond t (codes " ") [])) [ true ↦ inr refl | false ↦ inl refl ]

pub gap_of-after_gap : (bs : List ℕ) → gap_of bs ++ after_gap bs ≡ bs
gap_of-after_gap [] = refl
gap_of-after_gap (b ∷ bs) =
    (elim (b == 32) as (λ (t : Bool). (b == 32) ≡ t → cond t (codes " ") [] ++ cond t bs (b ∷ bs) ≡ b ∷ bs) [
      | true ↦ λ space. ap (λ n. n ∷ bs) (sym (eqb-true b 32 space))
      | false ↦ λ other. refl
    ]) refl

-- n digits write a number below 10 ^ n
pub number_of-lt : (ds : List ℕ) → AreDigits ds → number_of ds < 10 ^ length ds
number_of-lt ds digits =
    let below : number_of ds < 1 * 10 ^ length ds = from_below ds 0 1 digits (omega arith) in omega (arith, below)
  where
    from_below : (ds : List ℕ) (n top : ℕ) → AreDigits ds → n < top
        → fold (λ m b. m * 10 + (b - 48)) n ds < top * 10 ^ length ds
    from_below [] n top digits below = omega arith
    from_below (d ∷ ds) n top digits below =
        let parts = and_parts (is_ascii_digit d) _ digits in
        let one_more : n * 10 + (d - 48) < top * 10 = small d parts.0 n top below in
        let rest = from_below ds (n * 10 + (d - 48)) (top * 10) parts.1 one_more in
        rw (pow-succ' 10 (length ds), ← mul_assoc top 10 (10 ^ length ds)) rest
      where
        small : (d : ℕ) → is_ascii_digit d ≡ true → (n top : ℕ) → n < top
            → n * 10 + (d - 48) < top * 10
        small d digit n top below = grind (arith, nat_tests)
