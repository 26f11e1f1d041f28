-- A number in groups of seven bits, group by group.
use Rattle.std.proofs.Common.{◌≡◌, ◌+◌, ◌/◌, ◌%◌, ◌<◌, ◌≤◌, ℕ, zero, suc, [], ◌∷◌, true, false}
use Rattle.std.proofs.Common.{refl, ap, arith, nat_le, inl, inr}
use Rattle.std.proofs.lemmas.Bool.{cases_lt}
use Rattle.std.proofs.lemmas.Bool.Decides.{nat_tests}
use Rattle.room_store_file.specs.DigestTexts.{groups, number_text}

pub small : (n : ℕ) → n < 128 → nat_le 128 n ≡ false
small n h = grind (arith, nat_tests)

pub large : (n : ℕ) → 128 ≤ n → nat_le 128 n ≡ true
large n h = grind (arith, nat_tests)

-- more room for groups than are needed changes nothing
enough : (j k n : ℕ) → n ≤ j → n ≤ k → groups j n ≡ groups k n
enough zero zero n f g = refl
enough zero (suc k) n f g = rw (small n (omega arith)) refl
enough (suc j) zero n f g = rw (small n (omega arith)) refl
enough (suc j) (suc k) n f g = elim (cases_lt n 128) [
  | inl h ↦ rw (small n h) refl
  | inr h ↦ rw (large n h) (ap (λ rest. (128 + n % 128) ∷ rest) (enough j k (n / 128) (omega arith) (omega arith)))
]

-- the last group
pub number_ends : (n : ℕ) → n < 128 → number_text n ≡ n ∷ []
unfolding number_text
number_ends zero h = refl
number_ends (suc n) h = rw (small (suc n) h) refl

-- a group, and those of the rest
pub number_goes_on : (n : ℕ) → 128 ≤ n → number_text n ≡ (128 + n % 128) ∷ number_text (n / 128)
unfolding number_text
number_goes_on zero h = absurd (omega arith)
number_goes_on (suc n) h =
    rw (large (suc n) h)
    (ap (λ rest. (128 + suc n % 128) ∷ rest) (enough n (suc n / 128) (suc n / 128) (omega arith) (omega arith)))
