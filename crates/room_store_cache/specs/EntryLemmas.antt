-- Lemmas: the keys of entries distinguish them.
use Rattle.std.proofs.Common.{eqb-true, refl, ℕ, ◌&&◌, ◌≡◌}
use Rattle.std.specs.Prelude.{Bool, false, true, ◌==◌}

both : (a b : Bool) → a && b ≡ true → (a ≡ true) × (b ≡ true)
both true b e = (refl, e)
both false b e = absurd (cc)

pub exact_number : (a b : ℕ) → a == b ≡ true → a ≡ b
exact_number a b same = eqb-true a b same

pub exact_pair : (a b : ℕ × ℕ) → (a.0 == b.0) && (a.1 == b.1) ≡ true → a ≡ b
exact_pair a b same =
    let e = both (a.0 == b.0) (a.1 == b.1) same in
    λ i. (exact_number a.0 b.0 e.0 i, exact_number a.1 b.1 e.1 i)
