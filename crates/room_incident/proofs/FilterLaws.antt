-- Rows that are kept by one test after another.
use Rattle.std.proofs.Common.{Bool, List, [], ap, cond, false, refl, true, ◌∷◌, ◌≡◌, ◌||◌}
use Rattle.std.specs.List.{list_any}
use Rattle.std.specs.Prelude.{filter, ◌&&◌}

module _ {X : Type 0} (p q : X → Bool) where
  -- they are those that pass both
  pub filter_both : (xs : List X) → filter p (filter q xs) ≡ filter (λ x. q x && p x) xs
  filter_both [] = refl
  filter_both (x ∷ xs) =
      elim (q x) as (λ (b : Bool). filter p (cond b (x ∷ filter q xs) (filter q xs))
      ≡ cond (b && p x) (x ∷ filter (λ y. q y && p y) xs) (filter (λ y. q y && p y) xs)) [
        | true ↦ ap (λ ys. cond (p x) (x ∷ ys) ys) (filter_both xs)
        | false ↦ filter_both xs
      ]

  pub any_both : (xs : List X) → list_any p (filter q xs) ≡ list_any (λ x. q x && p x) xs
  any_both [] = refl
  any_both (x ∷ xs) =
      elim (q x) as (λ (b : Bool). list_any p (cond b (x ∷ filter q xs) (filter q xs))
      ≡ (b && p x || list_any (λ y. q y && p y) xs)) [
        | true ↦ ap (λ b. p x || b) (any_both xs)
        | false ↦ any_both xs
      ]
