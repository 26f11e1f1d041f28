-- Rows that are put one after another.
use Rattle.std.proofs.Common.{ap, get_or, length, sym, ◌∙◌}
use Rattle.std.proofs.lemmas.List.{append_assoc, map_push}
use Rattle.std.specs.Prelude.{Bool, List, [], false, filter, map, not, refl, take, true, ℕ, ◌+◌}
use Rattle.std.specs.Prelude.{◌++◌, ◌<◌, ◌∷◌, ◌≡◌}
use Rattle.room_types.proofs.KeyedLaws.{with_passing, without_failing}

module _ {X Y : Type 0} (f : X → Y) (before now : List Y) where
  -- what is put of some rows, and of one more
  pub put_next : (xs : List X) (x : X) → now ≡ before ++ map f xs
      → now ++ f x ∷ [] ≡ before ++ map f (xs ++ x ∷ [])
  put_next xs x e =
      ap (λ ys. ys ++ f x ∷ []) e
      ∙ (append_assoc before (map f xs) (f x ∷ []) ∙ ap (λ ys. before ++ ys) (sym (map_push f xs x)))

  -- of the rows that don't stay behind
  module _ (stays : X → Bool) (xs : List X) (i : ℕ) (x : X) (inside : i < length xs)
      (here : x ≡ get_or xs i x)
      (so_far : now ≡ before ++ map f (filter (λ y. not (stays y)) (take i xs))) where
    pub put_kept_one : stays x ≡ false
        → now ++ f x ∷ [] ≡ before ++ map f (filter (λ y. not (stays y)) (take (i + 1) xs))
    put_kept_one e =
        put_next (filter (λ y. not (stays y)) (take i xs)) x so_far
        ∙ ap (λ ys. before ++ map f ys)
        (with_passing (λ y. not (stays y)) xs (filter (λ y. not (stays y)) (take i xs)) i x inside here refl (ap not e))

    pub leave_one : stays x ≡ true
        → now ≡ before ++ map f (filter (λ y. not (stays y)) (take (i + 1) xs))
    leave_one e =
        so_far
        ∙ ap (λ ys. before ++ map f ys) (without_failing (λ y. not (stays y)) xs
        (filter (λ y. not (stays y)) (take i xs)) i x inside here refl (ap not e))

-- some changes are put after others, and then the rest
pub and_then : {Y : Type 0} (x y z a rest : List Y) → y ≡ x ++ a → z ≡ y ++ rest
    → z ≡ x ++ (a ++ rest)
and_then x y z a rest e f = f ∙ (ap (λ ys. ys ++ rest) e ∙ append_assoc x a rest)
