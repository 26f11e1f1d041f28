-- Rows in key order among which one passes a test.
use Rattle.std.specs.Cmp.{Equal-is, IsTotalOrder}
use Rattle.std.specs.List.{list_any}
use Rattle.std.specs.Ordering.{is_eq}
use Rattle.std.specs.Prelude.{IfSome, ◌||◌}
use Rattle.std.specs.declared.cmp.Ordering.{Ordering}
use Rattle.std.proofs.Common.{Bool, List, None, Option, Some, [], ap, cond, false, refl, sym, true}
use Rattle.std.proofs.Common.{◌∙◌, ◌∷◌, ◌≡◌}
use Rattle.std.proofs.lemmas.Bool.{false≢true}
use Rattle.std.proofs.lemmas.Cmp.{tied_itself}
use Rattle.std.proofs.lemmas.Map.Lookups.{CmpEqualImpliesEq}
use Rattle.room_types.specs.KeyedRows.{IsBelowAll, IsKeyed, row_at}
use Rattle.room_types.proofs.KeyedLaws.{row_below}
use Rattle.room_model.proofs.Tests.{or_right}

module _ {R K : Type 0} (cmp : K → K → Ordering) (key : R → K) (total : IsTotalOrder cmp)
    (exact : CmpEqualImpliesEq cmp) where
  -- a row stands behind one of a lower key
  pub behind : (x : R) (xs : List R) (k : K) (y : R) → IsBelowAll cmp key (key x) xs
      → row_at cmp key xs k ≡ Some y → row_at cmp key (x ∷ xs) k ≡ Some y
  behind x xs k y below there =
      (elim (is_eq
      (cmp k (key x))) as (λ (b : Bool). is_eq (cmp k (key x)) ≡ b → cond b (Some x) (row_at cmp key xs k) ≡ Some y) [
        | true ↦ λ q.
            let same : k ≡ key x = exact _ _ ((Equal-is (cmp k (key x))).0 q) in
            let gone : None
            ≡ Some y = sym (row_below cmp key total xs (key x) below) ∙ ap (row_at cmp key xs) (sym same) ∙ there in
            cc
        | false ↦ λ q. there
      ]) refl

  module _ (p : R → Bool) where
    -- a row that passes
    pub record Passes (xs : List R) : Type 0 where
      pub row : R
      pub there : row_at cmp key xs (key row) ≡ Some row
      pub passes : p row ≡ true

    pub passing : (xs : List R) → IsKeyed cmp key xs → list_any p xs ≡ true → Passes xs
    passing [] in_order h = absurd (false≢true h)
    passing (x ∷ xs) in_order h = (elim (p x) as (λ (b : Bool). p x ≡ b → b || list_any p xs ≡ true → Passes (x ∷ xs)) [
      | true ↦ λ q any. record { row = x; there = rw (tied_itself total (key x)) refl; passes = q }
      | false ↦
          λ q any.
          let found = passing xs in_order.1 any in
          record {
            row = found.row;
            there = behind x xs (key found.row) found.row in_order.0 found.there;
            passes = found.passes;
          }
    ]) refl h

    -- and back
    later : (x : R) (xs : List R) (o : Option R)
        → IfSome o (λ y. p y ≡ true → list_any p xs ≡ true)
        → IfSome o (λ y. p y ≡ true → p x || list_any p xs ≡ true)
    later x xs None f = tt
    later x xs (Some y) f = λ h. or_right (p x) _ (f h)

    pub passed : (xs : List R) (k : K)
        → IfSome (row_at cmp key xs k) (λ x. p x ≡ true → list_any p xs ≡ true)
    passed [] k = tt
    passed (x ∷ xs) k =
        (elim (is_eq (cmp k (key x))) as (λ (b : Bool).
        IfSome (cond b (Some x) (row_at cmp key xs k)) (λ y. p y ≡ true → p x || list_any p xs ≡ true)) [
          | true ↦ λ h. ap (λ b. b || list_any p xs) h
          | false ↦ later x xs (row_at cmp key xs k) (passed xs k)
        ])
