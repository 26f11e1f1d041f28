-- A test of all rows says what holds of the row at each key.
use Rattle.std.proofs.Common.{◌≡◌, Bool, true, false, cond, ◌&&◌, List, [], ◌∷◌, Some, refl, sym}
use Rattle.std.proofs.Common.{ap, ◌∙◌, subst}
use Rattle.std.specs.Prelude.{IfSome}
use Rattle.std.specs.Bool.{Decides}
use Rattle.std.specs.List.{list_all}
use Rattle.std.specs.declared.cmp.Ordering.{Ordering}
use Rattle.std.specs.Ordering.{is_eq}
use Rattle.std.specs.Cmp.{IsTotalOrder, Equal-is}
use Rattle.std.proofs.lemmas.Bool.{and_parts}
use Rattle.std.proofs.lemmas.Cmp.{tied_itself}
use Rattle.std.proofs.lemmas.Map.Lookups.{CmpEqualImpliesEq}
use Rattle.room_types.specs.KeyedRows.{IsBelowAll, IsKeyed, row_at}
use Rattle.room_types.proofs.KeyedLaws.{row_below}

module _ {R K : Type 0} (cmp : K → K → Ordering) (key : R → K) (total : IsTotalOrder cmp)
    (exact : CmpEqualImpliesEq cmp) where
  same_key : (k : K) (x : R) → is_eq (cmp k (key x)) ≡ true → k ≡ key x
  same_key k x q = exact k (key x) ((Equal-is (cmp k (key x))).0 q)

  module _ (p : R → Bool) (P : K → R → Type 0)
      (decides : (x : R) → Decides (p x) (P (key x) x)) where
    -- all rows pass, so what that says holds of the row at each key
    pub at_each_key : (xs : List R) → list_all p xs ≡ true → (k : K)
        → IfSome (row_at cmp key xs k) (P k)
    at_each_key [] h k = tt
    at_each_key (x ∷ xs) h k =
        (elim (is_eq (cmp k
        (key x))) as (λ (b : Bool). is_eq (cmp k (key x)) ≡ b → IfSome (cond b (Some x) (row_at cmp key xs k)) (P k)) [
          | true ↦ λ q. subst (λ j. P j x) (sym (same_key k x q)) ((decides x).0 (and_parts _ _ h).0)
          | false ↦ λ q. at_each_key xs (and_parts _ _ h).1 k
        ]) refl

    -- and back, of rows in key order
    pub from_each_key : (xs : List R) → IsKeyed cmp key xs
        → ((k : K) → IfSome (row_at cmp key xs k) (P k)) → list_all p xs ≡ true
    from_each_key [] in_order f = refl
    from_each_key (x ∷ xs) in_order f =
        let here = (decides x).1
        (subst (λ o. IfSome (cond (is_eq o) (Some x) (row_at cmp key xs (key x))) (P (key x)))
        (tied_itself total (key x)) (f (key x))) in
        let rest = from_each_key xs in_order.1 (λ k.
        (elim (is_eq (cmp k (key x))) as (λ (b : Bool).
        is_eq (cmp k (key x)) ≡ b → IfSome (cond b (Some x) (row_at cmp key xs k)) (P k)
        → IfSome (row_at cmp key xs k) (P k)) [
          | true ↦
              λ q h.
              rw (row_below cmp key total xs k (subst (λ j. IsBelowAll cmp key j xs) (sym (same_key k x q)) in_order.0))
              tt
          | false ↦ λ q h. h
        ]) refl (f k)) in
        ap (λ b. b && list_all p xs) here ∙ rest

  -- a row that is found has the key
  pub row_key : (xs : List R) (k : K) → IfSome (row_at cmp key xs k) (λ x. key x ≡ k)
  row_key [] k = tt
  row_key (x ∷ xs) k =
      (elim (is_eq (cmp k (key x))) as (λ (b : Bool).
      is_eq (cmp k (key x)) ≡ b → IfSome (cond b (Some x) (row_at cmp key xs k)) (λ x. key x ≡ k)) [
        | true ↦ λ q. sym (same_key k x q)
        | false ↦ λ q. row_key xs k
      ]) refl
