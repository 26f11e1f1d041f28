-- Rows in key order, put one after another, make the list that they are.
use Rattle.std.proofs.Common.{ap, subst, sym, ◌∙◌}
use Rattle.std.proofs.lemmas.Cmp.{nat_list_cmp_total}
use Rattle.std.proofs.lemmas.Map.Lookups.{CmpEqualImpliesEq, exact_bytes}
use Rattle.std.specs.Cmp.{IsTotalOrder}
use Rattle.std.specs.Ordering.{is_eq}
use Rattle.std.specs.Prelude.{Bool, List, None, Option, Some, [], cond, false, refl, true, ◌∷◌, ◌≡◌}
use Rattle.std.specs.declared.cmp.Ordering.{Ordering}
use Rattle.room_types.proofs.KeyedLaws.{keyed_put, row_below, row_put}
use Rattle.room_types.specs.KeyedRows.{IsBelowAll, IsKeyed, put_row, row_at}
use Rattle.room_types.specs.declared.fleet.Terminal.{Terminal}
use Rattle.room_model.proofs.OneList.{one_keyed}
use Rattle.room_model.proofs.OpenTurns.{row_there}
use Rattle.room_model.proofs.Tests.{is_equal, row_among}
use Rattle.room_model.specs.FleetRows.{terminal_key, token_cmp}
use Rattle.room_store_writes.specs.NewRoom.{in_order, put_all}

or_else : {X : Type 0} → Option X → Option X → Option X
or_else None o = o
or_else (Some x) o = Some x

-- each row put, one after another
abbrev pub put_each : {R K : Type 0} → (K → K → Ordering) → (R → K) → List R → List R → List R
put_each cmp key ys [] = ys
put_each cmp key ys (x ∷ xs) = put_each cmp key (put_row cmp key ys x) xs

module _ {R K : Type 0} (cmp : K → K → Ordering) (key : R → K) (total : IsTotalOrder cmp)
    (exact : CmpEqualImpliesEq cmp) where
  keyed_each : (ys xs : List R) → IsKeyed cmp key ys → IsKeyed cmp key (put_each cmp key ys xs)
  keyed_each ys [] h = h
  keyed_each ys (x ∷ xs) h = keyed_each (put_row cmp key ys x) xs (keyed_put cmp key total ys x h)

  -- what is at a key then
  each_at : (ys xs : List R) (k : K) → IsKeyed cmp key xs
      → row_at cmp key (put_each cmp key ys xs) k ≡ or_else (row_at cmp key xs k) (row_at cmp key ys k)
  unfolding or_else
  each_at ys [] k h = refl
  each_at ys (x ∷ xs) k h =
      each_at (put_row cmp key ys x) xs k h.1
      ∙ ap (or_else (row_at cmp key xs k)) (row_put cmp key total ys x k)
      ∙ (elim (is_eq (cmp k (key x))) as (λ (b : Bool).
      is_eq (cmp k (key x)) ≡ b
      → or_else (row_at cmp key xs k) (cond b (Some x) (row_at cmp key ys k))
      ≡ or_else (cond b (Some x) (row_at cmp key xs k)) (row_at cmp key ys k)) [
        | true ↦
            λ e.
            ap (λ o. or_else o (Some x)) (row_below cmp key total xs k
            (subst (λ j. IsBelowAll cmp key j xs) (sym (exact k (key x) (is_equal _ e))) h.0))
        | false ↦ λ e. refl
      ]) refl

  -- lists in order with the same row at each key are one
  one_at : (xs ys : List R) → IsKeyed cmp key xs → IsKeyed cmp key ys
      → ((k : K) → row_at cmp key xs k ≡ row_at cmp key ys k) → xs ≡ ys
  one_at xs ys h g same = one_keyed cmp key total xs ys h g
      (λ z a. row_there cmp key ys (key z) z (sym (same (key z)) ∙ row_among cmp key total xs z h a))
      (λ z a. row_there cmp key xs (key z) z (same (key z) ∙ row_among cmp key total ys z g a))

  or_none : (o q : Option R) → (o ≡ None → q ≡ None) → or_else o q ≡ o
  unfolding or_else
  or_none None q f = f refl
  or_none (Some x) q f = refl

  -- put among rows of no other keys they are the list
  pub made_among : (ys xs : List R) → IsKeyed cmp key ys → IsKeyed cmp key xs
      → ((k : K) → row_at cmp key xs k ≡ None → row_at cmp key ys k ≡ None) → put_each cmp key ys xs ≡ xs
  made_among ys xs h g only =
      one_at (put_each cmp key ys xs) xs (keyed_each ys xs h) g
      (λ k. each_at ys xs k g ∙ or_none (row_at cmp key xs k) (row_at cmp key ys k) (only k))

  pub made_of : (ys xs : List R) → ys ≡ [] → IsKeyed cmp key xs → put_each cmp key ys xs ≡ xs
  made_of ys xs e h = ap (λ zs. put_each cmp key zs xs) e ∙ made_among [] xs tt h (λ k f. refl)

put_one_by_one : (among ts : List Terminal)
    → put_all among ts ≡ put_each token_cmp terminal_key among ts
put_one_by_one among [] = refl
put_one_by_one among (t ∷ ts) = put_one_by_one (put_row token_cmp terminal_key among t) ts

-- terminals that are in order stay so
pub still_in_order : (ts : List Terminal) → IsKeyed token_cmp terminal_key ts → in_order ts ≡ ts
still_in_order ts keyed =
    put_one_by_one [] ts ∙ made_of token_cmp terminal_key nat_list_cmp_total exact_bytes [] ts refl keyed
