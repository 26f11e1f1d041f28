-- Lists of rows: one that is read row by row, and the row of a key.
use Rattle.std.proofs.Common.{◌≡◌, ◌++◌, ◌-◌, ℕ, zero, suc, List, [], ◌∷◌, length, filter, true}
use Rattle.std.proofs.Common.{false, cond, Option, Some, None, refl, sym, ap, ◌∙◌, arith, Ordering}
use Rattle.std.proofs.Common.{Less, Equal, Greater, is_eq, is_lt}
use Rattle.std.specs.Cmp.{IsTotalOrder}
use Rattle.std.specs.List.{slice_get}
use Rattle.std.proofs.lemmas.Option.{slice_get_within}
use Rattle.room_types.specs.KeyedRows.{IsKeyed, IsBelowAll, put_row, row_at}
use Rattle.room_tables_rows.specs.OptionalRows.{listed}

-- the first row that passes a test of its key is the row of the key
first : {X : Type 0} → List X → Option X
first [] = None
first (x ∷ xs) = Some x

first-listed : {X : Type 0} (o : Option X) → first (listed o) ≡ o
unfolding first
first-listed None = refl
first-listed (Some x) = refl

pub found_at : {X K : Type 0} (cmp : K → K → Ordering) (key : X → K) (k : K) (xs : List X)
    (found : Option X) → listed found ≡ filter (λ x. is_eq (cmp k (key x))) xs
    → found ≡ row_at cmp key xs k
unfolding first
found_at cmp key k xs found is = sym (first-listed found) ∙ ap first is ∙ go xs
  where
    go : (l : List _) → first (filter (λ x. is_eq (cmp k (key x))) l) ≡ row_at cmp key l k
    go [] = refl
    go (x ∷ l) =
        elim (is_eq (cmp k (key x))) as (λ b.
        first (cond b (x ∷ filter (λ y. is_eq (cmp k (key y))) l) (filter (λ y. is_eq (cmp k (key y))) l))
        ≡ cond b (Some x) (row_at cmp key l k)) [ true ↦ refl | false ↦ go l ]

pub is_less : (o : Ordering) → is_lt o ≡ true → o ≡ Less
is_less Less e = refl
is_less Equal e = cc
is_less Greater e = cc

module _ {X K : Type 0} (cmp : K → K → Ordering) (key : X → K) (total : IsTotalOrder cmp) where
  below_found : (k : K) (xs : List X) (i : ℕ) (z : X) → IsBelowAll cmp key k xs
      → slice_get xs i ≡ Some z → cmp k (key z) ≡ Less
  below_found k [] i z h e = cc
  below_found k (x ∷ xs) zero z h e = let same : x ≡ z = cc in rw (← same) h.0
  below_found k (x ∷ xs) (suc i) z h e = below_found k xs i z h.1 e

  put_after : (xs : List X) (r : X) (i : ℕ) (z : X) → IsKeyed cmp key xs → length xs ≡ suc i
      → slice_get xs i ≡ Some z → cmp (key z) (key r) ≡ Less → put_row cmp key xs r ≡ xs ++ r ∷ []
  put_after [] r i z keyed n e l = absurd (omega arith)
  put_after (x ∷ []) r zero z keyed n e l =
      let same : x ≡ z = cc in
      rw (total.antisymm (key r) (key x), same, l) refl
  put_after (x ∷ []) r (suc i) z keyed n e l = absurd (omega arith)
  put_after (x ∷ y ∷ xs) r zero z keyed n e l = absurd (omega arith)
  put_after (x ∷ y ∷ xs) r (suc i) z keyed n e l =
      rw (
        total.antisymm (key r) (key x),
        total.trans (key x) (key z) (key r) (below_found (key x) (y ∷ xs) i z keyed.0 e) l,
      ) (ap (λ ys. x ∷ ys) (put_after (y ∷ xs) r i z keyed.1 (omega arith) e l))

  -- a row with a key above the last is put at the end
  pub put_last : (xs : List X) (r z : X) → IsKeyed cmp key xs
      → Some z ≡ slice_get xs (length xs - 1) → is_lt (cmp (key z) (key r)) ≡ true
      → put_row cmp key xs r ≡ xs ++ r ∷ []
  put_last xs r z keyed e l =
      let inside = slice_get_within xs (length xs - 1) z (sym e) in
      let n : length xs ≡ suc (length xs - 1) = omega arith in
      put_after xs r (length xs - 1) z keyed n (sym e) (is_less _ l)
