-- What a search for a key finds, and what an edit at that place does.
use Rattle.std.proofs.Common.{◌≡◌, ℕ, zero, suc, ◌<◌, ◌≤◌, true, List, [], ◌∷◌, length, get_or, set}
use Rattle.std.proofs.Common.{Some, None, Result, Bool, Ok, Err, IfOk, IfErr, drop, refl, sym, take}
use Rattle.std.proofs.Common.{ap, subst, ◌∙◌, ◌-◌, arith, add-one}
use Rattle.std.specs.List.{insert, remove, slice_get, HoldsAt}
use Rattle.std.specs.List.Sorted.{IsSortedBy, IsPartitionPoint, IsSearchInRange}
use Rattle.std.specs.List.Sorted.{IsBinarySearchResult}
use Rattle.std.specs.declared.cmp.Ordering.{Ordering}
use Rattle.std.specs.declared.cmp.Ordering.TheVariants.{Less, Equal, Greater}
use Rattle.std.specs.Ordering.{ordering_reverse, is_lt}
use Rattle.std.specs.Cmp.{IsTotalOrder}
use Rattle.std.proofs.lemmas.Cmp.{tied_back, alike_right}
use Rattle.std.proofs.lemmas.Option.{get_or_from_slice_get, slice_get_within}
use Rattle.std.proofs.lemmas.List.Sorted.{searchable_from_sorted}
use Rattle.room_types.specs.KeyedRows.{IsBelowAll, IsKeyed, keep, listed, row_at, put_row, drop_row}
use Rattle.room_types.specs.KeyedRows.{IsAt, IsGapFor}
use Rattle.room_types.proofs.KeyedLaws.{row_below, drop_below, below_from_less}

module _ {R K : Type 0} (cmp : K → K → Ordering) (key : R → K) where
  pub at_within : (xs : List R) (k : K) (i : ℕ) → IsAt cmp key xs k i → i < length xs
  at_within [] k i h = absurd h
  at_within (x ∷ xs) k zero h = omega arith
  at_within (x ∷ xs) k (suc i) h = omega (arith, at_within xs k i h.1)

  pub gap_within : (xs : List R) (k : K) (i : ℕ) → IsGapFor cmp key xs k i → i ≤ length xs
  gap_within [] k zero h = omega arith
  gap_within [] k (suc i) h = absurd h
  gap_within (x ∷ xs) k zero h = omega arith
  gap_within (x ∷ xs) k (suc i) h = omega (arith, gap_within xs k i h.1)

  module _ (total : IsTotalOrder cmp) where
    past : (j k : K) → cmp j k ≡ Less → cmp k j ≡ Greater
    past j k e = total.antisymm k j ∙ ap ordering_reverse e

    before : (j k : K) → cmp j k ≡ Greater → cmp k j ≡ Less
    before j k e = total.antisymm k j ∙ ap ordering_reverse e

    below_at : (k : K) (xs : List R) (i : ℕ) (d : R) → IsBelowAll cmp key k xs → i < length xs
        → cmp k (key (get_or xs i d)) ≡ Less
    below_at k [] i d h l = absurd (omega arith)
    below_at k (x ∷ xs) zero d h l = h.0
    below_at k (x ∷ xs) (suc i) d h l = below_at k xs i d h.1 (omega arith)

    -- keys that rise are in order for a binary search
    sorted : (xs : List R) → IsKeyed cmp key xs → IsSortedBy (λ a b. is_lt (cmp (key a) (key b))) xs
    sorted [] s i d low high = absurd (omega arith)
    sorted (x ∷ []) s i d low high = absurd (omega arith)
    sorted (x ∷ y ∷ xs) s zero d low high = ap is_lt (past (key x) (key y) s.0.0)
    sorted (x ∷ y ∷ xs) s (suc i) d low high =
        let rest = sorted (y ∷ xs) s.1 i d (omega arith) (omega arith) in
        rw add-one (rw add-one at rest)

    -- a place with the key comes after only lower keys
    at_found : (xs : List R) (k : K) (i : ℕ) → IsKeyed cmp key xs → i < length xs
        → HoldsAt (λ y. cmp (key y) k ≡ Equal) xs i → IsAt cmp key xs k i
    at_found [] k i s l h = absurd (omega arith)
    at_found (x ∷ xs) k zero s l h = h x
    at_found (x ∷ xs) k (suc i) s l h =
        let here = h x in (
          sym (alike_right total _ k (key x) here) ∙ below_at (key x) xs i x s.0 (omega arith),
          at_found xs k i s.1 (omega arith) h,
        )

    -- the place between lower and higher keys is the gap
    gap_found : (xs : List R) (k : K) (i : ℕ) → i ≤ length xs
        → IsPartitionPoint (λ y. cmp (key y) k ≡ Less) (λ y. cmp (key y) k ≡ Greater) xs i
        → IsGapFor cmp key xs k i
    gap_found [] k zero l h = tt
    gap_found [] k (suc i) l h = absurd (omega arith)
    gap_found (x ∷ xs) k zero l h = h.1 zero x (omega arith) (omega arith)
    gap_found (x ∷ xs) k (suc i) l h = (
      h.0 zero x (omega arith) (omega arith),
      gap_found xs k i (omega arith) (
        λ j d low high. h.0 (suc j) d (omega arith) (omega arith),
        λ j d low high. h.1 (suc j) d (omega arith) (omega arith),
      ),
    )

    -- a binary search finds the key's place, or its gap
    pub searched : (xs : List R) (k : K) (r : Result ℕ ℕ) → IsKeyed cmp key xs
        → IsSearchInRange r (length xs) → IsBinarySearchResult (λ y. cmp (key y) k) xs r
        → IfOk r (IsAt cmp key xs k) × IfErr r (IsGapFor cmp key xs k)
    searched xs k (Ok i) s bound h = (at_found xs k i s bound h, tt)
    searched xs k (Err i) s bound h =
        (tt, gap_found xs k i bound (h (searchable_from_sorted total key xs k (sorted xs s))))

    gap_after : (xs : List R) (k : K) (i : ℕ) (z : R) → IsKeyed cmp key xs → length xs ≡ suc i
        → slice_get xs i ≡ Some z → cmp (key z) k ≡ Less → IsGapFor cmp key xs k (suc i)
    gap_after [] k i z s n e l = absurd (omega arith)
    gap_after (x ∷ []) k zero z s n e l = let same : x ≡ z = cc in (rw same l, tt)
    gap_after (x ∷ []) k (suc i) z s n e l = absurd (omega arith)
    gap_after (x ∷ y ∷ xs) k zero z s n e l = absurd (omega arith)
    gap_after (x ∷ y ∷ xs) k (suc i) z s n e l =
        let below = below_at (key x) (y ∷ xs) i z s.0 (omega arith) in (
          total.trans (key x) (key z) k (rw (get_or_from_slice_get (y ∷ xs) i z z e) at below) l,
          gap_after (y ∷ xs) k i z s.1 (omega arith) e l,
        )

    is_less : (o : Ordering) → is_lt o ≡ true → o ≡ Less
    is_less Less e = refl
    is_less Equal e = cc
    is_less Greater e = cc

    -- where the last key is lower, the gap is the end
    pub gap_at_end : (xs : List R) (k : K) (z : R) → IsKeyed cmp key xs
        → Some z ≡ slice_get xs (length xs - 1) → is_lt (cmp (key z) k) ≡ true
        → IsGapFor cmp key xs k (length xs)
    gap_at_end xs k z s e l =
        let inside = slice_get_within xs (length xs - 1) z (sym e) in
        let n : length xs ≡ suc (length xs - 1) = omega arith in
        subst (λ m. IsGapFor cmp key xs k m) (sym n) (gap_after xs k (length xs - 1) z s n (sym e) (is_less _ l))

    pub row_here : (xs : List R) (k : K) (i : ℕ) (d : R) → IsAt cmp key xs k i
        → row_at cmp key xs k ≡ Some (get_or xs i d)
    row_here [] k i d h = absurd h
    row_here (x ∷ xs) k zero d h = rw (tied_back total (key x) k h)
    row_here (x ∷ xs) k (suc i) d h = rw (past (key x) k h.0) (row_here xs k i d h.1)

    pub lend_here : (p : R → Bool) (xs : List R) (k : K) (i : ℕ) (d : R) → IsAt cmp key xs k i
        → p (get_or xs i d) ≡ true → take 1 (drop i xs) ≡ listed (keep p (row_at cmp key xs k))
    lend_here p [] k i d h own = absurd h
    lend_here p (x ∷ xs) k zero d h own = rw (tied_back total (key x) k h, own) refl
    lend_here p (x ∷ xs) k (suc i) d h own = rw (past (key x) k h.0) (lend_here p xs k i d h.1 own)

    pub put_here : (xs : List R) (r : R) (i : ℕ) → IsAt cmp key xs (key r) i
        → put_row cmp key xs r ≡ set xs i r
    put_here [] r i h = absurd h
    put_here (x ∷ xs) r zero h = rw (tied_back total (key x) (key r) h)
    put_here (x ∷ xs) r (suc i) h = rw (past (key x) (key r) h.0) (ap (λ ys. x ∷ ys) (put_here xs r i h.1))

    pub drop_here : (xs : List R) (k : K) (i : ℕ) → IsAt cmp key xs k i
        → drop_row cmp key xs k ≡ remove xs i
    drop_here [] k i h = absurd h
    drop_here (x ∷ xs) k zero h = rw (tied_back total (key x) k h)
    drop_here (x ∷ xs) k (suc i) h = rw (past (key x) k h.0) (ap (λ ys. x ∷ ys) (drop_here xs k i h.1))

    pub row_gap : (xs : List R) (k : K) (i : ℕ) → IsKeyed cmp key xs → IsGapFor cmp key xs k i
        → row_at cmp key xs k ≡ None
    row_gap [] k i s h = refl
    row_gap (x ∷ xs) k zero s h =
        row_below cmp key total (x ∷ xs) k (below_from_less cmp key total k x xs (before (key x) k h) s)
    row_gap (x ∷ xs) k (suc i) s h = rw (past (key x) k h.0) (row_gap xs k i s.1 h.1)

    pub put_gap : (xs : List R) (r : R) (i : ℕ) → IsKeyed cmp key xs
        → IsGapFor cmp key xs (key r) i → put_row cmp key xs r ≡ insert xs i r
    put_gap [] r zero s h = refl
    put_gap [] r (suc i) s h = absurd h
    put_gap (x ∷ xs) r zero s h = rw (before (key x) (key r) h)
    put_gap (x ∷ xs) r (suc i) s h = rw (past (key x) (key r) h.0) (ap (λ ys. x ∷ ys) (put_gap xs r i s.1 h.1))

    pub drop_gap : (xs : List R) (k : K) (i : ℕ) → IsKeyed cmp key xs → IsGapFor cmp key xs k i
        → drop_row cmp key xs k ≡ xs
    drop_gap [] k i s h = refl
    drop_gap (x ∷ xs) k zero s h =
        drop_below cmp key total (x ∷ xs) k (below_from_less cmp key total k x xs (before (key x) k h) s)
    drop_gap (x ∷ xs) k (suc i) s h = rw (past (key x) k h.0) (ap (λ ys. x ∷ ys) (drop_gap xs k i s.1 h.1))
