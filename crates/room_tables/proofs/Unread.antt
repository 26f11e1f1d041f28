-- What was shown and is read, or not: one of the rows is none of the table's, or is out of its
-- place.
use Rattle.std.proofs.Common.{◌≡◌, ◌+◌, ◌++◌, ◌<◌, ◌⊎◌, inl, inr, IsTrue, ℕ, zero, suc, List, []}
use Rattle.std.proofs.Common.{◌∷◌, map, take, drop, length, get_or, Bool, true, false, Some, refl}
use Rattle.std.proofs.Common.{sym, ap, ◌∙◌, true≢false, Ordering, Less, is_lt, arith}
use Rattle.std.specs.List.{slice_get}
use Rattle.std.proofs.lemmas.List.{drop_more, length-take-le, map-append, take_more}
use Rattle.std.proofs.lemmas.List.{take-append-drop}
use Rattle.sqlite_value.specs.Order.{Row}
use Rattle.room_place.specs.declared.plans.Area.{Area}
use Rattle.room_tables_rows.specs.AreaSql.{area_row}
use Rattle.room_types.specs.KeyedRows.{IsBelowAll, IsKeyed}
use Rattle.room_tables.specs.Failures.{HasMisnumbered, HasStranger}

module _ (shown : List Row) (i : ℕ) (r : Row) (within : i < length shown)
    (is : r ≡ get_or shown i r) where
  parts : take i shown ++ r ∷ drop (i + 1) shown ≡ shown
  parts =
      let from : drop i shown
      ≡ r ∷ drop (i + 1) shown = drop_more shown i r within ∙ ap (λ x. x ∷ drop (i + 1) shown) (sym is) in
      ap (λ rows. take i shown ++ rows) (sym from) ∙ take-append-drop i shown

  -- a row that is read is one more of those before it
  pub read_more : {X : Type 0} (row : X → Row) (xs : List X) (x : X) → map row xs ≡ take i shown
      → row x ≡ r → map row (xs ++ x ∷ []) ≡ take (i + 1) shown
  read_more row xs x before here =
      map-append row xs (x ∷ []) ∙ ap (λ rows. rows ++ row x ∷ []) before
      ∙ ap (λ cells. take i shown ++ cells ∷ []) (here ∙ is) ∙ sym (take_more shown i r within)

  -- a row that is none of the table's
  pub stranger_at : (is_row : Row → Bool) → is_row r ≡ false → HasStranger is_row shown
  stranger_at is_row none = (take i shown, r, drop (i + 1) shown, parts, none)

  -- an area with another number than its place
  pub misnumbered_at : (area : ℕ × Area) → area_row area ≡ r → ¬ (area.0 ≡ suc i)
      → HasMisnumbered shown
  misnumbered_at area read other =
      let before : length (take i shown) ≡ i = length-take-le i shown (omega (arith, within)) in
      (take i shown, area, drop (i + 1) shown, rw read parts, λ same. other (same ∙ ap suc before))

module _ {X K : Type 0} (order : K → K → Ordering) (key : X → K) where
  below_end : (k : K) (xs : List X) (x : X) → IsBelowAll order key k (xs ++ x ∷ [])
      → order k (key x) ≡ Less
  below_end k [] x h = h.0
  below_end k (y ∷ xs) x h = below_end k xs x h.1

  below_next : (xs : List X) (x z : X) (i : ℕ) → IsKeyed order key (xs ++ x ∷ [])
      → slice_get xs i ≡ Some z → order (key z) (key x) ≡ Less
  below_next [] x z i h e = cc
  below_next (y ∷ xs) x z zero h e = let same : y ≡ z = cc in rw (← same) (below_end (key y) xs x h.0)
  below_next (y ∷ xs) x z (suc i) h e = below_next xs x z i h.1 e

  -- a row is next in order only where its key is above the last
  pub next_or_not : (xs : List X) (x z : X) (i : ℕ) (b : Bool) → b ≡ is_lt (order (key z) (key x))
      → Some z ≡ slice_get xs i → IsTrue b ⊎ ¬ (IsKeyed order key (xs ++ x ∷ []))
  next_or_not xs x z i true stated e = inl refl
  next_or_not xs x z i false stated e =
      inr (λ keyed. true≢false (sym (stated ∙ ap is_lt (below_next xs x z i keyed (sym e)))))

  -- of rows in order each is below the next
  pub adjacent_less : (xs : List X) (i : ℕ) (a b : X) → suc i < length xs → a ≡ get_or xs i a
      → b ≡ get_or xs (suc i) b → IsKeyed order key xs → order (key a) (key b) ≡ Less
  adjacent_less [] i a b within first second h = absurd (omega (arith, within))
  adjacent_less (x ∷ []) i a b within first second h = absurd (omega (arith, within))
  adjacent_less (x ∷ y ∷ xs) zero a b within first second h = rw (first, second) h.0.0
  adjacent_less (x ∷ y ∷ xs) (suc i) a b within first second h =
      adjacent_less (y ∷ xs) i a b (omega (arith, within)) first second h.1
