-- Rows in key order, put among others of the same table.
use Rattle.std.proofs.Common.{Bool, List, Option, Some, [], ap, cond, false, refl, sym, true, ◌&&◌}
use Rattle.std.proofs.Common.{◌∙◌, ◌∷◌, ◌≡◌, ◌||◌}
use Rattle.std.proofs.lemmas.Cmp.{tied_itself}
use Rattle.std.specs.Cmp.{IsTotalOrder}
use Rattle.std.specs.Ordering.{is_eq, ordering_reverse}
use Rattle.std.specs.Prelude.{filter}
use Rattle.std.specs.declared.cmp.Ordering.{Ordering}
use Rattle.std.specs.declared.cmp.Ordering.TheVariants.{Equal, Greater, Less}
use Rattle.room_types.proofs.KeyedLaws.{below_filter, keyed_filter, put_below, row_filter}
use Rattle.room_types.specs.KeyedRows.{IsBelowAll, IsKeyed, keep, listed, put_row, row_at}
use Rattle.room_store_cache.proofs.Filters.{filter_and}

-- each row put in its place
abbrev pub put_all : {R K : Type 0} → (K → K → Ordering) → (R → K) → List R → List R → List R
put_all cmp key [] rows = rows
put_all cmp key (m ∷ more) rows = put_all cmp key more (put_row cmp key rows m)

module _ {R K : Type 0} (cmp : K → K → Ordering) (key : R → K) (total : IsTotalOrder cmp) where
  put_above : (x m : R) (rows : List R) → cmp (key x) (key m) ≡ Less
      → put_row cmp key (x ∷ rows) m ≡ x ∷ put_row cmp key rows m
  put_above x m rows e = rw (total.antisymm (key m) (key x) ∙ ap ordering_reverse e) refl

  put_all_above : (x : R) (more rows : List R) → IsBelowAll cmp key (key x) more
      → put_all cmp key more (x ∷ rows) ≡ x ∷ put_all cmp key more rows
  put_all_above x [] rows h = refl
  put_all_above x (m ∷ more) rows h =
      ap (put_all cmp key more) (put_above x m rows h.0) ∙ put_all_above x more (put_row cmp key rows m) h.1

  put_itself : (x : R) (rows : List R) → put_row cmp key (x ∷ rows) x ≡ x ∷ rows
  put_itself x rows = rw (tied_itself total (key x)) refl

  none_of : (x : R) (k : K) (table : List R) → cmp k (key x) ≡ Equal
      → IsBelowAll cmp key (key x) table → filter (λ y. is_eq (cmp k (key y))) table ≡ []
  none_of x k [] e h = refl
  none_of x k (y ∷ table) e h = rw (total.congr k (key x) (key y) e ∙ h.0) (none_of x k table e h.1)

  -- the row of a key is the one that has it
  pub at_key : (table : List R) (k : K) → IsKeyed cmp key table
      → filter (λ y. is_eq (cmp k (key y))) table ≡ listed (row_at cmp key table k)
  at_key [] k h = refl
  at_key (x ∷ table) k h =
      (elim (cmp k (key x)) as (λ (o : Ordering).
      cmp k (key x) ≡ o
      → cond (is_eq o) (x ∷ filter (λ y. is_eq (cmp k (key y))) table) (filter (λ y. is_eq (cmp k (key y))) table)
      ≡ listed (cond (is_eq o) (Some x) (row_at cmp key table k))) [
        | Less ↦ λ e. at_key table k h.1
        | Equal ↦ λ e. ap (λ l. x ∷ l) (none_of x k table e h.0)
        | Greater ↦ λ e. at_key table k h.1
      ]) refl

  module _ (first second : R → Bool) where
    one_more : (b c : Bool) (x : R) (table : List R) → IsBelowAll cmp key (key x) table
        → put_all cmp key (filter second table) (filter first table)
        ≡ filter (λ y. first y || second y) table
        → put_all cmp key (cond c (x ∷ filter second table) (filter second table))
        (cond b (x ∷ filter first table) (filter first table))
        ≡ cond (b || c) (x ∷ filter (λ y. first y || second y) table)
        (filter (λ y. first y || second y) table)
    one_more true true x table h e =
        ap (put_all cmp key (filter second table)) (put_itself x _)
        ∙ put_all_above x _ _ (below_filter cmp key total second (key x) table h) ∙ ap (λ l. x ∷ l) e
    one_more true false x table h e =
        put_all_above x _ _ (below_filter cmp key total second (key x) table h) ∙ ap (λ l. x ∷ l) e
    one_more false true x table h e =
        ap (put_all cmp key (filter second table))
        (put_below cmp key total (filter first table) x (below_filter cmp key total first (key x) table h))
        ∙ put_all_above x _ _ (below_filter cmp key total second (key x) table h) ∙ ap (λ l. x ∷ l) e
    one_more false false x table h e = e

    -- the rows of a table that pass one test, put among those that pass another
    pub union_is : (table : List R) → IsKeyed cmp key table
        → put_all cmp key (filter second table) (filter first table)
        ≡ filter (λ x. first x || second x) table
    union_is [] h = refl
    union_is (x ∷ table) h = one_more (first x) (second x) x table h.0 (union_is table h.1)

  -- the row of a key that passes a test is the one that has it, where that passes
  pub only_found : (p : R → Bool) (table : List R) (k : K) (found : Option R)
      → IsKeyed cmp key table → found ≡ row_at cmp key table k
      → listed (keep p found) ≡ filter (λ x. p x && is_eq (cmp k (key x))) table
  only_found p table k found h e =
      ap listed (ap (keep p) e ∙ sym (row_filter cmp key total p table k h))
      ∙ sym (at_key (filter p table) k (keyed_filter cmp key total p table h))
      ∙ sym (filter_and p (λ x. is_eq (cmp k (key x))) table)
