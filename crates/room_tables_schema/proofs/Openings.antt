-- From what a program reads of any tree to what the tree stands for.
use Rattle.std.proofs.Common.{◌≡◌, ℕ, suc, List, [], ◌∷◌, map, length, true, false, sym, ap, ◌∙◌}
use Rattle.std.proofs.Common.{arith, Ordering, Less, is_eq, is_gt, add-one, IsPermutation, IsSorted}
use Rattle.std.specs.Prelude.{◌↔◌}
use Rattle.std.specs.List.{AllAdjacentBelow}
use Rattle.std.specs.Cmp.{IsTotalOrder}
use Rattle.std.proofs.lemmas.List.Sorted.{IsPermutation-sym}
use Rattle.sqlite_value.specs.Order.{Row, value_cmp}
use Rattle.sqlite_value.proofs.OrderLemmas.{then-Equal}
use Rattle.sqlite_trees.specs.Tree.{rowid, IsAscending, IsTable}
use Rattle.sqlite_trees.specs.View.{is_int}
use Rattle.sqlite_trees.proofs.ListLemmas.{all-map, all_of, all_both, all_from_map}
use Rattle.sqlite_trees.proofs.ListLemmas.{ascending_weaker, ascending-map, ascending_from_map}
use Rattle.sqlite_sql.specs.Query.{key_cmp}
use Rattle.sqlite_sql.proofs.QueryLemmas.{key_cmp_total}
use Rattle.sqlite_schema.specs.declared.schema.Schema.{Schema}
use Rattle.sqlite_exec.proofs.PartitionLemmas.{ascending_from_sorted}
use Rattle.sqlite.specs.State.{State}
use Rattle.room_types.specs.KeyedRows.{IsKeyed, IsBelowAll}
use Rattle.room_tables_schema.specs.TableTrees.{cells, keys, AreNumbered, RowidsRise}
use Rattle.room_tables_schema.specs.Laws.{RowidsShow, StandsForRead, NumbersRead}
use Rattle.room_tables_schema.proofs.Numbered.{numbered-permutation}
use Rattle.room_tables_schema.proofs.Rising.{less}
use Rattle.room_tables_schema.proofs.Selections.{shows_all}
use Rattle.room_tables_schema.proofs.TypedRows.{rises_keyed}

-- rowids that are shown as the first column differ as those of the tree do
numbered_shown : (more : List ℕ) (tree rows : List Row)
    → IsPermutation (map (cells (0 ∷ more)) tree) rows → AreNumbered rows ↔ AreNumbered tree
numbered_shown more tree rows same = (there, back)
  where
    there : AreNumbered rows → AreNumbered tree
    there h =
        let held = numbered-permutation rows (map (cells (0 ∷ more)) tree) (IsPermutation-sym _ _ same) h in (
          ascending_from_map (λ a b. is_eq (value_cmp (rowid a) (rowid b)) ≡ false) (cells (0 ∷ more)) tree held.0,
          all_from_map (λ r. is_int (rowid r) ≡ true) (cells (0 ∷ more)) tree held.1,
        )

    back : AreNumbered tree → AreNumbered rows
    back h =
        numbered-permutation (map (cells (0 ∷ more)) tree) rows same (
          ascending-map (λ a b. is_eq (value_cmp (rowid a) (rowid b)) ≡ false) (cells (0 ∷ more)) tree h.0,
          all-map (λ r. is_int (rowid r) ≡ true) (cells (0 ∷ more)) tree h.1,
        )

apart : (a b : Row) → value_cmp (rowid a) (rowid b) ≡ Less
    → is_eq (value_cmp (rowid a) (rowid b)) ≡ false
apart a b e = ap is_eq e

rise_apart : (rows : List Row) → IsAscending
    (λ a b. is_gt (value_cmp (rowid a) (rowid b)) ≡ false) rows
    → IsAscending (λ a b. is_eq (value_cmp (rowid a) (rowid b)) ≡ false) rows → IsTable rows
rise_apart [] up h = tt
rise_apart (r ∷ rows) up h = (
  all_both _ (λ s. is_eq (value_cmp (rowid r) (rowid s)) ≡ false) (λ s. value_cmp (rowid r) (rowid s) ≡ Less)
      (λ s p q. less _ p q) rows up.0 h.0,
  rise_apart rows up.1 h.1,
)

-- rows in the order of their rowids rise where the rowids differ
rowids_rise : (rows : List Row) → IsSorted (key_cmp 0 (keys (0 ∷ []))) rows
    → RowidsRise rows ↔ AreNumbered rows
rowids_rise rows sorted = (
  λ h. (ascending_weaker _ (λ a b. is_eq (value_cmp (rowid a) (rowid b)) ≡ false) apart rows h.0, h.1),
  λ h. (rise_apart rows at_most h.0, h.1),
)
  where
    at_most : IsAscending (λ a b. is_gt (value_cmp (rowid a) (rowid b)) ≡ false) rows
    at_most =
        ascending_weaker _ _ (λ a b e. ap is_gt (sym (then-Equal (value_cmp (rowid a) (rowid b)))) ∙ e) rows
        (ascending_from_sorted (key_cmp 0 (keys (0 ∷ []))) (key_cmp_total (keys (0 ∷ [])) 0) rows sorted)

-- of a selection of the rowids in their order
pub rowids_shown : (schema : Schema) (text : List ℕ) (old new : State)
    → RowidsShow schema text old new
rowids_shown schema text old new tree params rows means has shows =
    let got = shows_all schema text old new tree (0 ∷ []) [] params rows means has shows in
    let rising = rowids_rise rows got.1 in
    let same = numbered_shown [] tree_rows rows got.0 in
    (λ h. same.0 (rising.0 h), λ h. rising.1 (same.1 h))
  where
    tree_rows : List Row
    tree_rows = old.now.trees tree

module _ {X K : Type 0} (order : K → K → Ordering) (key : X → K) (row : X → Row) where
  -- for a table whose key is its rowid
  pub numbers_read : NumbersRead order key row
  numbers_read more tree xs faithful ints same keyed =
      let differ = λ (a b : Row) (e : key_cmp 0 (keys (0 ∷ [])) a b ≡ Less).
      apart a b (sym (then-Equal (value_cmp (rowid a) (rowid b))) ∙ e) in
      let rises = rises_keyed order key row (key_cmp 0 (keys (0 ∷ []))) faithful.ordered xs keyed in
      let read : AreNumbered
      (map row xs) = (
        ascending_weaker _ (λ a b. is_eq (value_cmp (rowid a) (rowid b)) ≡ false) differ (map row xs) rises,
        all-map (λ r. is_int (rowid r) ≡ true) row xs (all_of _ ints xs),
      ) in
      (numbered_shown more tree (map row xs) same).0 read

  pub stands_for_read : StandsForRead order key row
  stands_for_read places key_places tree xs faithful numbered same keyed = record {
    numbered = numbered;
    same = same;
    rises = rises_keyed order key row (key_cmp 0 (keys key_places)) faithful.ordered xs keyed;
  }

  -- keys of which each is below the next are in order
  pub keyed_adjacent : IsTotalOrder order → (xs : List X)
      → AllAdjacentBelow (λ x y. order (key x) (key y) ≡ Less) xs (length xs) → IsKeyed order key xs
  keyed_adjacent total [] h = tt
  keyed_adjacent total (x ∷ []) h = (tt, tt)
  keyed_adjacent total (x ∷ y ∷ xs) h =
      let rest = keyed_adjacent total (y ∷ xs)
      (λ k d low. rw (add-one k) (rw (add-one (suc k)) at (h (suc k) d (omega arith)))) in
      ((h 0 x (omega arith), below x y (h 0 x (omega arith)) xs rest.0), rest)
    where
      below : (x y : X) → order (key x) (key y) ≡ Less → (ys : List X)
          → IsBelowAll order key (key y) ys → IsBelowAll order key (key x) ys
      below x y e [] k = tt
      below x y e (z ∷ zs) k = (total.trans (key x) (key y) (key z) e k.0, below x y e zs k.1)
