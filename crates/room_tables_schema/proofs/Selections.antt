-- The rows that a selection shows.
use Rattle.std.proofs.Common.{◌≡◌, ℕ, List, [], ◌∷◌, ◌++◌, map, flat_map, filter, length, Bool}
use Rattle.std.proofs.Common.{true, false, cond, refl, sym, ap, subst, ◌∙◌, is_gt, IsPermutation}
use Rattle.std.proofs.Common.{IsSorted, slice_get, unwrap_or, None, nat_le, ◌^◌, ◌-◌}
use Rattle.std.specs.List.{AllByRecursion}
use Rattle.std.proofs.lemmas.List.{length-map, map-append}
use Rattle.std.proofs.lemmas.List.Sorted.{IsPermutation-trans, IsPermutation-sym, IsPermutation-map}
use Rattle.sqlite_value.specs.declared.value.Value.TheVariants.{Null}
use Rattle.sqlite_value.specs.declared.keys.Collation.TheVariants.{Binary}
use Rattle.sqlite_value.specs.Keys.{ascending}
use Rattle.sqlite_value.specs.Order.{Row, column}
use Rattle.sqlite_trees.specs.Tree.{Trees, IsAscending}
use Rattle.sqlite_trees.proofs.ListLemmas.{map-map, filter-map, filter_all, all_of, all-map}
use Rattle.sqlite_trees.proofs.ListLemmas.{all-permutation, ascending-map, IsPermutation-filter}
use Rattle.sqlite_sql.specs.Term.{Term, col, eval, eval_all}
use Rattle.sqlite_sql.specs.Query.{Query, Output, IsAnswer, output, output_cmp, key_cmp}
use Rattle.sqlite_sql.specs.Program.{overlay}
use Rattle.sqlite_sql.proofs.QueryLemmas.{key_cmp_total, key_cmp_front, output_cmp_total}
use Rattle.sqlite_exec.proofs.PartitionLemmas.{ascending_from_sorted, sorted_from_ascending}
use Rattle.sqlite_schema.specs.declared.schema.Schema.{Schema}
use Rattle.sqlite.specs.State.{State, Shown}
use Rattle.sqlite.proofs.Callers.{reads_as}
use Rattle.sqlite_schema.specs.declared.command.Command.TheVariants.{Select}
use Rattle.room_tables_schema.specs.TableTrees.{cells, keys, Holds}
use Rattle.room_tables_schema.specs.Statements.{passes, table_query, plain_query, Selects}
use Rattle.room_tables_schema.specs.Laws.{ShowsPassing, ShowsAll}
use Rattle.room_tables_schema.proofs.Rising.{sorted_is, rises-filter}

-- with no table of its own a query reads the trees as they are
pub overlay-none : (db : Trees) (t : ℕ) → overlay db [] t ≡ db t
overlay-none db t =
    elim (nat_le (2 ^ 31) t) as (λ b. unwrap_or (cond b (slice_get [] (t - 2 ^ 31)) None) (db t) ≡ db t)
    [ true ↦ refl | false ↦ refl ]

flat_map-cond : {X Y : Type 0} (p : X → Bool) (f : X → Y) (xs : List X)
    → flat_map (λ x. cond (p x) (f x ∷ []) []) xs ≡ map f (filter p xs)
flat_map-cond p f [] = refl
flat_map-cond p f (x ∷ xs) = go (p x) (flat_map-cond p f xs)
  where
    go : (b : Bool) → flat_map (λ z. cond (p z) (f z ∷ []) []) xs ≡ map f (filter p xs)
        → cond b (f x ∷ []) [] ++ flat_map (λ z. cond (p z) (f z ∷ []) []) xs
        ≡ map f (cond b (x ∷ filter p xs) (filter p xs))
    go true more = ap (λ l. f x ∷ l) more
    go false more = more

-- what a query with no order shows, in some order
pub plain_answer : (tree : ℕ) (project terms : List Term) (db : Trees) (params : Row)
    (rows : List Row) → IsAnswer (plain_query tree project terms) db params rows
    → IsPermutation (map (λ r. eval_all project (params ∷ r ∷ []))
    (filter (passes terms params) (db tree))) rows
plain_answer tree project terms db params rows a =
    let q = plain_query tree project terms in
    let env = λ (r : Row). params ∷ r ∷ [] in
    let met : List Row = filter (passes terms params) (db tree) in
    let kept : a.kept
    ≡ map (λ r. output q (env r)) met =
    a.distinct ∙ ap (map (output q)) (a.grouped ∙ flat_map-cond (passes terms params) env (db tree))
    ∙ map-map (output q) env met in
    let images = map-map (λ (o : Output). o.1) (λ r. output q (env r)) met in
    subst (IsPermutation (map (λ r. eval_all project (env r)) met)) (sym a.shown)
    (subst (λ l. IsPermutation l (map (λ o. o.1) a.ordered)) (ap (map (λ (o : Output). o.1)) kept ∙ images)
    (IsPermutation-map (λ (o : Output). o.1) _ _ a.same))

module _ (tree : ℕ) (key more : List ℕ) (terms : List Term) where
  abbrev q : Query
  q = table_query tree (key ++ more) key terms

  abbrev shown : Row → Output
  shown r = (map (column r) key, cells (key ++ more) r)

  shown_is : (params r : Row) → output q (params ∷ r ∷ []) ≡ shown r
  shown_is params r =
      let env = params ∷ r ∷ [] in
      let first : eval_all (map (λ k. k.0) q.order) env
      ≡ map (column r) key =
      ap (λ l. eval_all l env) (map-map (λ k. k.0) (λ p. (col 1 p, ascending Binary)) key)
      ∙ map-map (λ x. eval x env) (col 1) key in
      let second : eval_all q.project env ≡ cells (key ++ more) r = map-map (λ x. eval x env) (col 1) (key ++ more) in
      λ i. (first i, second i)

  abbrev IsOfRow : Output → Type 0
  IsOfRow o = (r : Row) × (o ≡ shown r)

  keys_are : map (λ k. k.1) q.order ≡ keys key
  keys_are = map-map (λ k. k.1) (λ p. (col 1 p, ascending Binary)) key

  -- the key stands first in what is shown, so the rows are ordered as they are shown
  shown_cmp : (o p : Output) → IsOfRow o → IsOfRow p
      → key_cmp 0 (keys key) o.1 p.1 ≡ key_cmp 0 (keys key) o.0 p.0
  shown_cmp o p f g =
      rw (f.1, g.1) (rw (map-append (column f.0) key more, map-append (column g.0) key more)
      (key_cmp_front (keys key) (map (column f.0) key) (map (column g.0) key) (map (column f.0) more)
      (map (column g.0) more) (same f.0) (same g.0)))
    where
      same : (r : Row) → length (map (column r) key) ≡ length (keys key)
      same r = simp length-map

  abbrev AtMost : Row → Row → Type 0
  AtMost a b = is_gt (key_cmp 0 (keys key) a b) ≡ false

  ascending_shown : (os : List Output) → AllByRecursion IsOfRow os
      → IsAscending (λ o p. is_gt (key_cmp 0 (keys key) o.0 p.0) ≡ false) os
      → IsAscending (λ o p. AtMost o.1 p.1) os
  ascending_shown [] all h = tt
  ascending_shown (o ∷ os) all h = (go os all.1 h.0, ascending_shown os all.1 h.1)
    where
      go : (ps : List Output) → AllByRecursion IsOfRow ps
          → AllByRecursion (λ p. is_gt (key_cmp 0 (keys key) o.0 p.0) ≡ false) ps
          → AllByRecursion (λ p. AtMost o.1 p.1) ps
      go [] f g = tt
      go (p ∷ ps) f g = (ap is_gt (shown_cmp o p all.0 f.0) ∙ g.0, go ps f.1 g.1)

  -- the columns of the rows that pass, each once, in the order of the key
  pub table_answer : (db : Trees) (params : Row) (rows : List Row) → IsAnswer q db params rows
      → IsPermutation (map (cells (key ++ more)) (filter (passes terms params) (db tree))) rows
      × IsSorted (key_cmp 0 (keys key)) rows
  table_answer db params rows a =
      let env = λ (r : Row). params ∷ r ∷ [] in
      let met : List Row = filter (passes terms params) (db tree) in
      let kept : a.kept
      ≡ map shown met =
      a.distinct ∙ ap (map (output q)) (a.grouped ∙ flat_map-cond (passes terms params) env (db tree))
      ∙ map-map (output q) env met ∙ (λ i. map (λ r. shown_is params r i) met) in
      let same : IsPermutation (map shown met) a.ordered = subst (λ l. IsPermutation l a.ordered) kept a.same in
      let images = map-map (λ (o : Output). o.1) shown met in
      let first : IsPermutation (map (cells (key ++ more)) met) rows = subst
      (IsPermutation (map (cells (key ++ more)) met)) (sym a.shown)
      (subst (λ l. IsPermutation l (map (λ o. o.1) a.ordered)) images
      (IsPermutation-map (λ (o : Output). o.1) _ _ same)) in
      let of_rows : AllByRecursion IsOfRow a.ordered = all-permutation IsOfRow _ _ same
      (all-map IsOfRow shown met (all_of _ (λ r. (r, refl)) met)) in
      let sorted = subst (λ ks. IsAscending (λ (o p : Output). is_gt (key_cmp 0 ks o.0 p.0) ≡ false) a.ordered) keys_are
      (ascending_from_sorted (output_cmp q) (output_cmp_total q) a.ordered a.sorted) in
      let rising = ascending-map AtMost (λ (o : Output). o.1) a.ordered (ascending_shown a.ordered of_rows sorted) in (
        first,
        sorted_from_ascending (key_cmp 0 (keys key)) (key_cmp_total (keys key) 0) rows
            (subst (IsAscending AtMost) (sym a.shown) rising),
      )

module _ (schema : Schema) (text : List ℕ) (tree : ℕ) (key more : List ℕ) (terms : List Term)
    (means : Selects schema text tree (key ++ more) key terms)
    (old new : State) (params : Row) (rows : List Row) (has : old.now.schema ≡ schema)
    (shows : Shown text params old new rows) where
  -- of any tree at all: the columns of the rows that pass, each once, in the order of the key
  pub selected_found : IsPermutation
      (map (cells (key ++ more)) (filter (passes terms params) (old.now.trees tree))) rows
      × IsSorted (key_cmp 0 (keys key)) rows
  selected_found =
      let read = reads_as text params old new schema has
      (Select (record { lets = []; body = table_query tree (key ++ more) key terms }) means.names) means.command
      means.plain means.unlisted rows shows in
      let got = table_answer tree key more terms (overlay old.now.trees []) params rows (read.answer Null) in (
        subst (λ l. IsPermutation (map (cells (key ++ more)) (filter (passes terms params) l)) rows)
            (overlay-none old.now.trees tree) got.0,
        got.1,
      )

  -- of a tree that stands for a list: the rows of the list that pass a test, which sees from the
  -- columns what the terms say
  pub selected : (kept : List Row) (test : Row → Bool)
      → Holds (key ++ more) key (old.now.trees tree) kept
      → ((r : Row) → passes terms params r ≡ test (cells (key ++ more) r)) → rows ≡ filter test kept
  selected kept test h agrees =
      let columns = cells (key ++ more) in
      let first : map columns (filter (passes terms params) (old.now.trees tree))
      ≡ filter test (map columns (old.now.trees tree)) =
      (λ i. map columns (filter (λ r. agrees r i) (old.now.trees tree)))
      ∙ sym (filter-map test columns (old.now.trees tree)) in
      let same = IsPermutation-trans _ _ _ (IsPermutation-sym _ _ (IsPermutation-filter test _ _ h.same))
      (subst (λ l. IsPermutation l rows) first selected_found.0) in
      sorted_is (key_cmp 0 (keys key)) (key_cmp_total (keys key) 0) (filter test kept) rows same
      (rises-filter (key_cmp 0 (keys key)) (key_cmp_total (keys key) 0) test kept h.rises) selected_found.1

module _ (schema : Schema) (text : List ℕ) (old new : State) where
  pub shows_passing : ShowsPassing schema text old new
  shows_passing tree key more terms params rows means has shows =
      selected_found schema text tree key more terms means old new params rows has shows

  pub shows_all : ShowsAll schema text old new
  shows_all tree key more params rows means has shows =
      let got = shows_passing tree key more [] params rows means has shows in (
        subst (λ l. IsPermutation (map (cells (key ++ more)) l) rows)
            (filter_all (passes [] params) (old.now.trees tree) (all_of _ (λ r. refl) _)) got.0,
        got.1,
      )
