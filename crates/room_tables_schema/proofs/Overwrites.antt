-- What an update of one row makes of what a table stands for.
use Rattle.std.proofs.Common.{◌≡◌, ◌==◌, inl, inr, ℕ, List, [], ◌∷◌, map, filter, length, Bool}
use Rattle.std.proofs.Common.{true, false, not, if◌then◌else◌, Ok, refl, sym, ap, subst, ◌∙◌}
use Rattle.std.proofs.Common.{IsPermutation, is_eq}
use Rattle.std.specs.Cmp.{both_ways}
use Rattle.std.proofs.lemmas.Bool.{and_parts}
use Rattle.sqlite_value.specs.declared.value.Value.{Value}
use Rattle.sqlite_value.specs.declared.value.Value.TheVariants.{Null}
use Rattle.sqlite_value.specs.Order.{Row}
use Rattle.sqlite_trees.specs.Tree.{Trees, rowid, put_row}
use Rattle.sqlite_trees.specs.View.{is_int}
use Rattle.sqlite_trees.proofs.ListLemmas.{filter_all, filter_same}
use Rattle.sqlite_sql.specs.Term.{Term, eval_all}
use Rattle.sqlite_sql.specs.Program.{overlay}
use Rattle.sqlite_sql.specs.Query.{key_cmp}
use Rattle.sqlite_schema.specs.declared.schema.Table.{Table}
use Rattle.sqlite_schema.specs.declared.schema.Schema.{Schema}
use Rattle.sqlite_schema.specs.declared.command.Command.TheVariants.{Update}
use Rattle.sqlite_schema.specs.declared.program.Program.{Program}
use Rattle.sqlite_rules.specs.Lists.{Has}
use Rattle.sqlite_rules.specs.declared.error.Rowids.TheVariants.{Given}
use Rattle.sqlite_rules.specs.Cast.{cast_row}
use Rattle.sqlite_rules.specs.Edit.{Edit, id_in, edit_of, without_all, taken_by, Applies, is_taken}
use Rattle.sqlite_rules.specs.Calls.{ids_of}
use Rattle.sqlite_rules.specs.Action.{works}
use Rattle.sqlite_rules.proofs.ListLemmas.{all_from, has_filtered}
use Rattle.sqlite.specs.Effect.{Database}
use Rattle.sqlite.specs.Listing.{understood}
use Rattle.sqlite.specs.Rows.{Task, Written, Updates}
use Rattle.sqlite.specs.State.{State, Executes}
use Rattle.sqlite.proofs.Callers.{one_step, one_permutation, runs_as, statement_of}
use Rattle.room_tables_schema.specs.TableTrees.{cells, keys, Holds, AreNumbered, put_in}
use Rattle.room_tables_schema.specs.Outcomes.{Only}
use Rattle.room_tables_schema.specs.Statements.{passes, plain_query, own_key, own_update}
use Rattle.room_tables_schema.specs.Statements.{StandsApart, Overwrites, Covers}
use Rattle.room_tables_schema.proofs.Comparisons.{false_from_not}
use Rattle.room_tables_schema.proofs.Numbered.{alike, alike_itself, one_row, filter-alike}
use Rattle.room_tables_schema.proofs.Numbered.{without_all-passing}
use Rattle.room_tables_schema.proofs.Rising.{has_permuted}
use Rattle.room_tables_schema.proofs.Standing.{holds-put_row, holds_still, one_tied}
use Rattle.room_tables_schema.proofs.Selections.{plain_answer, overlay-none}
use Rattle.room_tables_schema.proofs.Writes.{went_on, same_value, task, only_edited, updates_rows}

module _ (task : Task) (db : Trees) (one : Written) (in_the_way : Row → Bool) where
  abbrev others : List Row
  others = filter (λ r. not (in_the_way r)) (db task.table.tree)

  -- One row is in the tree in place of those in its way, if there are any.
  pub record PutsOne (x : Row) (places : List ℕ) : Type 0 where
    pub edit : Edit
    pub table_is : edit.table ≡ task.table
    pub applies : Applies task.schema task.keys db edit one.trees
    pub row : Row
    pub int : is_int (rowid row) ≡ true
    pub free : is_taken others row ≡ false
    pub is : one.trees task.table.tree ≡ put_row row others
    pub shows : cells places row ≡ x

  -- one row went in, and none was in its way
  pub only_puts : (row x : Row) (places : List ℕ)
      → Applies task.schema task.keys db
      (record { table = task.table; gone = []; news = row ∷ [] }) one.trees
      → ((r : Row) → Has (db task.table.tree) r → in_the_way r ≡ false)
      → cells places row ≡ x → PutsOne x places
  only_puts row x places applies none shows =
      let tree : List Row = db task.table.tree in
      let all : others ≡ tree = filter_all _ tree (all_from _ tree (λ r h. ap not (none r h))) in
      record {
        edit = record { table = task.table; gone = []; news = row ∷ [] };
        table_is = refl;
        applies = applies;
        row = row;
        int = (and_parts _ _ applies.keyed).0;
        free = subst (λ l. is_taken l row ≡ false) (sym all) (false_from_not _ (and_parts _ _ applies.fresh).0);
        is = applies.rows ∙ ap (put_row row) (sym all);
        shows = shows;
      }

  -- the tree stands for what it stood for, with the row in its key's place
  pub put_holds : (x : Row) (places key : List ℕ) (next rows : List Row)
      → Holds places key (db task.table.tree) rows
      → ((r : Row) → in_the_way r ≡ is_eq (key_cmp 0 (keys key) (cells places r) x))
      → PutsOne x places → next ≡ one.trees task.table.tree
      → Holds places key next (put_in (key_cmp 0 (keys key)) x rows)
  put_holds x places key next rows holds agrees put is =
      holds-put_row places key (db task.table.tree) next rows put.row x in_the_way holds agrees put.int put.free
      put.shows (is ∙ put.is)

-- what an update of one row leaves of a table that stood for these rows, by its count
abbrev Leaves : List ℕ → List ℕ → List Row → List Row → Row → ℕ → Type 0
Leaves places key next stood row count = Holds places key next
    (if count == 0 then stood else put_in (key_cmp 0 (keys key)) row stood)

-- the rows of a tree that pass get these columns
abbrev pub update_of : ℕ → List Term → List Term → Program
update_of tree update terms = record { lets = []; body = plain_query tree update terms }

module _ (task : Task) (unreferenced : (olds news : List Row)
    → works task.schema task.keys 0 task.table.tree olds news ≡ []) (update terms : List Term)
    (params : Row) (db : Trees) (one : Written)
    (goes : Updates task (update_of task.table.tree update terms) params db (Ok one)) where
  abbrev tree : List Row
  tree = db task.table.tree

  -- what its query shows, and the edit of that
  abbrev rows : List Row
  rows = (went_on goes).0

  abbrev pub edit : Edit
  edit = edit_of db task.table (ids_of rows) Given 1 rows

  shown_rows : IsPermutation (map (λ r. eval_all update (params ∷ r ∷ []))
      (filter (passes terms params) tree)) rows
  shown_rows =
      subst (λ l. IsPermutation (map (λ r. eval_all update (params ∷ r ∷ [])) (filter (passes terms params) l)) rows)
      (overlay-none db task.table.tree)
      (plain_answer task.table.tree update terms (overlay db []) params rows ((went_on goes).1.answer Null))

  pub edit_written : one.rows ≡ edit.news
  edit_written = ap (λ (v : Written). v.rows) (same_value (went_on (went_on goes).2).2)

  pub edit_applies : Applies task.schema task.keys db edit one.trees
  edit_applies =
      let wrote = went_on (went_on goes).2 in
      subst (Applies task.schema task.keys db edit) (sym (ap (λ (v : Written). v.trees) (same_value wrote.2)))
      (one_step task.schema task.keys db wrote.0 edit (unreferenced (taken_by db edit) edit.news) wrote.1)

  edit_is : (shown : List Row) → rows ≡ shown
      → edit ≡ edit_of db task.table (ids_of shown) Given 1 shown
  edit_is shown = ap (λ l. edit_of db task.table (ids_of l) Given 1 l)

  -- where no row passes, none is written
  pub none_edited : filter (passes terms params) tree ≡ []
      → edit ≡ record { table = task.table; gone = []; news = [] }
  none_edited none =
      edit_is []
      (empty rows (subst (λ l. IsPermutation (map (λ r. eval_all update (params ∷ r ∷ [])) l) rows) none shown_rows))
    where
      empty : (ys : List Row) → IsPermutation [] ys → ys ≡ []
      empty [] h = refl
      empty (y ∷ ys) h = absurd (has_permuted [] (y ∷ ys) y h (inl refl))

  -- the edit puts these columns in place of a row
  abbrev pub IsOver : Row → Row → Type 0
  IsOver r over = edit ≡ record {
    table = task.table;
    gone = id_in (rowid r) ∷ [];
    news = cast_row task.table over ∷ [];
  }

  -- where one row passes, it is written over
  pub one_edited : (r over : Row) → AreNumbered tree → Has tree r
      → ((a : Row) → Has tree a → passes terms params a ≡ alike a r)
      → eval_all update (params ∷ r ∷ []) ≡ rowid r ∷ over → IsOver r over
  one_edited r over numbered h finds is =
      let met = filter_same _ (λ a. alike a r) tree (all_from _ tree finds) ∙ filter-alike tree r numbered h in
      edit_is _ (one_permutation _ rows (subst (λ l. IsPermutation l rows)
      (ap (map (λ a. eval_all update (params ∷ a ∷ []))) met ∙ ap (λ y. y ∷ []) is) shown_rows))

  -- so, where only it is in the way of a row, that row is in its place
  pub puts_over : (in_the_way : Row → Bool) (x : Row) (places : List ℕ) (r over : Row)
      → AreNumbered tree → Has tree r → in_the_way r ≡ true
      → ((a : Row) → Has tree a → in_the_way a ≡ true → a ≡ r) → IsOver r over
      → cells places (cast_row task.table over) ≡ x → PutsOne task db one in_the_way x places
  puts_over in_the_way x places r over numbered h there apart is shows =
      let done = subst (λ e. Applies task.schema task.keys db e one.trees) is edit_applies in
      let all : without_all tree (id_in (rowid r) ∷ [])
      ≡ filter (λ a. not (in_the_way a)) tree = without_all-passing tree in_the_way (id_in (rowid r) ∷ []) numbered
      (λ a k t. inl (ap (λ y. id_in (rowid y)) (apart a k t)))
      (λ id k. elim k [ inl e ↦ (r, h, there, e) | inr none ↦ absurd none ]) in
      record {
        edit = edit;
        table_is = refl;
        applies = edit_applies;
        row = cast_row task.table over;
        int = (and_parts _ _ done.keyed).0;
        free =
            subst (λ l. is_taken l (cast_row task.table over) ≡ false) all
            (false_from_not _ (and_parts _ _ done.fresh).0);
        is = done.rows ∙ ap (put_row (cast_row task.table over)) all;
        shows = shows;
      }

  module _ (places key : List ℕ) (next stood : List Row) (is : next ≡ one.trees task.table.tree)
      (finds : (r : Row) → passes terms params r
      ≡ is_eq (key_cmp 0 (keys key) (cells places r) params))
      (over_is : (r : Row) → eval_all update (params ∷ r ∷ []) ≡ rowid r ∷ rowid r ∷ params)
      (over_shows : (id : Value) → cells places (cast_row task.table (id ∷ params)) ≡ params)
      (holds : Holds places key tree stood) where
    -- the rows with the key of the parameters are none, or one
    pub leaves : (met : List Row) → filter (passes terms params) tree ≡ met
        → Leaves places key next stood params (length one.rows)
    leaves [] none =
        let nothing = none_edited none in
        let done = subst (λ e. Applies task.schema task.keys db e one.trees) nothing edit_applies in
        subst (Leaves places key next stood params)
        (sym (ap length edit_written ∙ ap (λ (e : Edit). length e.news) nothing))
        (holds_still places key tree next stood (is ∙ done.rows) holds)
    leaves (r ∷ more) some =
        let test = passes terms params in
        let it = has_filtered test tree r (subst (λ l. Has l r) (sym some) (inl refl)) in
        let apart = λ (a : Row) (h : Has tree a) (t : test a ≡ true).
        one_tied places key tree stood test params a r holds finds h it.0 t it.1 in
        let back = λ (a : Row) (h : Has tree a) (t : alike a r ≡ true).
        ap test (one_row tree a r holds.numbered h it.0 t) ∙ it.1 in
        let over = one_edited r (rowid r ∷ params) holds.numbered it.0
        (λ a h. both_ways _ _ (λ t. ap (λ y. alike y r) (apart a h t) ∙ alike_itself r) (back a h)) (over_is r) in
        let put = puts_over test params places r (rowid r ∷ params) holds.numbered it.0 it.1 apart over
        (over_shows (rowid r)) in
        subst (Leaves places key next stood params)
        (sym (ap length edit_written ∙ ap (λ (e : Edit). length e.news) over))
        (put_holds task db one test params places key next stood holds finds put is)

module _ (schema : Schema) (text : List ℕ) (at : ℕ) (table : Table)
    (apart : StandsApart schema at table) (places key : List ℕ) (columns : ℕ)
    (means : Overwrites schema text at table key columns) (row : Row)
    (covers : Covers table places key columns row)
    (old new : State) (count : ℕ) (has : old.now.schema ≡ schema)
    (ran : Executes text row old new (Ok count)) where
  -- the row is in place of the one with its key, or none is written; no other table changed
  pub overwritten : Only schema table.tree old.now new.now
      × ((rows : List Row) → Holds places key (old.now.trees table.tree) rows
      → Leaves places key (new.now.trees table.tree) rows row count)
  overwritten =
      let statement = statement_of text (understood schema text) in
      let doing = task schema at table apart old new has statement row count in
      let query = update_of table.tree (own_update columns) (own_key key) in
      let it = updates_rows schema at table apart old new has statement row count query
      (runs_as text row old new schema has (Update at query) means.command means.plain count ran) in
      let db = old.now.trees in (
        only_edited schema at table apart old new has statement row count it.0.trees
            (edit doing apart.unreferenced (own_update columns) (own_key key) row db it.0 it.1) refl it.2
            (edit_applies doing apart.unreferenced (own_update columns) (own_key key) row db it.0 it.1),
        λ rows holds. subst (Leaves places key (new.now.trees table.tree) rows row) (sym it.3)
            (leaves doing apart.unreferenced (own_update columns) (own_key key) row db it.0 it.1 places key
            (new.now.trees table.tree) rows (ap (λ (d : Database). d.trees table.tree) it.2) covers.finds covers.over_is
            covers.over_shows holds
            (filter (passes (own_key key) row) (db table.tree)) refl),
      )
