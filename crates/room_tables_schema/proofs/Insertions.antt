-- What an insertion of one row makes of what a table stands for.
use Rattle.std.proofs.Common.{◌≡◌, inl, inr, ℕ, List, [], ◌∷◌, true, false, not, ◌&&◌, Option, Some}
use Rattle.std.proofs.Common.{Ok, sym, ap, subst, ◌∙◌, refl}
use Rattle.std.proofs.lemmas.Bool.{and_parts, and_from, or_cases, both_ways, false_from_ne_true}
use Rattle.sqlite_value.specs.declared.keys.Collation.TheVariants.{Binary}
use Rattle.sqlite_value.specs.Keys.{plain}
use Rattle.sqlite_value.specs.Order.{Row}
use Rattle.sqlite_trees.specs.Tree.{Trees, rowid}
use Rattle.sqlite_trees.specs.View.{is_int}
use Rattle.sqlite_sql.specs.Term.{Term}
use Rattle.sqlite_sql.specs.Query.{key_cmp}
use Rattle.sqlite_schema.specs.declared.schema.Constraint.TheVariants.{Unique}
use Rattle.sqlite_schema.specs.declared.schema.Keys.{Keys}
use Rattle.sqlite_schema.specs.declared.schema.Keys.TheVariants.{Enforced}
use Rattle.sqlite_schema.specs.declared.schema.Table.{Table}
use Rattle.sqlite_schema.specs.declared.schema.Index.{Index}
use Rattle.sqlite_schema.specs.declared.schema.Schema.{Schema}
use Rattle.sqlite_schema.specs.Rules.{equal, agree, clashes, guards}
use Rattle.sqlite_rules.specs.Lists.{Has}
use Rattle.sqlite_rules.specs.Keys.{aims, shares, conflicts, are_unique}
use Rattle.sqlite_rules.specs.Edit.{Edit, next_rowid, taken_by, Applies}
use Rattle.sqlite_rules.proofs.ListLemmas.{has_got, some_has, some_from, fails_from}
use Rattle.sqlite_rules.proofs.TableLemmas.{put_all_keeps, put_all_adds}
use Rattle.sqlite_rules.proofs.RuleLemmas.{clash_breaks}
use Rattle.sqlite.specs.Effect.{Database}
use Rattle.sqlite.specs.Listing.{understood}
use Rattle.sqlite.specs.Rows.{Task, Written, Edited}
use Rattle.sqlite.specs.State.{State, Executes}
use Rattle.sqlite.proofs.Callers.{one_step, runs_as, statement_of}
use Rattle.room_tables_schema.specs.TableTrees.{cells, keys, Holds, AreNumbered, put_in}
use Rattle.room_tables_schema.specs.Outcomes.{Only}
use Rattle.room_tables_schema.specs.Statements.{StandsApart, Inserts, Stores, insertion}
use Rattle.room_tables_schema.proofs.Comparisons.{false_from_not, int_present, equal-value_cmp}
use Rattle.room_tables_schema.proofs.Comparisons.{differ-value_cmp}
use Rattle.room_tables_schema.proofs.Numbered.{alike, is_int_in}
use Rattle.room_tables_schema.proofs.Overwrites.{only_puts, put_holds}
use Rattle.room_tables_schema.proofs.Writes.{task, only_edited, inserts_row}

module _ (table : Table) (new : Row) where
  abbrev pub one_more : Edit
  one_more = record { table = table; gone = []; news = new ∷ [] }

  module _ (schema : Schema) (checked : Keys) (listed : Has schema.tables table) (db next : Trees)
      (applies : Applies schema checked db one_more next) (numbered : AreNumbered (db table.tree)) where
    int : is_int (rowid new) ≡ true
    int = (and_parts _ _ applies.keyed).0

    apart : (r : Row) → Has (db table.tree) r → alike r new ≡ false
    apart r h =
        false_from_ne_true _
        (λ same. both_ways _ (false_from_not _ (and_parts _ _ applies.fresh).0) (some_from _ _ r h same))

    -- a row of before is there after it, and so is the new one
    stays : (r : Row) → Has (db table.tree) r → Has (next table.tree) r
    stays r h = subst (λ l. Has l r) (sym applies.rows) (put_all_keeps (new ∷ []) (db table.tree) r applies.fresh h)

    added : (r : Row) → Has (new ∷ []) r → Has (next table.tree) r
    added r h = subst (λ l. Has l r) (sym applies.rows) (put_all_adds (new ∷ []) (db table.tree) r applies.fresh h)

    -- a row with its rowid would be there twice
    no_tie : (r : Row) → Has (db table.tree) r → equal Binary (rowid r) (rowid new) ≡ true → ⊥
    no_tie r h same =
        both_ways _ (apart r h) (sym (equal-value_cmp (rowid r) (rowid new) (int_present (rowid new) int)) ∙ same)

    -- and one with its key under a unique index would clash with it
    no_clash : (r : Row) → Has (db table.tree) r → (i : Index) → Has schema.indexes i
        → guards i table ≡ true → agree i.order i.columns r i.columns new ≡ true → ⊥
    no_clash r h i known guarded agrees =
        let there = int_present (rowid r) (is_int_in (db table.tree) r numbered h) in
        let differs = differ-value_cmp (rowid r) (rowid new) there (int_present (rowid new) int) (apart r h) in
        let clash = clashes i.order i.columns (next table.tree) in
        let clashed : clash new ≡ true = some_from _ (next table.tree) r (stays r h) (and_from _ _ agrees differs) in
        let fails : are_unique schema.indexes next table (new ∷ []) ≡ false =
        fails_from _ schema.indexes i known
        (ap not (and_from _ _ guarded (some_from clash (new ∷ []) new (inl refl) clashed))) in
        clash_breaks schema next table listed (new ∷ []) added fails (applies.fits.rules Unique (λ e. cc))

    -- so no row of before was in the way of the new one
    pub none_in_the_way : (target : Option (List ℕ)) (r : Row) → Has (db table.tree) r
        → conflicts target schema.indexes table new r ≡ false
    unfolding Rattle.sqlite_value.specs.Keys.first_key
    none_in_the_way target r h = false_from_ne_true _ (λ met. elim (or_cases _ _ met) [
      | inl one_rowid ↦
          let agrees : agree plain (0 ∷ []) r (0 ∷ []) new ≡ true = (and_parts _ _ one_rowid).1 in
          no_tie r h (and_parts (equal Binary (rowid r) (rowid new)) true agrees).0
      | inr one_key ↦
          let index = some_has (shares target table new r) schema.indexes one_key in
          let i = index.0 in
          let on = and_parts (guards i table && aims target i.columns) (agree i.order i.columns r i.columns new)
          index.2 in
          no_clash r h i index.1 (and_parts _ _ on.0).0 on.1
    ])

module _ (schema : Schema) (text : List ℕ) (at : ℕ) (table : Table)
    (stands_apart : StandsApart schema at table) (places key : List ℕ) (columns : ℕ)
    (values update : List Term) (means : Inserts schema text at columns values) (row : Row)
    (stores : Stores schema table places key columns values update row)
    (old new : State) (count : ℕ) (has : old.now.schema ≡ schema)
    (ran : Executes text row old new (Ok count)) where
  abbrev kept : List Row
  kept = old.now.trees table.tree

  abbrev fresh : Row
  fresh = stores.fresh (next_rowid kept)

  abbrev statement : List ℕ
  statement = statement_of text (understood schema text)

  abbrev doing : Task
  doing = task schema at table stands_apart old new has statement row count

  ran_one : (w : Written)
      × Applies schema Enforced old.now.trees (one_more table fresh) w.trees
      × (new.now ≡ record { schema = schema; trees = w.trees })
  ran_one =
      let db = old.now.trees in
      let w = runs_as text row old new schema has (insertion at columns values) means.command means.plain count ran in
      let it = inserts_row schema at table stands_apart old new has statement row count columns values stores.source w
      stores.source_is in
      let edit = one_more table fresh in
      let wrote = subst (λ r. Edited schema Enforced db (one_more table r) (Ok it.0.trees)) (stores.fresh_is kept)
      it.1 in (
        it.0,
        one_step schema Enforced db it.0.trees edit (stands_apart.unreferenced (taken_by db edit) edit.news) wrote,
        it.2,
      )

  -- the schema stays
  pub inserted_schema : new.now.schema ≡ schema
  inserted_schema = ap (λ (d : Database). d.schema) ran_one.2

  -- the row is there, whose key no other had, and no other table changed
  pub inserted : (rows : List Row) → Holds places key kept rows
      → Only schema table.tree old.now new.now
      × Holds places key (new.now.trees table.tree) (put_in (key_cmp 0 (keys key)) row rows)
  inserted rows holds =
      let db = old.now.trees in
      let one = ran_one.0 in
      let applies = ran_one.1 in
      let next = ap (λ (d : Database). d.trees table.tree) ran_one.2 in
      let in_the_way = conflicts (Some key) schema.indexes table fresh in
      let listed = has_got schema.tables at table stands_apart.is_there in
      let none = none_in_the_way table fresh schema Enforced listed db one.trees applies holds.numbered (Some key) in
      let put = only_puts doing db one in_the_way fresh row places applies none
      (stores.fresh_stands (next_rowid kept)) in (
        only_edited schema at table stands_apart old new has statement row count one.trees (one_more table fresh) refl
            ran_one.2 applies,
        put_holds doing db one in_the_way row places key (new.now.trees table.tree) rows holds
            (stores.conflicts_are (next_rowid kept)) put next,
      )
