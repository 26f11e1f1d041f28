-- What an upsert of one row makes of what a table stands for.
use Rattle.std.proofs.Common.{◌≡◌, inl, inr, ℕ, List, [], ◌∷◌, ◌++◌, Bool, true, false, None, Some}
use Rattle.std.proofs.Common.{Ok, refl, sym, ap, subst, is_eq}
use Rattle.std.proofs.lemmas.Bool.{false_from_ne_true}
use Rattle.sqlite_value.specs.Order.{Row}
use Rattle.sqlite_trees.specs.Tree.{Trees, rowid}
use Rattle.sqlite_sql.specs.Term.{Term, eval_all}
use Rattle.sqlite_sql.specs.Query.{key_cmp}
use Rattle.sqlite_schema.specs.declared.schema.Table.{Table}
use Rattle.sqlite_schema.specs.declared.schema.Schema.{Schema}
use Rattle.sqlite_schema.specs.declared.command.Upsert.{Upsert}
use Rattle.sqlite_schema.specs.declared.command.Conflict.TheVariants.{Abort}
use Rattle.sqlite_rules.specs.Lists.{Has}
use Rattle.sqlite_rules.specs.declared.error.Rowids.TheVariants.{Given}
use Rattle.sqlite_rules.specs.Cast.{cast_row}
use Rattle.sqlite_rules.specs.Keys.{conflicts, AreConflicts}
use Rattle.sqlite_rules.specs.Edit.{Edit, next_rowid, edit_of, taken_by, Applies}
use Rattle.sqlite_rules.specs.Action.{works}
use Rattle.sqlite.specs.Effect.{Database}
use Rattle.sqlite.specs.Listing.{understood}
use Rattle.sqlite.specs.Rows.{Task, Written, Tries, Puts, Upserts as UpsertsRows, Meets, Clears}
use Rattle.sqlite.specs.Rows.{Updates, shown}
use Rattle.sqlite.specs.State.{State, Executes}
use Rattle.sqlite.proofs.Callers.{one_step, runs_as, statement_of}
use Rattle.room_tables_schema.specs.TableTrees.{cells, keys, Holds, AreNumbered, put_in}
use Rattle.room_tables_schema.specs.Outcomes.{Only}
use Rattle.room_tables_schema.specs.Statements.{passes, equals, upsert, written_over, StandsApart}
use Rattle.room_tables_schema.specs.Statements.{Upserts, Stores}
use Rattle.room_tables_schema.proofs.Comparisons.{passes-rowid}
use Rattle.room_tables_schema.proofs.Numbered.{alike, is_int_in}
use Rattle.room_tables_schema.proofs.Standing.{one_tied}
use Rattle.room_tables_schema.proofs.Overwrites.{PutsOne, only_puts, put_holds, update_of}
use Rattle.room_tables_schema.proofs.Overwrites.{one_edited, puts_over}
use Rattle.room_tables_schema.proofs.Writes.{went_on, same_value, task, only_edited, upserts_row}

module _ (task : Task) (unreferenced : (olds news : List Row)
    → works task.schema task.keys 0 task.table.tree olds news ≡ []) (key : List ℕ) (columns : ℕ)
    (update : List Term)
    (db : Trees) (new : Row) (one : Written) where
  abbrev tree : List Row
  tree = db task.table.tree

  abbrev clause : Upsert
  clause = written_over task.table key columns update

  -- the row of the tree is in the way of the new one
  abbrev in_the_way : Row → Bool
  in_the_way = conflicts (Some key) task.schema.indexes task.table new

  -- the parameters of the update over a row of the tree
  abbrev given : Row → Row
  given r = task.params ++ rowid r ∷ shown task.table new

  -- the row is in the tree, in place of those in its way
  abbrev IsPut : Row → List ℕ → Type 0
  IsPut = PutsOne task db one in_the_way

  tried : Tries task Abort (clause ∷ []) new db (Ok one)
      → UpsertsRows task Abort new db (clause ∷ []) (Ok one)
  tried (inl refused) = absurd (let e = refused.1 in cc)
  tried (inr (None, judged, goes)) = goes
  tried (inr (Some why, judged, goes)) = absurd (let e = goes in cc)

  cleared : (found : List Row) → Clears task Abort new db found (Ok one) → Puts task new db (Ok one)
  cleared [] h = h
  cleared (x ∷ more) h = h

  -- where no row is in the way, the new one goes in
  puts_new : (x : Row) (places : List ℕ) → Puts task new db (Ok one)
      → ((r : Row) → Has tree r → in_the_way r ≡ false)
      → cells places (cast_row task.table new) ≡ x → IsPut x places
  puts_new x places h none shows =
      let wrote = went_on h in
      let edit : Edit = edit_of db task.table [] Given 0 (new ∷ []) in
      let applies = one_step task.schema task.keys db wrote.0 edit (unreferenced (taken_by db edit) edit.news)
      wrote.1 in
      let same : one.trees ≡ wrote.0 = ap (λ (v : Written). v.trees) (same_value wrote.2) in
      only_puts task db one in_the_way (cast_row task.table new) x places
      (subst (Applies task.schema task.keys db edit) (sym same) applies) none shows

  -- where one is in the way, and only it, it is written over
  puts_there : (x : Row) (places : List ℕ) (over : Row → Row) (r : Row) → AreNumbered tree
      → Has tree r → in_the_way r ≡ true → ((a : Row) → Has tree a → in_the_way a ≡ true → a ≡ r)
      → Updates task (update_of task.table.tree update (equals 0 columns ∷ [])) (given r) db
      (Ok one)
      → ((a : Row) → passes (equals 0 columns ∷ []) (given r) a ≡ alike a r)
      → eval_all update (given r ∷ r ∷ []) ≡ rowid r ∷ over r
      → cells places (cast_row task.table (over r)) ≡ x
      → IsPut x places
  puts_there x places over r numbered h there apart goes finds over_is shows =
      puts_over task unreferenced update (equals 0 columns ∷ []) (given r) db one goes in_the_way x places r (over r)
      numbered h there apart
      (one_edited task unreferenced update (equals 0 columns ∷ []) (given r) db one goes r (over r) numbered h
      (λ a k. finds a) over_is) shows

  -- either way
  puts_one : (x : Row) (places : List ℕ) (rows : List Row) (over : Row → Row)
      → Holds places key tree rows
      → ((r : Row) → in_the_way r ≡ is_eq (key_cmp 0 (keys key) (cells places r) x))
      → ((r a : Row) → Has tree r → passes (equals 0 columns ∷ []) (given r) a ≡ alike a r)
      → ((r : Row) → eval_all update (given r ∷ r ∷ []) ≡ rowid r ∷ over r)
      → cells places (cast_row task.table new) ≡ x
      → ((r : Row) → cells places (cast_row task.table (over r)) ≡ x)
      → (found : List Row) → AreConflicts (Some key) task.schema.indexes task.table tree new found
      → Meets task (UpsertsRows task Abort new db []) new db clause found (Ok one)
      → IsPut x places
  puts_one x places rows over holds agrees finds over_is shows over_shows [] are goes =
      puts_new x places (cleared goes.0 goes.2) (λ r h. false_from_ne_true (in_the_way r) (λ t. are.complete r h t))
      shows
  puts_one x places rows over holds agrees finds over_is shows over_shows (there ∷ more) are goes =
      let it = are.sound there (inl refl) in
      let r = it.0 in
      puts_there x places over r holds.numbered it.1 it.2
      (λ a h t. one_tied places key tree rows in_the_way x a r holds agrees h it.1 t it.2)
      (subst (λ v.
      Updates task (update_of task.table.tree update (equals 0 columns ∷ [])) (task.params ++ v ∷ shown task.table new)
      db (Ok one)) (ap rowid it.3) goes)
      (λ a. finds r a it.1) (over_is r) (over_shows r)

  pub tries_to_put : (x : Row) (places : List ℕ) (rows : List Row) (over : Row → Row)
      → Holds places key tree rows
      → ((r : Row) → in_the_way r ≡ is_eq (key_cmp 0 (keys key) (cells places r) x))
      → ((r a : Row) → Has tree r → passes (equals 0 columns ∷ []) (given r) a ≡ alike a r)
      → ((r : Row) → eval_all update (given r ∷ r ∷ []) ≡ rowid r ∷ over r)
      → cells places (cast_row task.table new) ≡ x
      → ((r : Row) → cells places (cast_row task.table (over r)) ≡ x)
      → Tries task Abort (clause ∷ []) new db (Ok one) → IsPut x places
  tries_to_put x places rows over holds agrees finds over_is shows over_shows tries =
      let goes = tried tries in
      puts_one x places rows over holds agrees finds over_is shows over_shows goes.0 goes.1 goes.2

module _ (schema : Schema) (text : List ℕ) (at : ℕ) (table : Table)
    (apart : StandsApart schema at table) (places key : List ℕ) (columns : ℕ)
    (values update : List Term)
    (means : Upserts schema text at table key columns values update) (row : Row)
    (stores : Stores schema table places key columns values update row)
    (old new : State) (count : ℕ) (has : old.now.schema ≡ schema) (ran : Executes text row old new (Ok count)) where
  abbrev kept : List Row
  kept = old.now.trees table.tree

  abbrev fresh : Row
  fresh = stores.fresh (next_rowid kept)

  abbrev doing : Task
  doing = task schema at table apart old new has (statement_of text (understood schema text)) row count

  ran_one : (one : Written) × Tries doing Abort
      (written_over table key columns update ∷ []) fresh old.now.trees (Ok one)
      × (new.now ≡ record { schema = schema; trees = one.trees })
  ran_one =
      let w = runs_as text row old new schema has (upsert at table key columns values update) means.command means.plain
      count ran in
      let it = upserts_row schema at table apart old new has (statement_of text (understood schema text)) row count key
      columns values update stores.source w stores.source_is in (
        it.0,
        subst (λ r. Tries doing Abort (written_over table key columns update ∷ []) r old.now.trees (Ok it.0))
            (stores.fresh_is kept) it.1,
        it.2,
      )

  -- the schema stays
  pub upserted_schema : new.now.schema ≡ schema
  upserted_schema = ap (λ (d : Database). d.schema) ran_one.2

  -- the row is there, in place of the one with its key, and no other table changed
  pub upserted : (rows : List Row) → Holds places key kept rows
      → Only schema table.tree old.now new.now
      × Holds places key (new.now.trees table.tree) (put_in (key_cmp 0 (keys key)) row rows)
  upserted rows holds =
      let id = next_rowid kept in
      let one = ran_one.0 in
      let put = tries_to_put doing apart.unreferenced key columns update old.now.trees fresh one row places rows
      stores.over holds (stores.conflicts_are id)
      (λ r a h.
      passes-rowid columns (row ++ rowid r ∷ shown table fresh) r a (is_int_in kept r holds.numbered h)
      (stores.over_names id r)) (stores.over_is id) (stores.fresh_shows id) stores.over_shows ran_one.1 in (
        only_edited schema at table apart old new has (statement_of text (understood schema text)) row count one.trees
            put.edit put.table_is ran_one.2 put.applies,
        put_holds doing old.now.trees one (conflicts (Some key) schema.indexes table fresh) row places key
            (new.now.trees table.tree) rows holds (stores.conflicts_are id) put
            (ap (λ (d : Database). d.trees table.tree) ran_one.2),
      )
