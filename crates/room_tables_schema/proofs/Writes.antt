-- A write on one table, taken apart into the steps that changed the tree.
use Rattle.std.proofs.Common.{◌≡◌, ◌≢◌, ◌⊎◌, inl, inr, ℕ, ℤ, List, [], ◌∷◌, Bool, true, false, cond}
use Rattle.std.proofs.Common.{None, Option, Some, Ok, Err, Result, sym, ap, subst, subst₂, ◌∙◌}
use Rattle.std.proofs.Common.{is_lt, length, slice_get, unwrap_or, ◌+◌, ◌/◌}
use Rattle.std.specs.List.{AllByRecursion}
use Rattle.std.specs.Bool.{MatchBool}
use Rattle.std.specs.Ordering.{int_cmp}
use Rattle.sqlite_value.specs.Order.{Row}
use Rattle.sqlite_trees.specs.Tree.{Trees}
use Rattle.sqlite_sql.specs.Term.{Term}
use Rattle.sqlite_schema.specs.declared.schema.Table.{Table}
use Rattle.sqlite_schema.specs.declared.schema.Schema.{Schema}
use Rattle.sqlite_schema.specs.declared.schema.Keys.TheVariants.{Enforced}
use Rattle.sqlite_schema.specs.declared.command.Command.{Command}
use Rattle.sqlite_schema.specs.declared.command.Command.TheVariants.{Delete, Update}
use Rattle.sqlite_schema.specs.declared.command.Upsert.{Upsert}
use Rattle.sqlite_schema.specs.declared.command.Conflict.TheVariants.{Abort}
use Rattle.sqlite_schema.specs.declared.command.Source.{Source}
use Rattle.sqlite_schema.specs.declared.command.Source.TheVariants.{Values}
use Rattle.sqlite_schema.specs.declared.program.Program.{Program}
use Rattle.sqlite_rules.specs.declared.error.Rowids.TheVariants.{Chosen, Above}
use Rattle.sqlite_rules.specs.Cast.{cast_row}
use Rattle.sqlite_rules.specs.Edit.{Edit, edit_of, with_rowid, Applies}
use Rattle.sqlite.specs.Does.{Tally, Does, AtPlace, OnRows, WritesRows}
use Rattle.sqlite.specs.Rows.{Task, Written, Tries, TriesEach, InsertsOr, Updates}
use Rattle.sqlite.specs.Rows.{Inserts as InsertsRows, Deletes as DeletesRows, Edited, Counts}
use Rattle.sqlite.specs.Rows.{count_of, nothing, joined, stamped, rowids_for}
use Rattle.sqlite.specs.Effect.{Database, IsSource, value_rows}
use Rattle.sqlite.specs.State.{State, mode_of, Writes}
use Rattle.room_tables_schema.specs.Outcomes.{Only}
use Rattle.room_tables_schema.specs.Statements.{StandsApart, insertion, upsert, written_over}

-- a part that gave a value did not stop on the way
pub went_on : {B E R : Type 0} {b : B} {Stops : E → Type 0}
    → ((stop : E) × Stops stop × (Ok b ≡ Err stop)) ⊎ R → R
went_on (inl stopped) = absurd (let e = stopped.2 in cc)
went_on (inr on) = on

pub same_value : {B E : Type 0} {a b : B} → ◌≡◌ {A = Result B E} (Ok a) (Ok b) → a ≡ b
same_value e = cc

pub on_false : (b : Bool) (P Q : Type 0) → b ≡ false → MatchBool b P Q → Q
on_false true P Q e h = absurd (let f = e in cc)
on_false false P Q e h = h

module _ (task : Task) (uncounted : task.table.is_counted ≡ false) (clauses : List Upsert) where
  counts_nothing : (mid next : Trees) (counter : Option Row) (top : ℤ)
      → Counts task mid counter top (Ok next) → next ≡ mid
  counts_nothing mid next counter top h =
      same_value (on_false _ _ _ (ap (λ c. cond c (is_lt (int_cmp (count_of counter) top)) false) uncounted) h)

  tries_one : (source : Row) (top : ℤ) (db : Trees) (done : Written × ℤ)
      → TriesEach task Abort clauses (source ∷ []) top (nothing db) (Ok done)
      → (one : Written) × Tries task Abort clauses
      (with_rowid Chosen (db task.table.tree) (cast_row task.table source)) db (Ok one)
      × (done.0.trees ≡ one.trees)
  tries_one source top db done h =
      let first = went_on h in
      let chosen : rowids_for task.table top ≡ Chosen = ap (λ c. cond c (Above top) Chosen) uncounted in
      let one : Tries task Abort clauses (with_rowid Chosen (db task.table.tree) (cast_row task.table source)) db
      (Ok first.0) =
      subst
      (λ m. Tries task Abort clauses (with_rowid m (db task.table.tree) (cast_row task.table source)) db (Ok first.0))
      chosen first.1 in
      let same : done ≡ (joined (nothing db) first.0, _) = same_value first.2 in
      (first.0, one, ap (λ (p : Written × ℤ). p.0.trees) same)

  -- an insert of one row tries that row, and nothing else
  inserts_one : (from : Source) (source : Row) (db : Trees) (w : Written)
      → InsertsOr task Abort clauses from db (Ok w)
      → ((rows : List Row) → IsSource (record { schema = task.schema; trees = db })
      (stamped task.table task.params) from rows → rows ≡ source ∷ [])
      → (one : Written) × Tries task Abort clauses
      (with_rowid Chosen (db task.table.tree) (cast_row task.table source)) db (Ok one)
      × (w.trees ≡ one.trees)
  inserts_one from source db w h is =
      let given = went_on h in
      let counter = went_on given.2 in
      let each = went_on counter.2 in
      let end = went_on each.2 in
      let one = tries_one source (count_of counter.0) db each.0
      (subst (λ l. TriesEach task Abort clauses l (count_of counter.0) (nothing db) (Ok each.0)) (is given.0 given.1)
      each.1) in
      let same : end.0 ≡ each.0.0.trees = counts_nothing each.0.0.trees end.0 counter.0 each.0.1 end.1 in
      let last : w ≡ record each.0.0 { trees = end.0 } = same_value end.2 in
      (one.0, one.1, ap (λ (v : Written). v.trees) last ∙ same ∙ one.2)

  -- without clauses its edit puts that row in
  only_inserts : (from : Source) (source : Row) (db : Trees) (w : Written)
      → InsertsRows task from db (Ok w)
      → ((rows : List Row) → IsSource (record { schema = task.schema; trees = db })
      (stamped task.table task.params) from rows → rows ≡ source ∷ [])
      → Edited task.schema task.keys db (record {
        table = task.table;
        gone = [];
        news = with_rowid Chosen (db task.table.tree) (cast_row task.table source) ∷ [];
      }) (Ok w.trees)
  only_inserts from source db w h is =
      let given = went_on h in
      let counter = went_on given.2 in
      let top = count_of counter.0 in
      let wrote = went_on counter.2 in
      let end = went_on wrote.2 in
      let chosen : rowids_for task.table top ≡ Chosen = ap (λ c. cond c (Above top) Chosen) uncounted in
      let same : w.trees
      ≡ wrote.0 = ap (λ (v : Written). v.trees) (same_value end.2) ∙ counts_nothing wrote.0 end.0 counter.0 _ end.1 in
      let edit : edit_of db task.table [] (rowids_for task.table top) 0 given.0
      ≡ edit_of db task.table [] Chosen 0 (source ∷ []) =
      λ i. edit_of db task.table [] (chosen i) 0 (is given.0 given.1 i) in
      subst₂ (λ (e : Edit) (d : Trees). Edited task.schema task.keys db e (Ok d)) edit (sym same) wrote.1

module _ (schema : Schema) (at : ℕ) (table : Table) (apart : StandsApart schema at table)
    (old new : State) (has : old.now.schema ≡ schema) (text : List ℕ) (params : Row)
    (count : ℕ) where
  -- what a statement on the rows of this table is given
  abbrev pub task : Task
  task = record { limit = old.step_limit; keys = Enforced; schema = schema; table = table; params = params }

  abbrev does : Command → Database → Tally → Type 0
  does command db tally = Does old.step_limit (mode_of old) params db text None command (Ok (tally, new.now))

  -- a statement on the rows of this table writes these
  wrote_rows : (command : Command) (tally : Tally)
      → AtPlace (λ t. OnRows (record task { table = t }) (mode_of old) None command old.now.trees)
      (slice_get schema.tables at) (Ok (tally, new.now))
      → (w : Written) × WritesRows task old.now.trees command (Ok w)
      × (new.now ≡ record { schema = schema; trees = w.trees })
      × (tally.rows ≡ Some (length w.rows))
  wrote_rows command tally all =
      let done = went_on
      (subst (λ o.
      AtPlace (λ t. OnRows (record task { table = t }) (mode_of old) None command old.now.trees) o
      (Ok (tally, new.now))) apart.is_there all) in
      let is = same_value (went_on (went_on done.2).2).2 in
      (done.0, done.1, ap (λ (p : Tally × Database). p.1) is, ap (λ (p : Tally × Database). p.0.rows) is)

  -- a deletion writes only the rows of the table
  pub deletes_rows : (q : Program) → Writes old new None (Delete at q) text params count
      → (w : Written) × DeletesRows task q old.now.trees (Ok w)
      × (new.now ≡ record { schema = schema; trees = w.trees })
  deletes_rows q w =
      let it = wrote_rows (Delete at q) w.tally
      (subst (λ s. does (Delete at q) (record old.now { schema = s }) w.tally) has w.changed) in
      (it.0, it.1, it.2)

  -- so does an update, and counts them
  pub updates_rows : (q : Program) → Writes old new None (Update at q) text params count
      → (w : Written) × Updates task q params old.now.trees (Ok w)
      × (new.now ≡ record { schema = schema; trees = w.trees }) × (count ≡ length w.rows)
  updates_rows q w =
      let it = wrote_rows (Update at q) w.tally
      (subst (λ s. does (Update at q) (record old.now { schema = s }) w.tally) has w.changed) in
      (it.0, it.1, it.2, w.counted ∙ ap (λ rows. unwrap_or rows 0) it.3)

  -- what was edited, and nothing else
  pub only_edited : (next : Trees) (edit : Edit) → edit.table ≡ table
      → new.now ≡ record { schema = schema; trees = next }
      → Applies schema Enforced old.now.trees edit next → Only schema table.tree old.now new.now
  only_edited next edit is now applies =
      rw now (record {
        schema_is = sym has;
        tables =
            subst
            (λ (e : Table). AllByRecursion (λ u. u.tree ≢ e.tree → next u.tree ≡ old.now.trees u.tree) schema.tables) is
            applies.tables;
      })

  -- an upsert tries its row, and nothing else
  pub upserts_row : (key : List ℕ) (columns : ℕ) (values update : List Term) (source : Row)
      → Writes old new None (upsert at table key columns values update) text params count
      → value_rows (stamped table params) (columns + 1) (length values / (columns + 1)) values
      ≡ source ∷ []
      → (one : Written) × Tries task Abort (written_over table key columns update ∷ [])
      (with_rowid Chosen (old.now.trees table.tree) (cast_row table source)) old.now.trees
      (Ok one) × (new.now ≡ record { schema = schema; trees = one.trees })
  upserts_row key columns values update source w is =
      let command = upsert at table key columns values update in
      let done = wrote_rows command w.tally
      (subst (λ s. does command (record old.now { schema = s }) w.tally) has w.changed) in
      let one = inserts_one task apart.uncounted (written_over table key columns update ∷ [])
      (Values values (columns + 1)) source old.now.trees done.0 done.1 (λ rows h. h.1 ∙ is) in
      (one.0, one.1, done.2 ∙ (λ i. record { schema = schema; trees = one.2 i }))

  -- so does an insertion, and no row may be in its way
  pub inserts_row : (columns : ℕ) (values : List Term) (source : Row)
      → Writes old new None (insertion at columns values) text params count
      → value_rows (stamped table params) (columns + 1) (length values / (columns + 1)) values
      ≡ source ∷ []
      → (w : Written) × Edited schema Enforced old.now.trees (record {
        table = table;
        gone = [];
        news = with_rowid Chosen (old.now.trees table.tree) (cast_row table source) ∷ [];
      }) (Ok w.trees) × (new.now ≡ record { schema = schema; trees = w.trees })
  inserts_row columns values source w is =
      let command = insertion at columns values in
      let done = wrote_rows command w.tally
      (subst (λ s. does command (record old.now { schema = s }) w.tally) has w.changed) in (
        done.0,
        only_inserts task apart.uncounted [] (Values values (columns + 1)) source old.now.trees done.0 done.1
            (λ rows h. h.1 ∙ is),
        done.2,
      )
