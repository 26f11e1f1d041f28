-- What a deletion makes of what a table stands for.
use Rattle.std.proofs.Common.{◌≡◌, ℕ, List, [], ◌∷◌, map, filter, Bool, not, Ok, refl, ap, subst}
use Rattle.std.proofs.Common.{◌∙◌, IsPermutation}
use Rattle.std.proofs.lemmas.List.Sorted.{IsPermutation-sym}
use Rattle.sqlite_value.specs.declared.value.Value.TheVariants.{Null}
use Rattle.sqlite_value.specs.Order.{Row}
use Rattle.sqlite_trees.specs.Tree.{rowid}
use Rattle.sqlite_sql.specs.Term.{Term}
use Rattle.sqlite_sql.specs.Program.{overlay}
use Rattle.sqlite_schema.specs.declared.schema.Table.{Table}
use Rattle.sqlite_schema.specs.declared.schema.Schema.{Schema}
use Rattle.sqlite_schema.specs.declared.schema.Keys.TheVariants.{Enforced}
use Rattle.sqlite_schema.specs.declared.command.Command.TheVariants.{Delete}
use Rattle.sqlite_schema.specs.declared.program.Program.{Program}
use Rattle.sqlite_rules.specs.declared.error.Rowids.TheVariants.{Given}
use Rattle.sqlite_rules.specs.Edit.{id_in, edit_of, taken_by}
use Rattle.sqlite_rules.specs.Calls.{ids_of}
use Rattle.sqlite_rules.proofs.ListLemmas.{has_filtered, has_kept}
use Rattle.sqlite_rules.proofs.ProbeLemmas.{mapped_has, has_mapped}
use Rattle.sqlite.specs.Effect.{Database}
use Rattle.sqlite.specs.Rows.{Written}
use Rattle.sqlite.specs.State.{State, Executes}
use Rattle.sqlite.proofs.Callers.{one_step, runs_as, statement_of}
use Rattle.sqlite.specs.Listing.{understood}
use Rattle.room_tables_schema.specs.TableTrees.{cells, Holds}
use Rattle.room_tables_schema.specs.Outcomes.{Only}
use Rattle.room_tables_schema.specs.Statements.{passes, table_query, StandsApart, Deletes}
use Rattle.room_tables_schema.proofs.Rising.{has_permuted}
use Rattle.room_tables_schema.proofs.Standing.{holds-without_all}
use Rattle.room_tables_schema.proofs.Selections.{table_answer, overlay-none}
use Rattle.room_tables_schema.proofs.Writes.{went_on, same_value, deletes_rows, only_edited}

module _ (schema : Schema) (text : List ℕ) (at : ℕ) (table : Table)
    (apart : StandsApart schema at table) (terms : List Term)
    (means : Deletes schema text at table terms)
    (old new : State) (params : Row) (count : ℕ) (has : old.now.schema ≡ schema)
    (ran : Executes text params old new (Ok count)) where
  -- the rows that pass are gone, and no other table changed
  pub deleted : Only schema table.tree old.now new.now
      × ((places key : List ℕ) (rows : List Row) (test : Row → Bool) → Holds places key (old.now.trees table.tree) rows
      → ((r : Row) → passes terms params r ≡ test (cells places r))
      → Holds places key (new.now.trees table.tree) (filter (λ x. not (test x)) rows))
  deleted =
      let query : Program = record { lets = []; body = table_query table.tree (0 ∷ []) [] terms } in
      let statement = statement_of text (understood schema text) in
      let w = runs_as text params old new schema has (Delete at query) means.command means.plain count ran in
      let it = deletes_rows schema at table apart old new has statement params count query w in
      let asked = went_on it.1 in
      let ids = asked.0 in
      let wrote = went_on asked.2 in
      let db = old.now.trees in
      let tree = db table.tree in
      let edit = edit_of db table (ids_of ids) Given 0 [] in
      let applies = one_step schema Enforced db wrote.0 edit (apart.unreferenced (taken_by db edit) edit.news)
      wrote.1 in
      let next : new.now
      ≡ record { schema = schema; trees = wrote.0 } =
      it.2 ∙ ap (λ (v : Written). record { schema = schema; trees = v.trees }) (same_value wrote.2) in
      let got = (table_answer table.tree [] (0 ∷ []) terms (overlay db []) params ids (asked.1.answer Null)).0 in
      let found = subst (λ l. IsPermutation (map (cells (0 ∷ [])) (filter (passes terms params) l)) ids)
      (overlay-none db table.tree) got in (
        only_edited schema at table apart old new has statement params count wrote.0 edit refl next applies,
        λ places key rows test holds agrees.
            holds-without_all places key tree (new.now.trees table.tree) rows (passes terms params) test (ids_of ids)
            holds agrees
            (λ r h yes.
            mapped_has (λ x. id_in (rowid x)) ids (rowid r ∷ [])
            (has_permuted _ _ _ (IsPermutation-sym _ _ found)
            (mapped_has (cells (0 ∷ [])) _ r (has_kept (passes terms params) tree r h yes))))
            (λ id h.
            let x = has_mapped (λ y. id_in (rowid y)) ids id h in
            let r = has_mapped (cells (0 ∷ [])) (filter (passes terms params) tree) x.0
            (has_permuted _ _ _ found x.1) in
            let both = has_filtered (passes terms params) tree r.0 r.1 in
            (r.0, both.0, both.1, x.2 ∙ ap (λ y. id_in (rowid y)) r.2))
            (ap (λ (d : Database). d.trees table.tree) next ∙ applies.rows),
      )
