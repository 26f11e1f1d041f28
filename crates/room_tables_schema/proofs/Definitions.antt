-- What CREATE TABLE and CREATE INDEX make of a schema and of its trees.
use Rattle.std.proofs.Common.{◌≡◌, ℕ, List, [], None, Ok, sym, ap, subst, ◌∙◌}
use Rattle.sqlite_schema.specs.declared.schema.Schema.{Schema}
use Rattle.sqlite_schema.specs.declared.command.Command.TheVariants.{CreateTable, CreateIndex}
use Rattle.sqlite_catalog.specs.Change.{created, indexed, next_tree, KeepsRows}
use Rattle.sqlite.specs.Does.{Tally, Does, AtPlace, Defines, MakesIndex as MakesIndexIn}
use Rattle.sqlite.specs.Does.{lacks_sequence}
use Rattle.sqlite.specs.Effect.{Database}
use Rattle.sqlite.specs.State.{State, mode_of, Writes}
use Rattle.sqlite.proofs.Callers.{runs_as}
use Rattle.room_tables_schema.specs.Laws.{CreateMakes, IndexMakes}
use Rattle.room_tables_schema.proofs.Writes.{went_on, same_value, on_false}

module _ (schema : Schema) (text : List ℕ) (old new : State) where
  pub create_makes : CreateMakes schema text old new
  create_makes table count means has ran =
      let w = subst (λ t. Writes old new None CreateTable t [] count) means.whole
      (runs_as text [] old new schema has CreateTable means.command means.plain count ran) in
      let all = went_on w.changed in
      let made = went_on all.1 in
      let it = made.1 in
      let both : Ok it.table ≡ Ok table = sym it.defined ∙ means.defined in
      let same : it.table ≡ table = cc in
      let is : made.0.schema
      ≡ created schema table = it.is ∙ ap (λ s. created s it.table) has ∙ ap (created schema) same in
      let now : new.now
      ≡ made.0 =
      ap (λ (p : Tally × Database). p.1) (same_value all.2)
      ∙ same_value (on_false _ _ _ (ap lacks_sequence is ∙ means.uncounted) made.2) in
      record {
        schema_is = ap (λ (d : Database). d.schema) now ∙ is;
        empty =
            ap (λ (d : Database). d.trees (next_tree schema)) now
            ∙ subst (λ s. made.0.trees (next_tree s) ≡ []) has it.empty;
        others =
            subst (λ (d : Database). KeepsRows schema.tables old.now.trees d.trees) (sym now)
            (subst (λ (s : Schema). KeepsRows s.tables old.now.trees made.0.trees) has it.others);
      }

  pub index_makes : IndexMakes schema text old new
  index_makes at table index count means has ran =
      let w = subst (λ t. Writes old new None (CreateIndex at) t [] count) means.whole
      (runs_as text [] old new schema has (CreateIndex at) means.command means.plain count ran) in
      let db = λ (s : Schema). record old.now { schema = s } in
      let all = subst
      (λ s. Does old.step_limit (mode_of old) [] (db s) text None (CreateIndex at) (Ok (w.tally, new.now))) has
      w.changed in
      let made = went_on
      (subst (λ o. AtPlace (λ t. Defines (mode_of old) (MakesIndexIn text (db schema) t)) o (Ok (w.tally, new.now)))
      means.is_there all) in
      let it = made.1 in
      let both : Ok it.index ≡ Ok index = sym it.defined ∙ means.defined in
      let same : it.index ≡ index = cc in
      let now : new.now ≡ made.0 = ap (λ (p : Tally × Database). p.1) (same_value made.2) in
      record {
        schema_is = ap (λ (d : Database). d.schema) now ∙ it.is ∙ ap (indexed schema table) same;
        tables = subst (λ (d : Database). KeepsRows schema.tables old.now.trees d.trees) (sym now) it.rows;
      }
