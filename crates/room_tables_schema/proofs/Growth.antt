-- Databases that grow by tables and indexes.
use Rattle.std.proofs.Common.{◌≡◌, ◌⊎◌, ◌∙◌, sym, ap, subst, refl, inl, inr, ℕ, List, [], ◌∷◌, ◌++◌}
use Rattle.std.proofs.Common.{None, Ok, append_assoc}
use Rattle.std.specs.List.{AllByRecursion}
use Rattle.sqlite_trees.specs.Tree.{Trees}
use Rattle.sqlite_schema.specs.declared.schema.Table.{Table}
use Rattle.sqlite_schema.specs.declared.schema.Schema.{Schema}
use Rattle.sqlite_schema.specs.declared.schema.Index.{Index}
use Rattle.sqlite_schema.specs.declared.command.Command.TheVariants.{DropIndex}
use Rattle.sqlite_catalog.specs.Calls.{RefusesToDropIndex}
use Rattle.sqlite_catalog.specs.Change.{created, next_tree, without_index, KeepsRows}
use Rattle.sqlite.specs.Does.{Tally, Does, AtPlace, Defines as DefinesIn, Leaves}
use Rattle.sqlite.specs.Effect.{Database, RefusesToAlter}
use Rattle.sqlite.specs.State.{State, Executes, Writes, mode_of}
use Rattle.sqlite.specs.Listing.{understood}
use Rattle.sqlite.proofs.Callers.{runs_as, statement_of}
use Rattle.room_tables_schema.proofs.Definitions.{create_makes, index_makes}
use Rattle.room_tables_schema.proofs.Writes.{went_on, same_value}
use Rattle.room_tables_schema.specs.Schema.{first_tables, no_schema, offers_table, room_tables}
use Rattle.room_tables_schema.specs.Schema.{room_schema}
use Rattle.room_tables_schema.specs.Definitions.{AddsLast, Defines, Drops, Lead, Grows, IsBlank}

module _ {X : Type 0} (P : X → Type 0) where
  all_first : (xs ys : List X) → AllByRecursion P (xs ++ ys) → AllByRecursion P xs
  all_first [] ys all = tt
  all_first (x ∷ xs) ys all = (all.0, all_first xs ys all.1)

  all_last : (xs ys : List X) → AllByRecursion P (xs ++ ys) → AllByRecursion P ys
  all_last [] ys all = all
  all_last (x ∷ xs) ys all = all_last xs ys all.1

  all_both : (xs ys : List X) → AllByRecursion P xs → AllByRecursion P ys
      → AllByRecursion P (xs ++ ys)
  all_both [] ys none all = all
  all_both (x ∷ xs) ys some all = (some.0, all_both xs ys some.1 all)

kept_then : (tables : List Table) (old mid new : Trees) → KeepsRows tables old mid
    → KeepsRows tables mid new → KeepsRows tables old new
kept_then [] old mid new a b = tt
kept_then (t ∷ ts) old mid new a b = (b.0 ∙ a.0, kept_then ts old mid new a.1 b.1)

kept_none : (tables : List Table) (trees : Trees) → KeepsRows tables trees trees
kept_none [] trees = tt
kept_none (t ∷ ts) trees = (refl, kept_none ts trees)

still_blank : (tables : List Table) (old new : Trees)
    → AllByRecursion (λ (t : Table). old t.tree ≡ []) tables → KeepsRows tables old new
    → AllByRecursion (λ (t : Table). new t.tree ≡ []) tables
still_blank [] old new a b = tt
still_blank (t ∷ ts) old new a b = (b.0 ∙ a.0, still_blank ts old new a.1 b.1)

append_nil : {X : Type 0} (xs : List X) → xs ≡ xs ++ []
append_nil [] = refl
append_nil (x ∷ xs) = ap (λ l. x ∷ l) (append_nil xs)

pub grows_none : (db : Database) → Grows db db
grows_none db = record {
  made = [];
  tables_are = append_nil db.schema.tables;
  kept = kept_none db.schema.tables db.trees;
  blank = tt;
}

pub grows_then : (old mid new : Database) → Grows old mid → Grows mid new → Grows old new
grows_then old mid new a b =
    let kept = subst (λ ts. KeepsRows ts mid.trees new.trees) a.tables_are b.kept in
    record {
      made = a.made ++ b.made;
      tables_are = b.tables_are ∙ ap (λ ts. ts ++ b.made) a.tables_are ∙ append_assoc old.schema.tables a.made b.made;
      kept =
          kept_then old.schema.tables old.trees mid.trees new.trees a.kept (all_first _ old.schema.tables a.made kept);
      blank =
          all_both _ a.made b.made
          (still_blank a.made mid.trees new.trees a.blank (all_last _ old.schema.tables a.made kept)) b.blank;
    }

-- an index that was dropped is not there any more, and all tables keep their rows
drop_makes : (schema : Schema) (text : List ℕ) (old new : State) (at : ℕ) (index : Index)
    (count : ℕ) → Drops schema text at index → old.now.schema ≡ schema
    → Executes text [] old new (Ok count)
    → (new.now.schema ≡ without_index schema index.tree)
    × KeepsRows schema.tables old.now.trees new.now.trees
drop_makes schema text old new at index count means has ran =
    let w : Writes old new None (DropIndex at) (statement_of text (understood schema text)) [] count = runs_as text []
    old new schema has (DropIndex at) means.command means.plain count ran in
    let db = λ (s : Schema). record old.now { schema = s } in
    let all = subst
    (λ s.
    Does old.step_limit (mode_of old) [] (db s) (statement_of text (understood schema text)) None (DropIndex at)
    (Ok (w.tally, new.now))) has w.changed in
    let left = went_on
    (subst (λ o.
    AtPlace (λ (i : Index).
    DefinesIn (mode_of old)
    (Leaves (without_index schema i.tree) old.now.trees (RefusesToAlter (RefusesToDropIndex i)))) o
    (Ok (w.tally, new.now))) means.is_there all) in
    let now : new.now ≡ left.0 = ap (λ (p : Tally × Database). p.1) (same_value left.2) in (
      ap (λ (d : Database). d.schema) now ∙ left.1.0,
      subst (λ (d : Database). KeepsRows schema.tables old.now.trees d.trees) (sym now) left.1.1,
    )

-- the same tables with all their rows have grown by none
tables_stay : (old new : Database) (schema : Schema) → old.schema ≡ schema
    → new.schema.tables ≡ schema.tables → KeepsRows schema.tables old.trees new.trees
    → Grows old new
tables_stay old new schema has same rows =
    let tables = ap (λ (s : Schema). s.tables) has in
    record {
      made = [];
      tables_are = same ∙ sym tables ∙ append_nil old.schema.tables;
      kept = subst (λ ts. KeepsRows ts old.trees new.trees) (sym tables) rows;
      blank = tt;
    }

-- a text that defines takes the schema to the next, and the database grows
defined : (schema next : Schema) (text : List ℕ) (old new : State) (count : ℕ)
    → Defines schema text next → old.now.schema ≡ schema
    → Executes text [] old new (Ok count) → (new.now.schema ≡ next) × Grows old.now new.now
defined schema next text old new count defines has ran = elim defines [
  | inl it ↦
      let m = create_makes schema text old new it.0 count it.1 has ran in
      let is : new.now.schema ≡ created schema it.0 = m.schema_is in
      let tables = ap (λ (s : Schema). s.tables) has in (
        is ∙ sym it.2,
        record {
          made = record it.0 { tree = next_tree schema } ∷ [];
          tables_are =
              ap (λ (s : Schema). s.tables) is
              ∙ sym (ap (λ ts. ts ++ record it.0 { tree = next_tree schema } ∷ []) tables);
          kept = subst (λ ts. KeepsRows ts old.now.trees new.now.trees) (sym tables) m.others;
          blank = (m.empty, tt);
        },
      )
  | inr (inl it) ↦
      let m = index_makes schema text old new it.0 it.1 it.2 count it.3 has ran in (
        m.schema_is ∙ sym it.4,
        tables_stay old.now new.now schema has (ap (λ (s : Schema). s.tables) m.schema_is) m.tables,
      )
  | inr (inr it) ↦
      let m = drop_makes schema text old new it.0 it.1 count it.2 has ran in
      (m.0 ∙ sym it.3, tables_stay old.now new.now schema has (ap (λ (s : Schema). s.tables) m.0) m.1)
]

-- so the texts that are left lead on
pub leads_on : (last : Schema) (text : List ℕ) (more : List (List ℕ)) (old new : State) (count : ℕ)
    → Lead old.now.schema (text ∷ more) last
    → Executes text [] old new (Ok count) → Lead new.now.schema more last × Grows old.now new.now
leads_on last text more old new count lead ran =
    let step = defined old.now.schema lead.0 text old new count lead.1 refl ran in
    (subst (λ s. Lead s more last) (sym step.0) lead.2, step.1)

same_rest : {X : Type 0} (xs ys zs : List X) → xs ++ ys ≡ xs ++ zs → ys ≡ zs
same_rest [] ys zs same = same
same_rest (x ∷ xs) ys zs same = same_rest xs ys zs (let all = same in cc)

-- what grew from the first version's tables to a room's schema added the last table
pub adds_last : (old new : Database) → old.schema.tables ≡ first_tables → Grows old new
    → new.schema ≡ room_schema → AddsLast old.trees new.trees
adds_last old new first grows has =
    let made : first_tables ++ grows.made
    ≡ first_tables ++ offers_table ∷ [] =
    sym (ap (λ ts. ts ++ grows.made) first) ∙ sym grows.tables_are ∙ ap (λ (s : Schema). s.tables) has in
    let last = same_rest first_tables grows.made (offers_table ∷ []) made in
    let blank = subst (AllByRecursion (λ (t : Table). new.trees t.tree ≡ [])) last grows.blank in
    record {
      rows = subst (λ ts. KeepsRows ts old.trees new.trees) first grows.kept;
      blank = blank.0;
    }

-- what grew from nothing to a room's schema has no rows
pub is_blank : (old new : Database) → old.schema ≡ no_schema → Grows old new
    → new.schema ≡ room_schema → IsBlank new.trees
is_blank old new none grows has =
    let made : grows.made
    ≡ room_tables =
    sym (ap (λ (s : Schema). s.tables ++ grows.made) none) ∙ sym grows.tables_are ∙ ap (λ (s : Schema). s.tables) has in
    let all = subst (AllByRecursion (λ (t : Table). new.trees t.tree ≡ [])) made grows.blank in
    record {
      meta = all.0;
      areas = all.1.0;
      terminals = all.1.1.0;
      divisions = all.1.1.1.0;
      incidents = all.1.1.1.1.0;
      calls = all.1.1.1.1.1.0;
      vehicles = all.1.1.1.1.1.1.0;
      turns = all.1.1.1.1.1.1.1.0;
      assignments = all.1.1.1.1.1.1.1.1.0;
      points = all.1.1.1.1.1.1.1.1.1.0;
      loans = all.1.1.1.1.1.1.1.1.1.1.0;
      reports = all.1.1.1.1.1.1.1.1.1.1.1.0;
      offers = all.1.1.1.1.1.1.1.1.1.1.1.1.0;
    }
