-- What the texts that define tables and indexes make of a schema and of the rows.
use Rattle.std.specs.Prelude.{◌≡◌, ◌⊎◌, ℕ, List, [], ◌∷◌, ◌++◌, Err, Some, Contains, slice_get}
use Rattle.std.specs.List.{AllByRecursion}
use Rattle.sqlite_trees.specs.Tree.{Trees}
use Rattle.sqlite_schema.specs.declared.schema.Table.{Table}
use Rattle.sqlite_schema.specs.declared.schema.Index.{Index}
use Rattle.sqlite_schema.specs.declared.schema.Schema.{Schema}
use Rattle.sqlite_schema.specs.declared.command.Command.TheVariants.{DropIndex}
use Rattle.sqlite_catalog.specs.Change.{created, indexed, without_index, KeepsRows}
use Rattle.sqlite.specs.Effect.{Database}
use Rattle.sqlite.specs.Given.{IsPlain}
use Rattle.sqlite.specs.Listing.{understood}
use Rattle.sqlite.proofs.Callers.{command_of}
use Rattle.sqlite.specs.State.{State, ExecutesInside, Survives}
use Rattle.sqlite.specs.declared.error.Error.{Error}
use Rattle.room_tables_schema.specs.Statements.{Creates, Indexes}
use Rattle.room_tables_schema.specs.DatabaseFaults.{fault_of}
use Rattle.room_tables_schema.specs.declared.database_faults.Fault.{Fault}
use Rattle.room_tables_schema.specs.Schema.{first_tables, meta_table, areas_table, terminals_table}
use Rattle.room_tables_schema.specs.Schema.{divisions_table, incidents_table, calls_table}
use Rattle.room_tables_schema.specs.Schema.{vehicles_table, turns_table, assignments_table}
use Rattle.room_tables_schema.specs.Schema.{points_table, loans_table, reports_table, offers_table}

-- the text drops the index at this place
pub record Drops (schema : Schema) (text : List ℕ) (at : ℕ) (index : Index) : Type 0 where
  pub command : command_of (understood schema text) ≡ DropIndex at
  pub plain : IsPlain (understood schema text)
  pub is_there : slice_get schema.indexes at ≡ Some index

-- the text makes a table or an index, or drops one, which takes one schema to the next
abbrev pub Defines : Schema → List ℕ → Schema → Type 0
Defines schema text next =
    ((table : Table) × Creates schema text table × (next ≡ created schema table))
    ⊎ (((at : ℕ) × (table : Table) × (index : Index) × Indexes schema text at table index
    × (next ≡ indexed schema table index))
    ⊎ ((at : ℕ) × (index : Index) × Drops schema text at index
    × (next ≡ without_index schema index.tree)))

-- the texts, one after the other, take one schema to the last
abbrev pub Lead : Schema → List (List ℕ) → Schema → Type 0
Lead schema [] last = schema ≡ last
Lead schema (text ∷ more) last = (next : Schema) × Defines schema text next × Lead next more last

-- The tables that were there keep their rows, and those that were made have none.
pub record Grows (old new : Database) : Type 0 where
  pub made : List Table
  pub tables_are : new.schema.tables ≡ old.schema.tables ++ made
  pub kept : KeepsRows old.schema.tables old.trees new.trees
  pub blank : AllByRecursion (λ t. new.trees t.tree ≡ []) made

-- The last table was made, and has no rows; those of the first version keep theirs.
pub record AddsLast (old new : Trees) : Type 0 where
  pub rows : KeepsRows first_tables old new
  pub blank : new offers_table.tree ≡ []

-- One of the texts failed at a state that the transaction came to, and this is the fault that says
-- of it.
pub record FailsAt (texts : List (List ℕ)) (old mid new : State) (fault : Fault) : Type 0 where
  pub text : List ℕ
  pub listed : Contains texts text
  pub reached : Survives old mid (λ _. ⊥)
  pub error : Error
  pub failed : ExecutesInside 0 text [] mid new (Err error)
  pub fault_is : fault ≡ fault_of error

-- no table of a room has a row
pub record IsBlank (trees : Trees) : Type 0 where
  pub meta : trees meta_table.tree ≡ []
  pub areas : trees areas_table.tree ≡ []
  pub terminals : trees terminals_table.tree ≡ []
  pub divisions : trees divisions_table.tree ≡ []
  pub incidents : trees incidents_table.tree ≡ []
  pub calls : trees calls_table.tree ≡ []
  pub vehicles : trees vehicles_table.tree ≡ []
  pub turns : trees turns_table.tree ≡ []
  pub assignments : trees assignments_table.tree ≡ []
  pub points : trees points_table.tree ≡ []
  pub loans : trees loans_table.tree ≡ []
  pub reports : trees reports_table.tree ≡ []
  pub offers : trees offers_table.tree ≡ []
