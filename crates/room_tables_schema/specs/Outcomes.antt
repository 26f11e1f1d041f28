-- What a call leaves of a connection and of its tables.
use Rattle.std.specs.Prelude.{◌≡◌, ◌≢◌, ◌⊎◌, ℕ, Result, OnErr, OnOk, false, true, []}
use Rattle.std.specs.List.{AllByRecursion}
use Rattle.sqlite_trees.specs.declared.store.Store.{Ghosts}
use Rattle.sqlite_schema.specs.declared.schema.Table.{Table}
use Rattle.sqlite_schema.specs.declared.schema.Index.{Index}
use Rattle.sqlite_schema.specs.declared.schema.Schema.{Schema}
use Rattle.sqlite_catalog.specs.Change.{created, indexed, next_tree, KeepsRows}
use Rattle.sqlite.specs.Effect.{Database}
use Rattle.sqlite.specs.Held.{Held, state}
use Rattle.sqlite.specs.State.{State, Shows, Survives, IsUnchanged, IsRolledBack, KeepsCommit}
use Rattle.room_tables_schema.specs.FileConnections.{IsClean}

-- The call wrote nothing: all is as before, or a failed store has undone the transaction.
abbrev pub Keeps : State → State → Type 0
Keeps old new = IsUnchanged old new ⊎ IsRolledBack old new

-- The call writes nothing, whether it succeeds or fails, and leaves nothing more to a stop. It
-- opens no transaction.
pub record ReadsOnly {S T E : Type 0} (g : Ghosts S) (old new : Held S)
    (result : Result T E) : Type 0 where
  pub ok : IsClean g new → OnOk result (IsUnchanged (state g old) (state g new))
  pub err : IsClean g new → OnErr result (Keeps (state g old) (state g new))
  pub mode : old.in_transaction ≡ false → new.in_transaction ≡ false
  pub survives : Survives (state g old) (state g new) (λ _. ⊥)

-- So does a read in a transaction.
pub record ReadsInside {S T E : Type 0} (g : Ghosts S) (old new : Held S)
    (result : Result T E) : Type 0 where
  pub ok : IsClean g new → OnOk result (IsUnchanged (state g old) (state g new))
  pub err : IsClean g new → OnErr result (Keeps (state g old) (state g new))
  pub survives : Survives (state g old) (state g new) (λ _. ⊥)

-- A write in a transaction that fails has written nothing; either way nothing more is left to a
-- stop.
pub record WritesInside {S T E : Type 0} (g : Ghosts S) (old new : Held S)
    (result : Result T E) : Type 0 where
  pub err : IsClean g new → OnErr result (Keeps (state g old) (state g new))
  pub survives : Survives (state g old) (state g new) (λ _. ⊥)

-- Writes in a transaction, of which some may be done where one fails. None is committed, or left to
-- a stop.
pub record CommitsNothing {S : Type 0} (g : Ghosts S) (old new : Held S) : Type 0 where
  pub kept : IsClean g new → KeepsCommit (state g old) (state g new)
  pub survives : Survives (state g old) (state g new) (λ _. ⊥)

-- The call was made in a transaction, which goes on, and committed nothing.
abbrev pub Inside : State → State → Type 0
Inside old new = Shows old new new.now old.committed true

-- Only the rows of this tree changed.
pub record Only (schema : Schema) (tree : ℕ) (old new : Database) : Type 0 where
  pub schema_is : new.schema ≡ old.schema
  pub tables : AllByRecursion (λ t. t.tree ≢ tree → new.trees t.tree ≡ old.trees t.tree)
      schema.tables

-- The table is there and empty, and the others keep their rows.
pub record MakesTable (schema : Schema) (table : Table) (old new : Database) : Type 0 where
  pub schema_is : new.schema ≡ created schema table
  pub empty : new.trees (next_tree schema) ≡ []
  pub others : KeepsRows schema.tables old.trees new.trees

-- The index is there, and all tables keep their rows.
pub record MakesIndex (schema : Schema) (table : Table) (index : Index)
    (old new : Database) : Type 0 where
  pub schema_is : new.schema ≡ indexed schema table index
  pub tables : KeepsRows schema.tables old.trees new.trees
