-- What is made of rows that a query shows one at a time.
use Rattle.std.specs.Prelude.{◌≡◌, ◌⊎◌, ℕ, List, [], Result, OnOk, OnErr, IfErr, false}
use Rattle.sqlite_value.specs.Order.{Row}
use Rattle.sqlite_trees.specs.declared.store.Store.{Ghosts}
use Rattle.sqlite.specs.declared.error.Error.{Error}
use Rattle.sqlite.specs.declared.error.Error.TheVariants.{SqliteFailure}
use Rattle.sqlite.specs.declared.error.ErrorCode.TheVariants.{OutOfMemory}
use Rattle.sqlite.specs.Given.{HasGiven}
use Rattle.sqlite.specs.Held.{Held, state}
use Rattle.sqlite.specs.State.{State, Shown, FailsToQuery, Survives}
use Rattle.room_tables_schema.specs.Outcomes.{Keeps}
use Rattle.room_tables_schema.specs.FileConnections.{IsClean}

-- All rows that the query shows are taken; or it is reported why they are not, and nothing was
-- written.
pub record TakesShown (AreTaken : List Row → Type 0) (text : List ℕ) (params : Row)
    (old new : State)
    (result : Result (Unit {0}) Error) : Type 0 where
  pub shown : OnOk result ((rows : List Row) × Shown text params old new rows × AreTaken rows)
  pub why : IfErr result (λ e. (e ≡ SqliteFailure OutOfMemory) ⊎ FailsToQuery text params old new e)
  pub kept : OnErr result (Keeps old new)

-- Of whichever query has begun here, the rows are taken to its end. It opens no transaction, and
-- leaves nothing more to a stop.
pub record ReadsOut {S : Type 0} (g : Ghosts S) (AreTaken : List Row → Type 0) (old new : Held S)
    (result : Result (Unit {0}) Error) : Type 0 where
  pub takes_shown : IsClean g new → (text : List ℕ) (params : Row)
      → HasGiven g text params old [] → TakesShown AreTaken text params (state g old)
      (state g new) result
  pub mode : old.in_transaction ≡ false → new.in_transaction ≡ false
  pub survives : Survives (state g old) (state g new) (λ _. ⊥)
