-- A room that was created by a plan's file, and what is reported of it.
use Rattle.std.specs.Io.KnownBytes.{Appends}
use Rattle.std.specs.Prelude.{Err, List, Ok, Option, Result, codes, decimal, filter, length}
use Rattle.std.specs.Prelude.{vec_len, ℕ, ◌++◌, ◌≡◌}
use Rattle.sqlite.specs.Held.{Held, state}
use Rattle.sqlite.specs.State.{Survives}
use Rattle.sqlite_schema.specs.declared.schema.Schema.{Schema}
use Rattle.sqlite_trees.specs.declared.store.Store.{Ghosts}
use Rattle.room_place.specs.Plans.{has_division}
use Rattle.room_place.specs.declared.plans.Area.{Area}
use Rattle.room_store.specs.StoreCreation.{Explains, MayBegin}
use Rattle.room_store.specs.declared.store_creation.CreateFault.{CreateFault}
use Rattle.room_store_writes.specs.NewRoom.{StandsNew, division_numbers}
use Rattle.room_store_writes.specs.Transactions.{StandsSettled}
use Rattle.dispatch_room_tasks.specs.OpeningFaults.{create_fault}
use Rattle.dispatch_room_exit.specs.declared.exit_status.Done.{Done}
use Rattle.dispatch_room_exit.specs.declared.exit_status.Done.TheVariants.{Whole}
use Rattle.dispatch_room_exit.specs.declared.exit_status.Failure.{Failure}
use Rattle.dispatch_room_exit.specs.declared.exit_status.Failure.TheVariants.{Network}
use Rattle.dispatch_room_csv.specs.declared.plan_file.PlanFile.{PlanFile}
use Rattle.room_tables_schema.specs.FileConnections.{IsClean}

-- In a database that had nothing, the new room of the plan with its terminals is committed. What a
-- stop may leave is what it could leave before, or that room.
pub record IsCreated {S : Type 0} (g : Ghosts S) (old new : Held S) (file : PlanFile) : Type 0 where
  pub begun : MayBegin (state g old).now.schema file.plan file.terminals.items
  pub settled : StandsSettled g new
  pub stands : IsClean g new
      → StandsNew file.plan file.terminals.items (state g new).now.trees
  pub survives : Survives (state g old) (state g new) (StandsNew file.plan file.terminals.items)

-- why no room is created, as the program reports it
abbrev pub ExplainsNone : Schema → PlanFile → Failure → Type 0
ExplainsNone schema file failure = (fault : CreateFault)
    × Explains schema file.plan file.terminals.items fault × (failure ≡ create_fault fault)

-- how many divisions have an area
abbrev pub division_count : List Area → ℕ
division_count areas = length (filter (has_division areas) division_numbers)

-- the line of so many divisions, areas and terminals
abbrev pub amounts_text : ℕ → ℕ → ℕ → List ℕ
amounts_text divisions areas terminals =
    codes "created: divisions " ++ (decimal divisions
    ++ (codes ", areas " ++ (decimal areas
    ++ (codes ", terminals " ++ (decimal terminals ++ codes "\n")))))

-- the line that says how much a room has that was created by a plan's file
abbrev pub created_text : PlanFile → List ℕ
created_text file =
    amounts_text (division_count file.plan.areas) (length file.plan.areas) (vec_len file.terminals)

-- the line is written, unless the output fails
abbrev pub PrintsCreated : PlanFile → Option (List ℕ) → Option (List ℕ) → Result Done Failure
    → Type 0
PrintsCreated file before after (Ok done) =
    Appends before after (created_text file) × (done ≡ Whole)
PrintsCreated file before after (Err failure) = failure ≡ Network
