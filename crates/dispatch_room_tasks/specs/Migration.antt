-- A room of the first version that was moved to this one.
use Rattle.std.specs.Prelude.{Ok, Result, ◌≡◌, ◌⊎◌}
use Rattle.sqlite.specs.Held.{Held, state}
use Rattle.sqlite.specs.State.{Survives}
use Rattle.sqlite_trees.specs.Tree.{Trees}
use Rattle.sqlite_trees.specs.declared.store.Store.{Ghosts}
use Rattle.room_model.specs.FleetRows.{AreTerminals}
use Rattle.room_model.specs.UnofferedRooms.{IsUnoffered}
use Rattle.room_model.specs.Room.{Room}
use Rattle.room_model.specs.RoomAgreements.{IsWellFormed}
use Rattle.room_tables_schema.specs.Versions.{HasFirstTables}
use Rattle.room_tables.specs.RoomsInTables.{Configuration, Stands, StandsInFirst}
use Rattle.room_store_file.specs.OpenedFile.{HoldsFirstRoom, IsNewRoom, IsOldRoom, MayBeMoved}
use Rattle.room_store_check_tables.specs.HeldRooms.{WritesNothing}
use Rattle.room_store_file.specs.declared.opened_file.OpenFault.{OpenFault}
use Rattle.room_store_file.specs.declared.opened_file.OpenFault.TheVariants.{NotARoom, OtherVersion}
use Rattle.room_store_writes.specs.Transactions.{Leaves}
use Rattle.dispatch_room_tasks.specs.OpeningFaults.{open_fault}
use Rattle.dispatch_room_exit.specs.declared.exit_status.Failure.{Failure}
use Rattle.room_tables_schema.specs.FileConnections.{IsClean}

-- The tables of the first version stood for this well-formed room, in which nothing is offered, and
-- the tables of this one stand for it.
pub record IsSameRoom (before after : Trees) (config : Configuration) (room : Room) : Type 0 where
  pub stood : StandsInFirst before config room
  pub stands : Stands after config room
  pub unoffered : IsUnoffered room
  pub formed : IsWellFormed room
  pub fits : AreTerminals room config.terminals

-- The room of the database is the one that it was, and this is committed. What a stop may leave on
-- the way is what it could leave before, or the tables of the same room in this version.
pub record IsMigrated {S : Type 0} (g : Ghosts S) (old new : Held S)
    (done : Result (Unit {0}) Failure) : Type 0 where
  pub whole : done ≡ Ok tt
  pub was_old : IsClean g new → IsOldRoom (state g old).now
  pub same : IsClean g new
      → (config : Configuration) × (room : Room)
      × IsSameRoom (state g old).now.trees (state g new).now.trees config room
  pub moved : IsClean g new → MayBeMoved (state g old).now (state g new).now.trees
  pub kept : IsClean g new → (db : Trees) → (state g new).may_leave db
      → db ≡ (state g new).now.trees
  pub survives : Survives (state g old) (state g new) (MayBeMoved (state g old).now)

-- Why no room was moved, as the program says it, and what became of the database, which is
-- released: it is as it was.
pub record IsUnmoved {S : Type 0} (g : Ghosts S) (old : Held S) (failure : Failure) : Type 0 where
  pub fault : OpenFault
  pub failed : failure ≡ open_fault fault
  pub released : Held S
  pub left : IsClean g released → Leaves (state g old) (state g released)
  pub untouched : (fault ≡ OtherVersion) ⊎ (fault ≡ NotARoom)
      → WritesNothing (state g old) (state g released)
  pub version : IsClean g released
      → (fault ≡ OtherVersion → IsNewRoom (state g old).now)
      × (fault ≡ NotARoom → ¬ IsNewRoom (state g old).now)
  pub no_room : IsClean g released → fault ≡ NotARoom
      → HasFirstTables (state g old).now.schema → ¬ HoldsFirstRoom (state g old).now.trees
  pub survives : Survives (state g old) (state g released) (MayBeMoved (state g old).now)
