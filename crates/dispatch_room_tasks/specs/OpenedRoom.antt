-- The room that is opened in a database, or why none is.
use Rattle.std.specs.Prelude.{IsSome, List, ◌≡◌, ◌⊎◌}
use Rattle.jiff.specs.Words.{read_whole}
use Rattle.sqlite.specs.Held.{Held, state}
use Rattle.sqlite.specs.State.{Survives}
use Rattle.sqlite_trees.specs.declared.store.Store.{Ghosts}
use Rattle.room_types.specs.declared.fleet.Terminal.{Terminal}
use Rattle.room_model.specs.Room.{Room}
use Rattle.room_tables.specs.RoomsInTables.{Configuration, Stands}
use Rattle.room_tables_schema.specs.Versions.{HasTables}
use Rattle.room_store.specs.StoredRoom.{IsKept, IsRoom}
use Rattle.room_store.specs.declared.store.Store.{Store}
use Rattle.room_store_file.specs.OpenedFile.{HidesVersion, IsOldRoom, KeepsFile, MayBeIndexed}
use Rattle.room_store_file.specs.OpeningCauses.{FailsToOpen}
use Rattle.room_store_check_tables.specs.HeldRooms.{HoldsRoom, WritesNothing}
use Rattle.room_store_file.specs.declared.opened_file.OpenFault.{OpenFault}
use Rattle.room_store_file.specs.declared.opened_file.OpenFault.TheVariants.{NotARoom, OtherVersion}
use Rattle.room_store_file.specs.declared.opened_file.OpenFault.TheVariants.{Storage}
use Rattle.room_store_writes.specs.Transactions.{Leaves}
use Rattle.dispatch_room_exit.specs.declared.exit_status.Failure.{Failure}
use Rattle.dispatch_room_exit.specs.declared.exit_status.Failure.TheVariants.{File}
use Rattle.dispatch_room_tasks.specs.OpeningFaults.{open_fault}
use Rattle.room_tables_schema.specs.FileConnections.{IsClean}

-- The store stands for this room, which is the one for which the tables stood, and it is kept. All
-- rows of the file are as they were.
pub record IsOpened {S : Type 0} (g : Ghosts S) (old : Held S) (opened : Store S)
    (terminals : List Terminal) (room : Room) : Type 0 where
  pub is : IsRoom g opened terminals room
  pub same : (config : Configuration) (held : Room) → Stands (state g old).now.trees config held
      → (config.zone ≡ opened.plan.zone) × IsRoom g opened config.terminals held
  pub kept : IsKept g opened
  pub rows : KeepsFile (state g old) (state g opened.conn)

-- some room is opened
abbrev pub OpensRoom : {S : Type 0} → Ghosts S → Held S → Store S → Type 0
OpensRoom g old opened =
    (terminals : List Terminal) × (room : Room) × IsOpened g old opened terminals room

-- The store reports why it opens none, and the database, which is released, is as it was. Storage
-- is reported only where the database failed, or a row is not of its table.
pub record HoldsNone {S : Type 0} (g : Ghosts S) (old : Held S) (failure : Failure) : Type 0 where
  pub fault : OpenFault
  pub failed : failure ≡ open_fault fault
  pub released : Held S
  pub left : IsClean g released → Leaves (state g old) (state g released)
  pub untouched : (fault ≡ OtherVersion) ⊎ (fault ≡ NotARoom)
      → WritesNothing (state g old) (state g released)
  pub version : IsClean g released
      → (fault ≡ OtherVersion → IsOldRoom (state g old).now)
      × (fault ≡ NotARoom → ¬ IsOldRoom (state g old).now)
  pub no_room : IsClean g released → fault ≡ NotARoom
      → HasTables (state g old).now.schema → ¬ HoldsRoom (state g old).now.trees
  pub why : IsClean g released → fault ≡ Storage
      → HidesVersion (state g old) (state g released) ⊎ FailsToOpen g old released
  pub survives : Survives (state g old) (state g released) (MayBeIndexed (state g old).now)

-- There is a room, but the zone of its plan is no rule, so its days can't be reckoned. It is closed
-- again.
pub record HasNoZone {S : Type 0} (g : Ghosts S) (old : Held S) (failure : Failure) : Type 0 where
  pub failed : failure ≡ File
  pub opened : Store S
  pub opens : IsClean g opened.conn → OpensRoom g old opened
  pub no_rule : ¬ IsSome (read_whole opened.plan.zone)

-- why no room is opened, as the program reports it
abbrev pub IsUnopened : {S : Type 0} → Ghosts S → Held S → Failure → Type 0
IsUnopened g old failure = HoldsNone g old failure ⊎ HasNoZone g old failure
