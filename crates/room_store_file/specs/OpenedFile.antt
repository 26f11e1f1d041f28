-- What a file holds that is opened, or moved from the first version to this.
use Rattle.std.specs.Prelude.{IsTrue, List, [], drop, ⊤, ℕ, ◌↔◌, ◌⊎◌, ◌≡◌, ◌≢◌}
use Rattle.sqlite.specs.Effect.{Database}
use Rattle.sqlite.specs.Held.{Held, state}
use Rattle.sqlite.specs.State.{State}
use Rattle.sqlite.specs.Steps.{FailsToCommit}
use Rattle.sqlite.specs.declared.error.Error.{Error}
use Rattle.sqlite_catalog.specs.Change.{KeepsRows}
use Rattle.sqlite_schema.specs.declared.schema.Schema.{Schema}
use Rattle.sqlite_trees.specs.Tree.{Trees}
use Rattle.sqlite_trees.specs.declared.store.Store.{Ghosts}
use Rattle.room_model.specs.Room.{Room}
use Rattle.room_tables_schema.specs.Definitions.{FailsAt}
use Rattle.room_tables_schema.specs.DatabaseFaults.{fault_of}
use Rattle.room_tables_schema.specs.declared.database_faults.Fault.{Fault}
use Rattle.room_tables_schema.specs.Schema.{first_schema, first_tables, first_tables_schema}
use Rattle.room_tables_schema.specs.Schema.{room_schema, room_tables, tables_schema}
use Rattle.room_tables_rows.specs.declared.meta_sql.TheConstants.{ALL_META}
use Rattle.room_tables_schema.specs.Versions.{BeginsAsRoom, HasFirstTables}
use Rattle.room_tables.specs.Failures.{FailsToRead}
use Rattle.room_tables.specs.RoomsInTables.{Configuration, Stands, StandsInFirst}
use Rattle.room_tables.specs.MetaVersions.{IsOfVersion}
use Rattle.room_store_writes.specs.Transactions.{IsSettled, Leaves}
use Rattle.room_store_file.specs.declared.opened_file.OpenFault.{OpenFault}
use Rattle.room_store_file.specs.declared.opened_file.OpenFault.TheVariants as opened
use Rattle.room_store_check_tables.specs.declared.file_faults.FileFault.{FileFault}
use Rattle.room_store_check_tables.specs.declared.file_faults.FileFault.TheVariants.{Memory}
use Rattle.room_store_check_tables.specs.declared.file_faults.FileFault.TheVariants.{NotARoom}
use Rattle.room_store_check_tables.specs.declared.file_faults.FileFault.TheVariants.{Storage}
use Rattle.room_store_file.specs.declared.room_in_tables.Tables.{Tables}
use Rattle.room_store_file.specs.declared.room_in_tables.Tables.TheVariants.{First, FirstUnindexed}
use Rattle.room_store_file.specs.declared.room_in_tables.Tables.TheVariants.{Unindexed, Whole}
use Rattle.room_store_check_tables.specs.HeldRooms.{HasNoPlan, Holds, take_fault}

-- The file holds a room of a version, whatever its other tables are.
abbrev pub IsRoomOf : ℕ → Database → Type 0
IsRoomOf version now = BeginsAsRoom now.schema × IsOfVersion version now.trees

-- of the version before this one
abbrev pub IsOldRoom : Database → Type 0
IsOldRoom = IsRoomOf 1

-- of this one
abbrev pub IsNewRoom : Database → Type 0
IsNewRoom = IsRoomOf 2

-- by those of the first version
abbrev pub HoldsFirstRoom : Trees → Type 0
HoldsFirstRoom trees = Holds (StandsInFirst trees)

-- The file begins as a room's does, and the database failed as it was asked for the version.
pub record HidesVersion (old new : State) : Type 0 where
  pub begins : BeginsAsRoom old.now.schema
  pub fails : FailsToRead ALL_META.now [] old new (λ _. ⊥)

-- The file is no room of this version, or the database failed as it was asked for it.
abbrev pub ShowsNoVersion : State → State → Type 0
ShowsNoVersion old new = ¬ IsNewRoom old.now ⊎ HidesVersion old new

-- A transaction was not committed, for this fault of the database.
abbrev pub IsUncommitted : State → State → FileFault → Type 0
IsUncommitted old new fault =
    (error : Error) × FailsToCommit old new error × (fault ≡ take_fault (fault_of error))

-- Every table that the file had is there, with all the rows that it had.
pub record KeepsAllRows (before after : Database) : Type 0 where
  pub tables : after.schema.tables ≡ before.schema.tables
  pub rows : KeepsRows before.schema.tables before.trees after.trees

-- A stop may leave such tables while the indexes are made of a file that has only a room's tables:
-- they have all the rows that they had.
pub record MayBeIndexed (before : Database) (trees : Trees) : Type 0 where
  pub only_tables : before.schema ≡ tables_schema
  pub rows : KeepsRows before.schema.tables before.trees trees

-- Tables of the first version became those of a room: the rows of all but `meta` stayed, and they
-- stand for what they stood for, and for nothing else.
pub record IsMoved (old new : Trees) : Type 0 where
  pub rows : KeepsRows (drop 1 first_tables) old new
  pub stands : (config : Configuration) (room : Room) → StandsInFirst old config room
      ↔ Stands new config room

-- A stop may leave such tables while a file of the first version is moved.
pub record MayBeMoved (before : Database) (trees : Trees) : Type 0 where
  pub first : HasFirstTables before.schema
  pub moved : IsMoved before.trees trees

-- ---- the tables of a file: their schema, what they become and stand for, when they hold a room

abbrev pub schema_of : Tables → Schema
schema_of Whole = room_schema
schema_of Unindexed = tables_schema
schema_of First = first_schema
schema_of FirstUnindexed = first_tables_schema

abbrev pub Becomes : Tables → Trees → Trees → Type 0
Becomes Whole old new = new ≡ old
Becomes Unindexed old new = KeepsRows room_tables old new
Becomes First old new = IsMoved old new
Becomes FirstUnindexed old new = IsMoved old new

-- what a stop may leave then: nothing else where they lack nothing
abbrev pub MayBecome : Tables → Trees → Trees → Type 0
MayBecome Whole old new = ⊥
MayBecome Unindexed old new = Becomes Unindexed old new
MayBecome First old new = Becomes First old new
MayBecome FirstUnindexed old new = Becomes FirstUnindexed old new

abbrev pub StandsBy : Tables → Trees → Configuration → Room → Type 0
StandsBy Whole = Stands
StandsBy Unindexed = Stands
StandsBy First = StandsInFirst
StandsBy FirstUnindexed = StandsInFirst

abbrev pub HoldsBy : Tables → Trees → Type 0
HoldsBy tables trees = Holds (StandsBy tables trees)

-- Why what they lack was not made: a room's own lack nothing, and of its tables without their
-- indexes a statement failed. Of those of the first version no cause is known here.
abbrev pub FailsToMake : {S : Type 0} → Ghosts S → Tables → Held S → Held S → Fault → Type 0
FailsToMake {S} g Whole old new fault = ⊥
FailsToMake {S} g Unindexed old new fault = (texts : List (List ℕ)) × (mid : Held S)
    × FailsAt texts (state g old) (state g mid) (state g new) fault
FailsToMake {S} g First old new fault = ⊤
FailsToMake {S} g FirstUnindexed old new fault = ⊤

-- what they become makes no plan
abbrev pub HasNoPlanBy : Tables → Trees → Type 0
HasNoPlanBy tables trees = (new : Trees) × Becomes tables trees new × HasNoPlan new

-- A room's tables were made of those that the file had, and this is committed.
pub record Takes (tables : Tables) (old new : State) : Type 0 where
  pub was_open : IsTrue old.is_open
  pub settled : IsSettled new
  pub schema : new.now.schema ≡ room_schema
  pub becomes : Becomes tables old.now.trees new.now.trees

-- What opening a file does to it, unless the connection is shut: all rows of all tables stay, and
-- where it has not just a room's tables without their indexes, nothing is written.
pub record KeepsFile (old new : State) : Type 0 where
  pub was_open : IsTrue new.is_open → IsTrue old.is_open
  pub rows : IsTrue new.is_open → KeepsAllRows old.now new.now
  pub committed_rows : IsTrue new.is_open → KeepsAllRows old.committed new.committed
  pub untouched : old.now.schema ≢ tables_schema → Leaves old new

-- A room's tables and indexes are there, and this is committed.
pub record Opens (old new : State) : Type 0 where
  pub settled : IsSettled new
  pub schema : new.now.schema ≡ room_schema
  pub kept : KeepsFile old new

-- A file of the first version was moved, and this is committed.
pub record Moves (old new : State) : Type 0 where
  pub settled : IsSettled new
  pub schema : new.now.schema ≡ room_schema
  pub moved : MayBeMoved old.now new.now.trees

-- ---- how a fault is reported

abbrev pub open_fault : FileFault → OpenFault
open_fault NotARoom = opened.NotARoom
open_fault Memory = opened.Memory
open_fault Storage = opened.Storage
