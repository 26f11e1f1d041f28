-- Why storage is reported of a file that is taken as a room, or read.
use Rattle.std.specs.Prelude.{true, ◌≡◌, ◌≤◌, ◌⊎◌}
use Rattle.sqlite.specs.Held.{Held, state}
use Rattle.sqlite.specs.State.{IsRolledBack}
use Rattle.sqlite_trees.specs.declared.store.Store.{Ghosts}
use Rattle.room_tables_schema.specs.declared.database_faults.Fault.TheVariants as fault
use Rattle.room_tables_schema.specs.Outcomes.{CommitsNothing}
use Rattle.room_store_check_tables.specs.HeldRooms.{WritesNothing}
use Rattle.room_store_check_tables.specs.ReadCauses.{FailsInTables, FailsToTake}
use Rattle.room_store_check_tables.specs.declared.file_faults.FileFault.TheVariants.{Storage}
use Rattle.room_store_file.specs.OpenedFile.{Becomes, FailsToMake, IsUncommitted, ShowsNoVersion}
use Rattle.room_store_file.specs.OpenedFile.{schema_of}
use Rattle.room_store_file.specs.declared.room_in_tables.Tables.{Tables}
use Rattle.room_store_file.specs.declared.room_in_tables.Tables.TheVariants.{First, FirstUnindexed}
use Rattle.room_store_file.specs.declared.room_in_tables.Tables.TheVariants.{Unindexed, Whole}

module _ {S : Type 0} (g : Ghosts S) (tables : Tables) (old new : Held S) where
  -- What the tables lack was made and not committed, and what they are then is not read.
  pub record FailsMade : Type 0 where
    pub made : Held S
    pub becomes : Becomes tables (state g old).now.trees (state g made).now.trees
    pub commits : CommitsNothing g old made
    pub fails : FailsInTables g made new

  -- Or it is not made.
  abbrev pub FailsToReadAs : Type 0
  FailsToReadAs = FailsToMake g tables old new fault.Storage ⊎ FailsMade

module _ {S : Type 0} (g : Ghosts S) (tables : Tables) (old new : Held S) where
  -- So it was in a transaction that was undone then.
  pub record FailsInside : Type 0 where
    pub last : Held S
    pub fails : FailsToReadAs g tables (record old { in_transaction = true }) last
    pub undone : IsRolledBack (state g last) (state g new)
    pub until : (state g last).faults ≤ (state g new).faults

  -- Or all was read and judged in one, and it was not committed.
  pub record FailsAtEnd : Type 0 where
    pub last : Held S
    pub commits : CommitsNothing g (record old { in_transaction = true }) last
    pub fails : IsUncommitted (state g last) (state g new) Storage

  -- Whole tables were not read, or the file gives its version no more.
  pub record FailsWhole : Type 0 where
    pub mid : Held S
    pub nothing : WritesNothing (state g old) (state g mid)
    pub fails : FailsToTake g old mid ⊎ ShowsNoVersion (state g mid) (state g new)

-- why tables were not taken: by what they lacked
abbrev pub FailsBy : {S : Type 0} → Ghosts S → Tables → Held S → Held S → Type 0
FailsBy g Whole old new = FailsWhole g Whole old new
FailsBy g Unindexed old new = FailsInside g Unindexed old new ⊎ FailsAtEnd g Unindexed old new
FailsBy g First old new = FailsInside g First old new ⊎ FailsAtEnd g First old new
FailsBy g FirstUnindexed old new =
    FailsInside g FirstUnindexed old new ⊎ FailsAtEnd g FirstUnindexed old new

-- Why a file was not opened by its tables, whichever they are.
abbrev pub FailsByTables : {S : Type 0} → Ghosts S → Held S → Held S → Type 0
FailsByTables g old new =
    (tables : Tables) × ((state g old).now.schema ≡ schema_of tables) × FailsBy g tables old new

-- The file gave its version first, and then it was so.
pub record FailsToOpen {S : Type 0} (g : Ghosts S) (old new : Held S) : Type 0 where
  pub mid : Held S
  pub same : (state g mid).now ≡ (state g old).now
  pub nothing : WritesNothing (state g old) (state g mid)
  pub fails : FailsByTables g mid new
