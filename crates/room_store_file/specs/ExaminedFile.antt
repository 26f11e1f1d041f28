-- What is reported of a file: how much its room has, or what is wrong with it.
use Rattle.std.specs.Prelude.{List, Some, ◌≡◌, ◌⊎◌}
use Rattle.sqlite.specs.Effect.{Database}
use Rattle.sqlite.specs.Held.{Held, state}
use Rattle.sqlite.specs.State.{State}
use Rattle.sqlite_trees.specs.Tree.{Trees}
use Rattle.sqlite_trees.specs.declared.store.Store.{Ghosts}
use Rattle.room_place.specs.Plans.{Layout}
use Rattle.room_place.specs.declared.plans.Area.{Area}
use Rattle.room_types.specs.declared.fleet.Terminal.{Terminal}
use Rattle.room_types.specs.declared.slices.DivisionRows.{DivisionRows}
use Rattle.room_model.specs.FleetRows.{AreTerminals}
use Rattle.room_model.specs.RoomSlices.{room_of}
use Rattle.room_model.specs.RoomAgreements.{IsWellFormed}
use Rattle.room_store_check_rows.specs.FirstFaults.{first_disagreement}
use Rattle.room_store_check_rows.specs.Misfits.{IsMisfit}
use Rattle.room_store_check_rows.specs.Summaries.{summary_of}
use Rattle.room_store_check_rows.specs.Disagreements.{IsWrong}
use Rattle.room_store_check_rows.specs.declared.disagreements.Disagreement.{Disagreement}
use Rattle.room_store_check_rows.specs.declared.disagreements.TerminalFault.{TerminalFault}
use Rattle.room_store_check_rows.specs.declared.summaries.Summary.{Summary}
use Rattle.room_tables_schema.specs.Versions.{HasTables}
use Rattle.room_tables.specs.RoomsInTables.{Stands}
use Rattle.room_store_writes.specs.Configurations.{config_of}
use Rattle.room_store_file.specs.OpeningCauses.{FailsInside}
use Rattle.room_store_file.specs.OpenedFile.{HidesVersion, IsOldRoom}
use Rattle.room_store_file.specs.declared.room_in_tables.Tables.{Tables}
use Rattle.room_store_file.specs.declared.room_in_tables.Tables.TheVariants.{Unindexed, Whole}
use Rattle.room_store_check_tables.specs.HeldRooms.{HasNoPlan, WritesNothing}
use Rattle.room_store_file.specs.declared.examined_file.Wrong.{Wrong}
use Rattle.room_store_file.specs.declared.examined_file.Wrong.TheVariants as wrong
use Rattle.room_store_check_tables.specs.declared.whole_file.ReadFile.{ReadFile}
use Rattle.room_store_check_tables.specs.declared.file_faults.FileFault.{FileFault}
use Rattle.room_store_check_tables.specs.declared.file_faults.FileFault.TheVariants as fault

-- how a fault of reading is reported
abbrev pub wrong_of : FileFault → Wrong
wrong_of fault.NotARoom = wrong.NoPlan
wrong_of fault.Memory = wrong.Memory
wrong_of fault.Storage = wrong.Storage

-- The tables stand for this plan, and for some rows and terminals of which this holds.
pub record HoldsRows (trees : Trees) (plan : Layout)
    (Says : DivisionRows → List Terminal → Type 0) : Type 0 where
  pub rows : DivisionRows
  pub terminals : List Terminal
  pub stands : Stands trees (config_of plan terminals) (room_of plan.areas rows)
  pub says : Says rows terminals

-- these are a well-formed room with terminals that fit it, of which there is so much
abbrev pub IsAmount : List Area → Summary → DivisionRows → List Terminal → Type 0
IsAmount plan summary rows terminals =
    IsWellFormed (room_of plan rows)
    × AreTerminals (room_of plan rows) terminals
    × (summary ≡ summary_of plan rows terminals)

-- The tables hold a room of this plan that has so much.
abbrev pub IsSummaryOf : Trees → Layout → Summary → Type 0
IsSummaryOf trees plan summary = HoldsRows trees plan (IsAmount plan.areas summary)

-- They stand for all that was read, which is a room that has so much.
pub record HoldsAll (trees : Trees) (read : ReadFile) (summary : Summary) : Type 0 where
  pub stands : Stands trees (config_of read.config.plan read.config.terminals.items)
      (room_of read.config.plan.areas read.rows)
  pub amount : IsAmount read.config.plan.areas summary read.rows read.config.terminals.items

-- they disagree in this, and in nothing before it
abbrev pub DisagreeIn : List Area → DivisionRows → Disagreement → Type 0
DisagreeIn plan rows x = IsWrong (room_of plan rows) x × (first_disagreement plan rows ≡ Some x)

-- they are a well-formed room, and the terminals don't fit it, for this
abbrev pub MisfitFor : List Area → DivisionRows → List Terminal → TerminalFault → Type 0
MisfitFor plan rows terminals x =
    IsWellFormed (room_of plan rows) × IsMisfit (room_of plan rows) terminals x

-- what is wrong with rows and terminals that were read
abbrev pub Weighs : List Area → DivisionRows → List Terminal → Wrong → Type 0
Weighs plan rows terminals (wrong.Rows x) = DisagreeIn plan rows x
Weighs plan rows terminals (wrong.Terminals x) = MisfitFor plan rows terminals x
Weighs plan rows terminals wrong.Memory = Unit {0}
Weighs plan rows terminals other = ⊥

-- What is said to be wrong holds of the file. But for lack of memory, all that is said after the
-- first two is said of a room's tables.
abbrev pub Explains : Database → Wrong → Type 0
Explains now wrong.OldRoom = IsOldRoom now
Explains now wrong.Tables = ¬ HasTables now.schema
Explains now wrong.NoPlan = HasTables now.schema × HasNoPlan now.trees
Explains now (wrong.Rows x) = HasTables now.schema
    × ((plan : Layout) × HoldsRows now.trees plan (λ rows terminals. DisagreeIn plan.areas rows x))
Explains now (wrong.Terminals x) = HasTables now.schema × ((plan : Layout)
    × HoldsRows now.trees plan (λ rows terminals. MisfitFor plan.areas rows terminals x))
Explains now wrong.Memory = Unit {0}
Explains now wrong.Storage = HasTables now.schema

-- of a room of the version before this one nothing else is reported, but lack of memory
abbrev pub IsReportedFirst : Database → Wrong → Type 0
IsReportedFirst now wrong.OldRoom = Unit {0}
IsReportedFirst now wrong.Memory = Unit {0}
IsReportedFirst now other = ¬ IsOldRoom now

-- Or it is reported as storage, where the database failed as it was asked for the file's version.
abbrev pub ExplainsFile : State → State → Wrong → Type 0
ExplainsFile old new x =
    (Explains old.now x × IsReportedFirst old.now x) ⊎ ((x ≡ wrong.Storage) × HidesVersion old new)

-- The file's tables are read in a transaction that is undone then, and that fails.
abbrev pub FailsToReadTables : {S : Type 0} → Ghosts S → Held S → Held S → Type 0
FailsToReadTables g old new =
    (tables : Tables) × ((tables ≡ Whole) ⊎ (tables ≡ Unindexed)) × FailsInside g tables old new

-- So it was once the file had turned out to be no room of the first version, which wrote nothing.
pub record FailsToExamine {S : Type 0} (g : Ghosts S) (old new : Held S) : Type 0 where
  pub mid : Held S
  pub same : (state g mid).now ≡ (state g old).now
  pub nothing : WritesNothing (state g old) (state g mid)
  pub fails : FailsToReadTables g mid new

-- Storage is reported for one of these causes.
abbrev pub HasCause : {S : Type 0} → Ghosts S → Held S → Held S → Wrong → Type 0
HasCause g old new x =
    x ≡ wrong.Storage → HidesVersion (state g old) (state g new) ⊎ FailsToExamine g old new
