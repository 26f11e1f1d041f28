-- The database of a room's file: as it is opened, and as it is closed.
use Rattle.std.specs.Prelude.{Err, List, MatchResult, Option, Result, ℕ, ◌≡◌, ◌⊎◌}
use Rattle.sqlite.specs.Closing.{IsCopied}
use Rattle.sqlite.specs.Files.{FailsToClose, Finds, IsCleanLeft, IsClosed, IsOpened, LeavesFiles}
use Rattle.sqlite.specs.Files.{file_state}
use Rattle.sqlite.specs.Held.{Held}
use Rattle.sqlite.specs.State.{HasCleanDisk}
use Rattle.sqlite.specs.declared.error.Error.{Error}
use Rattle.sqlite.specs.declared.file.Leftover.{Leftover}
use Rattle.sqlite_disk.specs.declared.Disk.{Ghosts as Disk}
use Rattle.sqlite_disk.specs.declared.Files.{Files}
use Rattle.sqlite_store.specs.FileStore.{view}
use Rattle.sqlite_store.specs.declared.store.FileStore.{FileStore}
use Rattle.sqlite_trees.specs.View.{IsClean}
use Rattle.sqlite_trees.specs.declared.store.Store.{Ghosts}
use Rattle.sqlite_wal.specs.Reads.{AreClean}
use Rattle.dispatch_room_disk.specs.DiskFaults.{IsFileFault, fault_of}
use Rattle.dispatch_room_disk.specs.declared.room_files.RoomFile.{RoomFile}
use Rattle.dispatch_room_disk.specs.declared.room_files.RoomFile.TheVariants.{Kept, New, Old}
use Rattle.dispatch_room_exit.specs.declared.exit_status.Failure.{Failure}
use Rattle.dispatch_room_exit.specs.declared.exit_status.Failure.TheVariants as failure

-- What is said of work, over any storage: of a database before it, of what the output held before
-- and after, and of what came of it and the database as it is then, or of why it can't be done.
abbrev pub Doing : Type 0 → Type 1
Doing T =
    (S : Type 0) → Ghosts S → Held S → Option (List ℕ) → Option (List ℕ)
    → Result (Result T Failure × Held S) Failure → Type 0

-- no connection came of these files, and what is left of them holds what they held
pub record IsUnharmed {D : Type 0} (g : Disk D) (files : Files D) (failure : Failure) : Type 0 where
  pub error : Error
  pub failed : failure ≡ fault_of error
  pub left : Leftover D g
  pub kept : IsCleanLeft left → LeavesFiles files left

-- The file of a room that is opened, by its path: one that has to be there, one with a room of the
-- first version, or one that is made where it is not there.
pub data Place : Type 0 where
  there : List ℕ → Place
  old : List ℕ → Place
  fresh : List ℕ → Place

abbrev pub place_of : RoomFile → Place
place_of (Kept path) = there path.now
place_of (Old path) = old path.now
place_of (New path) = fresh path.now

-- no database was found in a file of the system
abbrev pub IsUnfound : Failure → Type 0
IsUnfound fault = (fault ≡ failure.File) ⊎ IsFileFault fault

module _ {D : Type 0} {g : Disk D} where
  -- The connection shows the database that these files hold, and each later read is tested.
  pub record IsFound (files : Files D) (conn : Held (FileStore D g)) : Type 0 where
    pub is_open : IsOpened conn
    pub finds : Finds files conn
    pub guarded : (file_state conn).IsShielded

  -- it shows that of some files
  abbrev pub IsConnected : Held (FileStore D g) → Type 0
  IsConnected conn = (files : Files D) × (HasCleanDisk (file_state conn) → IsFound files conn)

  -- the file was closed, and has all that was committed
  abbrev pub IsCopiedOut : Held (FileStore D g) → Type 0
  IsCopiedOut conn = (files : Files D) × (AreClean g files.log files.db → IsCopied conn files)

  -- The file could not be closed with all that was committed, for this: it is as the store left it.
  pub record IsUnclosed (conn : Held (FileStore D g)) (fault : Failure) : Type 0 where
    pub error : Error
    pub failed : fault ≡ fault_of error
    pub last : FileStore D g
    pub left : IsClosed conn last
    pub why : IsClean (view last) → FailsToClose conn last error

  -- what comes of work whose file is then closed: what came of it, and all in it that was committed;
  -- or the file could not be closed
  abbrev pub ClosesWith : {T : Type 0} → Held (FileStore D g) → Result T Failure
      → Result T Failure → Type 0
  ClosesWith closed worked came = ((came ≡ worked) × IsCopiedOut closed)
      ⊎ ((fault : Failure) × (came ≡ Err fault) × IsUnclosed closed fault)

  -- what comes of work once the file is closed behind it; or it could not be done, for this
  abbrev pub Closes : {T : Type 0} → Result (Result T Failure × Held (FileStore D g)) Failure
      → Result T Failure → Type 0
  Closes worked came = MatchResult worked (λ it. ClosesWith it.1 it.0 came) (λ fault. came ≡ Err fault)
