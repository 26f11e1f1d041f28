-- What the faults of a room's file are to the program.
use Rattle.std.specs.Prelude.{Err, Ok, Result, ◌⊎◌, ◌≡◌, ◌≢◌}
use Rattle.std.specs.IoError.{error_kind}
use Rattle.std.specs.declared.io.ErrorKind.{ErrorKind}
use Rattle.std.specs.declared.io.ErrorKind.TheVariants as io
use Rattle.sqlite_pages.specs.declared.error.Error.{Error as PageError}
use Rattle.sqlite_pages.specs.declared.error.Error.TheVariants as page
use Rattle.sqlite_std_file.specs.declared.pair.OpenError.{OpenError}
use Rattle.sqlite_std_file.specs.declared.pair.OpenError.TheVariants as opening
use Rattle.dispatch_room_exit.specs.declared.exit_status.Failure.{Failure}
use Rattle.dispatch_room_exit.specs.declared.exit_status.Failure.TheVariants.{File, Memory, Storage}
use Rattle.sqlite.specs.declared.error.Error.{Error}
use Rattle.sqlite.specs.declared.error.Error.TheVariants.{SqliteFailure}
use Rattle.sqlite.specs.declared.error.ErrorCode.TheVariants.{OutOfMemory}

-- the failure for an error of the database: lack of memory, or else that the file failed
abbrev pub fault_of : Error → Failure
fault_of (SqliteFailure OutOfMemory) = Memory
fault_of other = Storage

-- a database's file fails for memory or for storage
abbrev pub IsFileFault : Failure → Type 0
IsFileFault fault = (fault ≡ Memory) ⊎ (fault ≡ Storage)

-- the failure for an error of the system: lack of memory, or else that the file failed
pub record IsFaultBy (kind : ErrorKind) (fault : Failure) : Type 0 where
  pub memory : kind ≡ io.OutOfMemory → fault ≡ Memory
  pub storage : kind ≢ io.OutOfMemory → fault ≡ Storage

-- the failure for a file that can't be looked at: it is not there, or else as for any error
pub record IsUnfoundBy (kind : ErrorKind) (fault : Failure) : Type 0 where
  pub missing : kind ≡ io.NotFound → fault ≡ File
  pub there : kind ≢ io.NotFound → IsFaultBy kind fault

-- why files can't be opened: for memory, by the system's error, or else the files are at fault
abbrev pub IsUnopenedBy : OpenError → Failure → Type 0
IsUnopenedBy opening.OutOfMemory fault = fault ≡ Memory
IsUnopenedBy (opening.Io error) fault = IsFaultBy (error_kind error) fault
IsUnopenedBy other fault = fault ≡ Storage

-- what came of beginning a database: one that is there already is no failure
abbrev pub begun_by : Result (Unit {0}) PageError → Result (Unit {0}) Failure
begun_by (Ok done) = Ok done
begun_by (Err page.Corrupt) = Ok tt
begun_by (Err page.OutOfMemory) = Err Memory
begun_by (Err other) = Err Storage
