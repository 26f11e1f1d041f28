-- How a program ends.
use Rattle.std.specs.Prelude.{ℕ, Result, Ok, Err}
use Rattle.room_types.specs.declared.refusal_statuses.Refusal.{Refusal}
use Rattle.room_types.specs.declared.refusal_statuses.Refusal.TheVariants as refusal
use Rattle.dispatch_room_exit.specs.declared.exit_status.Done.{Done}
use Rattle.dispatch_room_exit.specs.declared.exit_status.Done.TheVariants.{Whole, InPart}
use Rattle.dispatch_room_exit.specs.declared.exit_status.Failure.{Failure}
use Rattle.dispatch_room_exit.specs.declared.exit_status.Failure.TheVariants.{PlanRow, Input, File}
use Rattle.dispatch_room_exit.specs.declared.exit_status.Failure.TheVariants.{Version, Division}
use Rattle.dispatch_room_exit.specs.declared.exit_status.Failure.TheVariants.{Day, Record}
use Rattle.dispatch_room_exit.specs.declared.exit_status.Failure.TheVariants.{OtherRoom, Differs}
use Rattle.dispatch_room_exit.specs.declared.exit_status.Failure.TheVariants.{Connection, Storage}
use Rattle.dispatch_room_exit.specs.declared.exit_status.Failure.TheVariants.{Network, Memory}
use Rattle.dispatch_room_exit.specs.declared.exit_status.Failure.TheVariants.{Journal}

-- the exit status of a command that was done
abbrev pub status_done : Done → ℕ
status_done Whole = 0
status_done InPart = 1

-- the exit status of each fault
abbrev pub status_of : Failure → ℕ
status_of (PlanRow _) = 1
status_of Input = 1
status_of File = 1
status_of Version = 1
status_of Division = 1
status_of Day = 1
status_of (Record _) = 1
status_of (OtherRoom _) = 1
status_of (Differs _) = 1
status_of Connection = 1
status_of Storage = 3
status_of Network = 4
status_of Memory = 5
status_of Journal = 6

-- the exit status of a program, by what it did
abbrev pub status_after : Result Done Failure → ℕ
status_after (Ok done) = status_done done
status_after (Err fault) = status_of fault

-- a store refuses for memory or for storage
abbrev pub refused : Refusal → Failure
refused refusal.Memory = Memory
refused _ = Storage
