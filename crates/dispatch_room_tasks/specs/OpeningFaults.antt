-- What a fault of the store is to the program.
use Rattle.room_store.specs.declared.store_creation.CreateFault.{CreateFault}
use Rattle.room_store.specs.declared.store_creation.CreateFault.TheVariants as create
use Rattle.room_store_file.specs.declared.opened_file.OpenFault.{OpenFault}
use Rattle.room_store_file.specs.declared.opened_file.OpenFault.TheVariants as opening
use Rattle.dispatch_room_exit.specs.declared.exit_status.Failure.{Failure}
use Rattle.dispatch_room_exit.specs.declared.exit_status.Failure.TheVariants.{File, Input, Memory}
use Rattle.dispatch_room_exit.specs.declared.exit_status.Failure.TheVariants.{Storage, Version}

-- where a room is created; a plan that was read has sound terminals
abbrev pub create_fault : CreateFault → Failure
create_fault create.NotEmpty = File
create_fault create.BadTerminal = Input
create_fault create.Memory = Memory
create_fault create.Storage = Storage

-- where a file is opened, or moved to this version
abbrev pub open_fault : OpenFault → Failure
open_fault opening.OtherVersion = Version
open_fault opening.NotARoom = File
open_fault opening.Memory = Memory
open_fault opening.Storage = Storage
