-- Why nothing was changed, as it is reported.
use Rattle.std.proofs.Common.{List, Option, Some, ◌≡◌}
use Rattle.sqlite_trees.specs.Tree.{Trees}
use Rattle.room_place.specs.declared.plans.Area.{Area}
use Rattle.room_types.specs.Texts.{Token}
use Rattle.room_types.specs.declared.asks.Who.{Who}
use Rattle.room_model.specs.Room.{Room}
use Rattle.room_tables_rows.specs.RoomsInTables.{Configuration, Stands}
use Rattle.room_store_writes.specs.TerminalChanges.{Explains, fault_in}
use Rattle.room_store_writes.specs.declared.change_faults.ChangeFault.{ChangeFault}
use Rattle.room_store_writes.specs.declared.change_faults.ChangeFault.TheVariants.{CrewsTerminal}
use Rattle.room_store_writes.specs.declared.change_faults.ChangeFault.TheVariants.{Memory}
use Rattle.room_store_writes.specs.declared.change_faults.ChangeFault.TheVariants.{NoDivision}
use Rattle.room_store_writes.specs.declared.change_faults.ChangeFault.TheVariants.{NoTerminal}
use Rattle.room_store_writes.specs.declared.change_faults.ChangeFault.TheVariants.{NoVehicle}
use Rattle.room_store_writes.specs.declared.change_faults.ChangeFault.TheVariants.{Storage}
use Rattle.room_store_writes.specs.declared.change_faults.ChangeFault.TheVariants.{TokenTaken}

pub explained : (areas : List Area) (who : Who) (token : Option Token) (from : Trees)
    (fault : ChangeFault)
    → ((config : Configuration) (room : Room) → Stands from config room
    → fault_in areas config.terminals who token ≡ Some fault)
    → Explains areas who token from fault
explained areas who token from Memory h = tt
explained areas who token from Storage h = tt
explained areas who token from NoDivision h = h
explained areas who token from NoVehicle h = h
explained areas who token from NoTerminal h = h
explained areas who token from CrewsTerminal h = h
explained areas who token from TokenTaken h = h
