-- Why terminals are not changed, and what a change of them makes of the tables.
use Rattle.std.specs.Prelude.{List, None, Option, Some, cond, ◌≡◌}
use Rattle.sqlite_trees.specs.Tree.{Trees}
use Rattle.room_place.specs.declared.plans.Area.{Area}
use Rattle.room_types.specs.Texts.{Token}
use Rattle.room_types.specs.declared.asks.Who.{Who}
use Rattle.room_types.specs.declared.asks.Who.TheVariants.{Crew, Desk, Position}
use Rattle.room_types.specs.declared.fleet.Terminal.{Terminal}
use Rattle.room_model.specs.Room.{Room}
use Rattle.room_tables_rows.specs.RoomsInTables.{Configuration, Stands}
use Rattle.room_tables_schema.specs.declared.database_faults.Fault.{Fault}
use Rattle.room_tables_schema.specs.declared.database_faults.Fault.TheVariants as fault
use Rattle.room_store_writes.specs.TerminalHolders.{has_terminal, has_token, may_have, terminals_by}
use Rattle.room_store_writes.specs.declared.change_faults.ChangeFault.{ChangeFault}
use Rattle.room_store_writes.specs.declared.change_faults.ChangeFault.TheVariants.{CrewsTerminal}
use Rattle.room_store_writes.specs.declared.change_faults.ChangeFault.TheVariants.{Memory}
use Rattle.room_store_writes.specs.declared.change_faults.ChangeFault.TheVariants.{NoDivision}
use Rattle.room_store_writes.specs.declared.change_faults.ChangeFault.TheVariants.{NoTerminal}
use Rattle.room_store_writes.specs.declared.change_faults.ChangeFault.TheVariants.{NoVehicle}
use Rattle.room_store_writes.specs.declared.change_faults.ChangeFault.TheVariants.{Storage}
use Rattle.room_store_writes.specs.declared.change_faults.ChangeFault.TheVariants.{TokenTaken}

-- how a failing machine is reported
abbrev pub change_fault_of : Fault → ChangeFault
change_fault_of fault.Memory = Memory
change_fault_of fault.Storage = Storage

-- the fault of a user who may have no terminal
abbrev pub unknown_fault : Who → ChangeFault
unknown_fault (Desk d) = NoDivision
unknown_fault (Position p) = NoVehicle
unknown_fault (Crew c) = NoVehicle

-- a token is given to a user who may have a terminal, and it is none's
abbrev pub fault_to_give : List Area → List Terminal → Who → Token → Option ChangeFault
fault_to_give areas ts who k =
    cond (may_have areas ts who) (cond (has_token k ts) (Some TokenTaken) None)
    (Some (unknown_fault who))

-- a terminal is taken from a desk or a position that has one; a vehicle's crew always has one
abbrev pub fault_to_take : List Terminal → Who → Option ChangeFault
fault_to_take ts (Desk d) = cond (has_terminal (Desk d) ts) None (Some NoTerminal)
fault_to_take ts (Position p) = cond (has_terminal (Position p) ts) None (Some NoTerminal)
fault_to_take ts (Crew c) = Some CrewsTerminal

-- why a user may not have only this token, or none
abbrev pub fault_in : List Area → List Terminal → Who → Option Token → Option ChangeFault
fault_in areas ts who (Some k) = fault_to_give areas ts who k
fault_in areas ts who None = fault_to_take ts who

-- the configuration once this user has only this token, or none
abbrev pub config_by : Who → Option Token → Configuration → Configuration
config_by who token config = record config { terminals = terminals_by who token config.terminals }

-- From the tables of a room in which nothing speaks against it came those of the room after.
abbrev pub Gives : List Area → Who → Option Token → Trees → Trees → Type 0
Gives areas who token from db = (config : Configuration) (room : Room) → Stands from config room
    → (fault_in areas config.terminals who token ≡ None)
    × Stands db (config_by who token config) room

-- why nothing was changed: in the room something speaks against it, or the machine fails
abbrev pub Explains : List Area → Who → Option Token → Trees → ChangeFault → Type 0
Explains areas who token from Memory = Unit {0}
Explains areas who token from Storage = Unit {0}
Explains areas who token from why = (config : Configuration) (room : Room) → Stands from config room
    → fault_in areas config.terminals who token ≡ Some why
