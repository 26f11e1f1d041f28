-- The terminals of one desk, position or crew that were changed.
use Rattle.std.specs.Prelude.{IfErr, List, None, OnOk, Option, Result, ◌≡◌}
use Rattle.sqlite.specs.Held.{Held, state}
use Rattle.sqlite.specs.State.{Survives}
use Rattle.sqlite_trees.specs.Tree.{Trees}
use Rattle.sqlite_trees.specs.declared.store.Store.{Ghosts}
use Rattle.room_place.specs.Plans.{Layout}
use Rattle.room_types.specs.Texts.{Token}
use Rattle.room_types.specs.declared.asks.Who.{Who}
use Rattle.room_types.specs.declared.fleet.Terminal.{Terminal}
use Rattle.room_model.specs.FleetRows.{AreTerminals}
use Rattle.room_model.specs.Room.{Room}
use Rattle.room_model.specs.RoomAgreements.{IsWellFormed}
use Rattle.room_tables.specs.RoomsInTables.{Stands}
use Rattle.room_store_writes.specs.Configurations.{config_of}
use Rattle.room_store_writes.specs.Transactions.{IsSettled, Leaves, StandsSettled}
use Rattle.room_store_check_tables.specs.HeldRooms.{IsPlanOf}
use Rattle.room_store_file.specs.OpenedFile.{KeepsFile, MayBeIndexed}
use Rattle.room_store_writes.specs.TerminalChanges.{Explains, Gives, fault_in}
use Rattle.room_store_writes.specs.TerminalHolders.{terminals_by}
use Rattle.room_store_writes.specs.declared.change_faults.ChangeFault.{ChangeFault}
use Rattle.room_store_writes.specs.declared.change_faults.ChangeFault.TheVariants as why
use Rattle.dispatch_room_exit.specs.declared.exit_status.Failure.{Failure}
use Rattle.dispatch_room_exit.specs.declared.exit_status.Failure.TheVariants.{Division, Input}
use Rattle.dispatch_room_exit.specs.declared.exit_status.Failure.TheVariants.{Memory, Storage}
use Rattle.room_tables_schema.specs.FileConnections.{HasRoomSchema, IsClean}

-- how the program reports why terminals were not changed
abbrev pub failure_of : ChangeFault → Failure
failure_of why.NoDivision = Division
failure_of why.Memory = Memory
failure_of why.Storage = Storage
failure_of other = Input

-- The tables stood for this well-formed room with these terminals, in which nothing spoke against
-- the change, and stand for the same room with the terminals after it, which fit it.
pub record IsSameRoom (before after : Trees) (plan : Layout) (who : Who) (token : Option Token)
    (terminals : List Terminal) (room : Room) : Type 0 where
  pub formed : IsWellFormed room
  pub planned : room.plan ≡ plan.areas
  pub fitted : AreTerminals room terminals
  pub stood : Stands before (config_of plan terminals) room
  pub nothing_against : fault_in room.plan terminals who token ≡ None
  pub fit : AreTerminals room (terminals_by who token terminals)
  pub stands : Stands after (config_of plan (terminals_by who token terminals)) room

-- The file of a database was opened, which keeps all of its rows. Then who got only this token, or
-- none, and this is committed, or nothing was changed, for this. What a stop may leave is the file
-- as it was, or as it is afterwards.
pub record HasChanged {S : Type 0} (g : Ghosts S) (old new : Held S) (who : Who)
    (token : Option Token) (done : Result (Unit {0}) Failure) : Type 0 where
  pub plan : Layout
  pub opened : Held S
  pub rows : IsClean g opened → KeepsFile (state g old) (state g opened)
  pub schema : HasRoomSchema g opened
  pub settled : StandsSettled g opened
  pub of_room : IsClean g opened → IsPlanOf (state g opened).now.trees plan
  pub changed : IsClean g new
      → OnOk done ((terminals : List Terminal) × (room : Room)
      × IsSameRoom (state g opened).now.trees (state g new).now.trees plan who token terminals room
      × IsSettled (state g new))
  pub unchanged : IsClean g new
      → IfErr done (λ failure. (fault : ChangeFault) × (failure ≡ failure_of fault)
      × Explains plan.areas who token (state g opened).now.trees fault
      × Leaves (state g opened) (state g new))
  pub opening : Survives (state g old) (state g opened) (MayBeIndexed (state g old).now)
  pub survives : Survives (state g opened) (state g new)
      (Gives plan.areas who token (state g opened).now.trees)
