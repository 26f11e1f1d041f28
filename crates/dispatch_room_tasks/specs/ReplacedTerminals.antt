-- The terminals of all that a list names, replaced by those that it gives.
use Rattle.std.specs.List.{list_any}
use Rattle.std.specs.Prelude.{Bool, IfErr, List, None, OnOk, Option, Result, Some, [], cond, false}
use Rattle.std.specs.Prelude.{filter, length, not, slice_index_or, take, ℕ, ◌&&◌, ◌<◌, ◌||◌, ◌≡◌}
use Rattle.sqlite.specs.Held.{Held, state}
use Rattle.sqlite.specs.State.{Survives}
use Rattle.sqlite_trees.specs.Tree.{Trees}
use Rattle.sqlite_trees.specs.declared.store.Store.{Ghosts}
use Rattle.room_place.specs.Plans.{Layout}
use Rattle.room_place.specs.declared.plans.Area.{Area}
use Rattle.room_types.specs.Texts.{Token}
use Rattle.room_types.specs.declared.asks.Who.{Who}
use Rattle.room_types.specs.declared.asks.Who.TheVariants.{Crew, Desk, Position}
use Rattle.room_types.specs.declared.fleet.Terminal.{Terminal}
use Rattle.room_model.specs.FleetRows.{AreTerminals}
use Rattle.room_model.specs.Room.{Room}
use Rattle.room_model.specs.RoomAgreements.{IsWellFormed}
use Rattle.room_tables_rows.specs.RoomsInTables.{Configuration, Stands}
use Rattle.room_tables_schema.specs.declared.database_faults.Fault.{Fault}
use Rattle.room_tables_schema.specs.declared.database_faults.Fault.TheVariants as fault
use Rattle.room_store_check_tables.specs.HeldRooms.{IsPlanOf}
use Rattle.room_store_file.specs.OpenedFile.{KeepsFile, MayBeIndexed}
use Rattle.room_store_writes.specs.Configurations.{config_of}
use Rattle.room_store_writes.specs.NewRoom.{put_all}
use Rattle.room_store_writes.specs.TerminalHolders.{has_token, is_token_of, may_have, same_who}
use Rattle.room_store_writes.specs.Transactions.{IsSettled, Leaves, StandsSettled}
use Rattle.dispatch_room_exit.specs.declared.exit_status.Failure.{Failure}
use Rattle.dispatch_room_exit.specs.declared.exit_status.Failure.TheVariants as failure
use Rattle.dispatch_room_tasks.specs.declared.replacement_faults.ReplaceFault.{ReplaceFault}
use Rattle.dispatch_room_tasks.specs.declared.replacement_faults.ReplaceFault.TheVariants.{Memory}
use Rattle.dispatch_room_tasks.specs.declared.replacement_faults.ReplaceFault.TheVariants.{Row}
use Rattle.dispatch_room_tasks.specs.declared.replacement_faults.ReplaceFault.TheVariants.{Storage}
use Rattle.dispatch_room_tasks.specs.declared.replacement_faults.RowFault.{RowFault}
use Rattle.dispatch_room_tasks.specs.declared.replacement_faults.RowFault.TheVariants.{NoDivision}
use Rattle.dispatch_room_tasks.specs.declared.replacement_faults.RowFault.TheVariants.{NoVehicle}
use Rattle.dispatch_room_tasks.specs.declared.replacement_faults.RowFault.TheVariants.{SecondToken}
use Rattle.dispatch_room_tasks.specs.declared.replacement_faults.RowFault.TheVariants.{TokenTaken}
use Rattle.room_tables_schema.specs.FileConnections.{HasRoomSchema, IsClean}

-- how a failing machine is reported
abbrev pub lack_of : Fault → ReplaceFault
lack_of fault.Memory = Memory
lack_of fault.Storage = Storage

-- how the program reports why terminals were not replaced
abbrev pub failure_of : ReplaceFault → Failure
failure_of (Row at NoDivision) = failure.Division
failure_of (Row at other) = failure.Input
failure_of Memory = failure.Memory
failure_of Storage = failure.Storage

-- ---- the terminals afterwards
-- a list names a user
abbrev pub is_listed : List Terminal → Who → Bool
is_listed listed who = list_any (λ t. same_who t.who who) listed

-- the terminals of those that a list doesn't name, which stay
abbrev pub kept_beside : List Terminal → List Terminal → List Terminal
kept_beside listed ts = filter (λ t. not (is_listed listed t.who)) ts

-- the terminals once whoever a list names has those that it gives, and no others
abbrev pub replaced_by : List Terminal → List Terminal → List Terminal
replaced_by listed ts = put_all (kept_beside listed ts) listed

-- ---- which row is refused
-- a terminal that stays has the token
abbrev pub is_kept : List Terminal → List Terminal → Token → Bool
is_kept listed ts k = list_any (λ t. is_token_of k t && not (is_listed listed t.who)) ts

-- a crew that these name
abbrev pub is_second : List Terminal → Who → Bool
is_second earlier (Desk d) = false
is_second earlier (Position p) = false
is_second earlier (Crew c) = is_listed earlier (Crew c)

-- why a user may have no terminal
abbrev pub unknown_fault : Who → RowFault
unknown_fault (Desk d) = NoDivision
unknown_fault (Position p) = NoVehicle
unknown_fault (Crew c) = NoVehicle

-- Why a row is refused beside the rows before it: a user who may have no terminal, a terminal that
-- stays or a row before has the token, or a row before gives the crew one.
abbrev pub row_fault : List Area → List Terminal → List Terminal → List Terminal → Terminal
    → Option RowFault
row_fault areas ts listed earlier t =
    cond (may_have areas ts t.who)
    (cond (is_kept listed ts t.token || has_token t.token earlier) (Some TokenTaken)
    (cond (is_second earlier t.who) (Some SecondToken) None)) (Some (unknown_fault t.who))

-- stands where a list has no row
abbrev pub no_row : Terminal
no_row = record { token = []; who = Desk 0 }

-- why the row at a place is refused; places are counted from 0
abbrev pub fault_at : List Area → List Terminal → List Terminal → ℕ → Option RowFault
fault_at areas ts listed at =
    row_fault areas ts listed (take at listed) (slice_index_or listed at no_row)

-- no row before the place is refused
abbrev pub AreFree : List Area → List Terminal → List Terminal → ℕ → Type 0
AreFree areas ts listed n = (at : ℕ) → at < n → fault_at areas ts listed at ≡ None

-- the first row that is refused, and why
pub record IsFirstFault (areas : List Area) (ts listed : List Terminal) (at : ℕ) (why : RowFault)
    : Type 0 where
  pub there : at < length listed
  pub refused : fault_at areas ts listed at ≡ Some why
  pub earlier : AreFree areas ts listed at

-- ---- the tables afterwards
-- the configuration once the terminals of all that a list names are replaced
abbrev pub config_replaced : List Terminal → Configuration → Configuration
config_replaced listed config =
    record config { terminals = replaced_by listed config.terminals }

-- From the tables of a room in which no row is refused came those of the room after.
abbrev pub Replaces : List Area → List Terminal → Trees → Trees → Type 0
Replaces areas listed from db = (config : Configuration) (room : Room) → Stands from config room
    → AreFree areas config.terminals listed (length listed)
    × Stands db (config_replaced listed config) room

-- why nothing was replaced: in the room a row is refused, or the machine fails
abbrev pub ExplainsRow : List Area → List Terminal → Trees → ReplaceFault → Type 0
ExplainsRow areas listed from Memory = Unit {0}
ExplainsRow areas listed from Storage = Unit {0}
ExplainsRow areas listed from (Row at why) = (config : Configuration) (room : Room)
    → Stands from config room → IsFirstFault areas config.terminals listed at why

-- The tables stood for this well-formed room with these terminals, in which no row is refused, and
-- stand for the same room with the terminals after, which fit it.
pub record KeepsRoom (before after : Trees) (plan : Layout) (listed terminals : List Terminal)
    (room : Room) : Type 0 where
  pub formed : IsWellFormed room
  pub planned : room.plan ≡ plan.areas
  pub fitted : AreTerminals room terminals
  pub stood : Stands before (config_of plan terminals) room
  pub none_refused : AreFree room.plan terminals listed (length listed)
  pub fit : AreTerminals room (replaced_by listed terminals)
  pub stands : Stands after (config_of plan (replaced_by listed terminals)) room

-- The file of a database was opened, which keeps all of its rows. Then the terminals of all that a
-- list names were replaced, and this is committed, or nothing was changed, for this. What a stop
-- may leave is the file as it was, or as it is afterwards.
pub record HasReplaced {S : Type 0} (g : Ghosts S) (old new : Held S) (listed : List Terminal)
    (done : Result (Unit {0}) Failure) : Type 0 where
  pub plan : Layout
  pub opened : Held S
  pub rows : IsClean g opened → KeepsFile (state g old) (state g opened)
  pub schema : HasRoomSchema g opened
  pub settled : StandsSettled g opened
  pub of_room : IsClean g opened → IsPlanOf (state g opened).now.trees plan
  pub replaced : IsClean g new
      → OnOk done ((terminals : List Terminal) × (room : Room)
      × KeepsRoom (state g opened).now.trees (state g new).now.trees plan listed terminals room
      × IsSettled (state g new))
  pub unchanged : IsClean g new
      → IfErr done (λ failure. (fault : ReplaceFault) × (failure ≡ failure_of fault)
      × ExplainsRow plan.areas listed (state g opened).now.trees fault
      × Leaves (state g opened) (state g new))
  pub opening : Survives (state g old) (state g opened) (MayBeIndexed (state g old).now)
  pub survives : Survives (state g opened) (state g new)
      (Replaces plan.areas listed (state g opened).now.trees)
