-- A room that gets another plan: of which plans it may, and what it is then.
use Rattle.std.specs.Prelude.{IfErr, List, None, OnOk, Option, Result, Some, cond, filter_map, find}
use Rattle.std.specs.Prelude.{length, not, option_map, ℕ, ◌&&◌, ◌≡◌}
use Rattle.sqlite.specs.Held.{Held, state}
use Rattle.sqlite.specs.State.{Survives}
use Rattle.sqlite_trees.specs.Tree.{Trees}
use Rattle.sqlite_trees.specs.declared.store.Store.{Ghosts}
use Rattle.room_place.specs.Plans.{Layout, has_division, is_division}
use Rattle.room_place.specs.declared.plans.Area.{Area}
use Rattle.room_types.specs.declared.changes.Change.{Change}
use Rattle.room_types.specs.declared.changes.Change.TheVariants.{PutDivision}
use Rattle.room_types.specs.declared.fleet.Terminal.{Terminal}
use Rattle.room_model.specs.FleetRows.{AreTerminals}
use Rattle.room_model.specs.Room.{Room, apply}
use Rattle.room_model.specs.RoomAgreements.{IsWellFormed}
use Rattle.room_tables_rows.specs.RoomsInTables.{Configuration, Stands}
use Rattle.room_store_check_tables.specs.HeldRooms.{IsPlanOf}
use Rattle.room_store_file.specs.OpenedFile.{KeepsFile, MayBeIndexed}
use Rattle.room_store_writes.specs.Configurations.{config_of}
use Rattle.room_store_writes.specs.NewRoom.{new_division}
use Rattle.room_store_writes.specs.Transactions.{IsSettled, Leaves, StandsSettled}
use Rattle.dispatch_room_exit.specs.declared.exit_status.Failure.{Failure}
use Rattle.dispatch_room_exit.specs.declared.exit_status.Failure.TheVariants as failure
use Rattle.dispatch_room_csv.specs.declared.plan_file.PlanFile.{PlanFile}
use Rattle.dispatch_room_tasks.specs.ReplacedTerminals as terminals
use Rattle.dispatch_room_tasks.specs.ReplacedTerminals.{AreFree, ExplainsRow, replaced_by}
use Rattle.dispatch_room_tasks.specs.declared.replanning_faults.ReplanFault.{ReplanFault}
use Rattle.dispatch_room_tasks.specs.declared.replanning_faults.ReplanFault.TheVariants.{Division}
use Rattle.dispatch_room_tasks.specs.declared.replanning_faults.ReplanFault.TheVariants.{Terminals}
use Rattle.room_tables_schema.specs.FileConnections.{HasRoomSchema, IsClean}

-- ---- of which plans it may
-- The division of the first area of the old plan that the new plan has no area of. Each division of
-- the old plan has its row, and vehicles, points, turns and reports are of divisions that have one,
-- so the room's rows agree with the new plan exactly where there is none.
abbrev pub first_lacking : List Area → List Area → Option ℕ
first_lacking old new =
    option_map (λ a. a.division) (find (λ a. not (has_division new a.division)) old)

-- ---- what it is then
-- the row of an area's division that the old plan hadn't: it has had no incident
abbrev pub addition : List Area → Area → Option Change
addition old a =
    cond (is_division a.division && not (has_division old a.division))
    (Some (PutDivision (new_division a.division))) None

-- the rows of the divisions that are new
abbrev pub additions : List Area → List Area → List Change
additions old new = filter_map (addition old) new

-- the room with these areas: divisions that are new have their rows, and all other rows stay
abbrev pub replanned : List Area → Room → Room
replanned new r = record (apply r (additions r.plan new)) { plan = new }

-- From the tables of a room of the old plan, which agrees with the new one, came those of the room
-- with the new plan and its terminals.
abbrev pub Replans : List Area → PlanFile → Trees → Trees → Type 0
Replans old file from db = (config : Configuration) (room : Room) → Stands from config room
    → room.plan ≡ old
    → (first_lacking old file.plan.areas ≡ None)
    × AreFree file.plan.areas config.terminals file.terminals.items (length file.terminals.items)
    × Stands db (config_of file.plan (replaced_by file.terminals.items config.terminals))
    (replanned file.plan.areas room)

-- ---- why it doesn't get it
-- how the program reports it
abbrev pub failure_of : ReplanFault → Failure
failure_of (Division d) = failure.Division
failure_of (Terminals fault) = terminals.failure_of fault

-- the new plan lacks a division, or a terminal is refused, or the machine fails
abbrev pub ExplainsPlan : List Area → PlanFile → Trees → ReplanFault → Type 0
ExplainsPlan old file from (Division d) = first_lacking old file.plan.areas ≡ Some d
ExplainsPlan old file from (Terminals fault) =
    ExplainsRow file.plan.areas file.terminals.items from fault

-- ---- in a file
-- The tables stood for this well-formed room with these terminals, and stand for the room with the
-- new plan, which is well-formed, with its terminals, which fit it.
pub record HasNewPlan (before after : Trees) (plan : Layout) (file : PlanFile)
    (terminals : List Terminal) (room : Room) : Type 0 where
  pub formed : IsWellFormed room
  pub planned : room.plan ≡ plan.areas
  pub fitted : AreTerminals room terminals
  pub stood : Stands before (config_of plan terminals) room
  pub agrees : first_lacking room.plan file.plan.areas ≡ None
  pub none_refused : AreFree file.plan.areas terminals file.terminals.items
      (length file.terminals.items)
  pub still_formed : IsWellFormed (replanned file.plan.areas room)
  pub fit : AreTerminals (replanned file.plan.areas room)
      (replaced_by file.terminals.items terminals)
  pub stands : Stands after (config_of file.plan (replaced_by file.terminals.items terminals))
      (replanned file.plan.areas room)

-- The file of a database was opened, which keeps all of its rows. Then its room got the plan of a
-- file, and this is committed, or nothing was changed, for this. What a stop may leave is the file
-- as it was, or as it is afterwards.
pub record HasReplanned {S : Type 0} (g : Ghosts S) (old new : Held S) (file : PlanFile)
    (done : Result (Unit {0}) Failure) : Type 0 where
  pub plan : Layout
  pub opened : Held S
  pub rows : IsClean g opened → KeepsFile (state g old) (state g opened)
  pub schema : HasRoomSchema g opened
  pub settled : StandsSettled g opened
  pub of_room : IsClean g opened → IsPlanOf (state g opened).now.trees plan
  pub replanned : IsClean g new
      → OnOk done ((terminals : List Terminal) × (room : Room)
      × HasNewPlan (state g opened).now.trees (state g new).now.trees plan file terminals room
      × IsSettled (state g new))
  pub unchanged : IsClean g new
      → IfErr done (λ failure. (fault : ReplanFault) × (failure ≡ failure_of fault)
      × ExplainsPlan plan.areas file (state g opened).now.trees fault
      × Leaves (state g opened) (state g new))
  pub opening : Survives (state g old) (state g opened) (MayBeIndexed (state g old).now)
  pub survives : Survives (state g opened) (state g new)
      (Replans plan.areas file (state g opened).now.trees)
