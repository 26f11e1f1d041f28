-- What the enrolment of fleet rows makes of the tables, and of a store.
use Rattle.std.specs.Prelude.{IsTrue, List, length, take, ℕ, ◌+◌, ◌++◌, ◌≡◌, ◌≤◌, ◌⊎◌}
use Rattle.sqlite.specs.Held.{state}
use Rattle.sqlite_trees.specs.Tree.{Trees}
use Rattle.sqlite_trees.specs.declared.store.Store.{Ghosts}
use Rattle.room_place.specs.Plans.{Layout}
use Rattle.room_types.specs.declared.fleet.FleetRow.{FleetRow}
use Rattle.room_types.specs.declared.fleet.RowFate.{RowFate}
use Rattle.room_types.specs.declared.fleet.Terminal.{Terminal}
use Rattle.room_model.specs.FleetRows.{fate_of}
use Rattle.room_model.specs.Fleets.{enrolled, fates_of}
use Rattle.room_model.specs.Room.{Room}
use Rattle.room_tables.specs.RoomsInTables.{Configuration, Stands}
use Rattle.room_store.specs.StoredRoom.{IsKept, IsRoom}
use Rattle.room_store_writes.specs.Configurations.{config_of}
use Rattle.room_store.specs.declared.store.Store.{Store}

-- The tables stand for this configuration and for this room, which is of the plan.
pub record StandsInPlan (trees : Trees) (layout : Layout) (config : Configuration)
    (room : Room) : Type 0 where
  pub stands : Stands trees config room
  pub plan : room.plan ≡ layout.areas

-- what becomes of a row in this configuration and room
abbrev pub fate_in : FleetRow → Configuration → Room → RowFate
fate_in row config room = fate_of room config.terminals row

-- the room after these rows
abbrev pub room_after_rows : List FleetRow → Room → List Terminal → Room
room_after_rows rows room terminals = (enrolled rows room terminals).0

-- its terminals after these rows
abbrev pub terminals_after_rows : List FleetRow → Room → List Terminal → List Terminal
terminals_after_rows rows room terminals = (enrolled rows room terminals).1

-- the tables stand for the room and the terminals after so many of the rows
abbrev pub StandsAfterRows : Trees → Layout → List FleetRow → List Terminal → Room → ℕ → Type 0
StandsAfterRows trees layout rows terminals room count =
    Stands trees (config_of layout (terminals_after_rows (take count rows) room terminals))
    (room_after_rows (take count rows) room terminals)

-- So many of the rows, the first ones, were enrolled: their fates were added, and the store stands
-- for the room and the terminals after them. Where what it held was kept, a stop leaves what is
-- there after these rows, or after one more.
pub record HasEnrolled {S : Type 0} (g : Ghosts S) (old new : Store S) (rows : List FleetRow)
    (was is : List RowFate) (terminals : List Terminal) (room : Room) : Type 0 where
  pub count : ℕ
  pub within : count ≤ length rows
  pub added : is ≡ was ++ fates_of (take count rows) room terminals
  pub stands : IsRoom g new (terminals_after_rows (take count rows) room terminals)
      (room_after_rows (take count rows) room terminals)
  pub left : IsKept g old → (db : Trees) → (state g new.conn).may_leave db
      → StandsAfterRows db old.plan rows terminals room count
      ⊎ StandsAfterRows db old.plan rows terminals room (count + 1)

-- What a stop may leave of an enrolment, beside what it could before: the room and the terminals
-- after some of the rows, the first ones.
abbrev pub MayBeEnrolled : {S : Type 0} → Ghosts S → Store S → List FleetRow → Trees → Type 0
MayBeEnrolled g old rows trees = IsTrue (state g old.conn).is_open
    → (terminals : List Terminal) (room : Room) → IsRoom g old terminals room
    → (count : ℕ) × StandsAfterRows trees old.plan rows terminals room count
