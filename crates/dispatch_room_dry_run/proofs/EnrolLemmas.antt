-- A fleet of which every row was enrolled.
use Rattle.std.proofs.Common.{◌≡◌, arith, length, List, subst, take_all}
use Rattle.sqlite.specs.Steps.{over_memory}
use Rattle.sqlite_trees.specs.declared.memory.MemStore.{MemStore}
use Rattle.room_types.specs.declared.fleet.FleetRow.{FleetRow}
use Rattle.room_types.specs.declared.fleet.RowFate.{RowFate}
use Rattle.room_types.specs.declared.fleet.Terminal.{Terminal}
use Rattle.room_model.specs.Room.{Room}
use Rattle.room_store.specs.FleetEnrolment.{HasEnrolled, room_after_rows, terminals_after_rows}
use Rattle.room_store.specs.StoredRoom.{IsRoom}
use Rattle.room_store.specs.declared.store.Store.{Store}

-- the store stands for the room after all rows
pub stands_after_all : (old store : Store MemStore) (rows : List FleetRow) (was is : List RowFate)
    (terminals : List Terminal) (room : Room)
    → (done : HasEnrolled over_memory old store rows was is terminals room)
    → done.count ≡ length rows
    → IsRoom over_memory store (terminals_after_rows rows room terminals)
    (room_after_rows rows room terminals)
stands_after_all old store rows was is terminals room done all =
    subst (λ (some : List FleetRow).
    IsRoom over_memory store (terminals_after_rows some room terminals) (room_after_rows some room terminals))
    (take_all done.count rows (omega (arith, all))) done.stands
