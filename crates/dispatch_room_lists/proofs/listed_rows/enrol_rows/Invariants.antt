use Rattle.std.proofs.Common.{List, take}
use Rattle.room_types.specs.declared.fleet.Terminal.{Terminal}
use Rattle.room_model.specs.Room.{Room}
use Rattle.room_store.specs.FleetEnrolment.{room_after_rows, terminals_after_rows}
use Rattle.room_store.specs.StoredRoom.{IsRoom}
use Rattle.dispatch_room_lists.specs.StoodRooms.{GoesOn, digits_in}
use Rattle.dispatch_room_lists.proofs.DueLemmas.{IsUnmet}
use Rattle.room_tables_schema.specs.FileConnections.{IsClean}
use Rattle.dispatch_room_lists.proofs.listed_rows.enrol_rows.Given as goal

abbrev pub invariant-loop-row : goal.invariant-loop-row
invariant-loop-row g l =
    let first = take l.row-index l.rows in
    record {
      goes : GoesOn g.S.Store l.fn.room l.room;
      done : IsClean g.S.Store l.room.conn → (terminals : List Terminal) (room : Room)
          → IsRoom g.S.Store l.fn.room terminals room
          → IsUnmet (digits_in l.fn.room) l.head l.rows terminals room l.row-index l.is_changed
          × IsRoom g.S.Store l.room (terminals_after_rows first room terminals) (room_after_rows first room terminals);
    }
