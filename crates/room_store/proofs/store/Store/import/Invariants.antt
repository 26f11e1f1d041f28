use Rattle.std.proofs.Common.{IsTrue, List, take, ◌++◌, ◌≡◌}
use Rattle.sqlite.specs.Held.{state}
use Rattle.sqlite.specs.State.{HasCleanDisk, Survives}
use Rattle.room_types.specs.declared.fleet.Terminal.{Terminal}
use Rattle.room_model.specs.Room.{Room}
use Rattle.room_model.specs.Fleets.{fates_of}
use Rattle.room_store.specs.FleetEnrolment.{MayBeEnrolled, room_after_rows, terminals_after_rows}
use Rattle.room_store.specs.StoredRoom.{IsKept, IsReady, IsRoom}
use Rattle.room_store.proofs.store.Store.import.Given as goal

abbrev pub invariant-loop-row : goal.invariant-loop-row
invariant-loop-row g l =
    let old = state g.S.Store l.fn.self.conn in
    let now = state g.S.Store l.self.conn in
    let first = take l.row-index l.rows in
    record {
      ready : IsReady g.S.Store l.self;
      plan : l.self.plan ≡ l.fn.self.plan;
      still_open : HasCleanDisk now → IsTrue old.is_open → IsTrue now.is_open;
      kept : HasCleanDisk now → IsKept g.S.Store l.fn.self → IsKept g.S.Store l.self;
      done : HasCleanDisk now → (terminals : List Terminal) (room : Room) → IsRoom g.S.Store l.fn.self terminals room
          → IsRoom g.S.Store l.self (terminals_after_rows first room terminals) (room_after_rows first room terminals)
          × (l.out.items ≡ l.fn.out.items ++ fates_of first room terminals);
      survives : Survives old now (MayBeEnrolled g.S.Store l.fn.self l.rows);
    }
