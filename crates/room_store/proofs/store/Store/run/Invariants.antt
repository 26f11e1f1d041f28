use Rattle.std.proofs.Common.{IsTrue, List, take, ◌++◌, ◌≡◌}
use Rattle.sqlite.specs.Held.{state}
use Rattle.sqlite.specs.State.{HasCleanDisk, Survives}
use Rattle.room_types.specs.declared.fleet.Terminal.{Terminal}
use Rattle.room_model.specs.Events.{AreAddressed}
use Rattle.room_model.specs.Room.{Room}
use Rattle.room_model.specs.Run.{answers, room_run}
use Rattle.room_store.specs.EventRuns.{MayBeRun}
use Rattle.room_store.specs.StoredRoom.{IsKept, IsReady, IsRoom}
use Rattle.room_store.proofs.store.Store.run.Given as goal

abbrev pub invariant-loop-event : goal.invariant-loop-event
invariant-loop-event g l =
    let old = state g.S.Store l.fn.self.conn in
    let now = state g.S.Store l.self.conn in
    let first = take l.event-index l.events in
    record {
      ready : IsReady g.S.Store l.self;
      plan : l.self.plan ≡ l.fn.self.plan;
      known : l.self.terminals ≡ l.fn.self.terminals;
      still_open : HasCleanDisk now → IsTrue old.is_open → IsTrue now.is_open;
      kept : HasCleanDisk now → IsKept g.S.Store l.fn.self → IsKept g.S.Store l.self;
      done : HasCleanDisk now → (terminals : List Terminal) (room : Room) → IsRoom g.S.Store l.fn.self terminals room
          → AreAddressed l.events room
          → IsRoom g.S.Store l.self terminals (room_run first room)
          × (l.out.items ≡ l.fn.out.items ++ answers first room);
      survives : Survives old now (MayBeRun g.S.Store l.fn.self l.events);
    }
