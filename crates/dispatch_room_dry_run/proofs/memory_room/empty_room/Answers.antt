use Rattle.std.proofs.Common.{subst, List}
use Rattle.sqlite.proofs.Callers.{memory_is_clean}
use Rattle.sqlite.specs.Steps.{over_memory}
use Rattle.room_model.specs.Room.{Room}
use Rattle.room_types.specs.declared.fleet.Terminal.{Terminal}
use Rattle.room_store_writes.specs.NewRoom.{in_order, new_room}
use Rattle.room_store.specs.StoredRoom.{IsRoom}
use Rattle.dispatch_room_dry_run.specs.Example.{example_plan}
use Rattle.dispatch_room_dry_run.proofs.ExampleLemmas.{same_new_room}
use Rattle.dispatch_room_dry_run.proofs.memory_room.empty_room.Goals as goal

pub returns-in-Ok-create-clause-room : goal.returns-in-Ok-create-clause-room
returns-in-Ok-create-clause-room c =
    let store = c.in-Ok-create.store in
    let is = c.in-Ok-create.ensures.room (memory_is_clean store.conn) in
    subst (λ (ts : List Terminal). IsRoom over_memory store (in_order ts) (new_room example_plan)) c.terminals.ensures
    (subst (λ (room : Room). IsRoom over_memory store (in_order c.terminals.result) room)
    (same_new_room c.in-Ok.plan example_plan c.in-Ok.ensures.0) is)
