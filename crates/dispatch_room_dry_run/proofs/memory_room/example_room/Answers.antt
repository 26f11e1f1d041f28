use Rattle.std.proofs.Common.{subst, List}
use Rattle.sqlite.proofs.Callers.{memory_is_clean}
use Rattle.sqlite.specs.Steps.{over_memory}
use Rattle.room_types.specs.declared.fleet.FleetRow.{FleetRow}
use Rattle.room_store_writes.specs.NewRoom.{in_order, new_room}
use Rattle.room_store.specs.FleetEnrolment.{room_after_rows, terminals_after_rows}
use Rattle.room_store.specs.StoredRoom.{IsRoom}
use Rattle.dispatch_room_dry_run.specs.Example.{example_plan, example_terminals}
use Rattle.dispatch_room_dry_run.proofs.EnrolLemmas.{stands_after_all}
use Rattle.dispatch_room_dry_run.proofs.memory_room.example_room.Goals as goal

pub returns-in-Ok-clause-room : goal.returns-in-Ok-clause-room
returns-in-Ok-clause-room c =
    let store = c.import.new.self in
    let done = c.in-Ok.ensures.enrolled (memory_is_clean store.conn) (in_order example_terminals)
    (new_room example_plan) c.in_ok-store.ensures.room in
    subst (λ (rows : List FleetRow).
    IsRoom over_memory store (terminals_after_rows rows (new_room example_plan) (in_order example_terminals))
    (room_after_rows rows (new_room example_plan) (in_order example_terminals)))
    c.fleet.ensures (stands_after_all _ store _ _ _ _ _ done.0 done.1)
