use Rattle.dispatch_room_tasks.proofs.CreatedLemmas.{created_in}
use Rattle.dispatch_room_tasks.proofs.creation.create_in.Goals as goal

pub returns-in-Ok-clause-created : goal.returns-in-Ok-clause-created
returns-in-Ok-clause-created g c =
    let made = c.in-Ok.ensures in
    rw c.close.ensures
    (created_in g.S.Store c.args.conn c.in-Ok.room c.args.plan.now c.as_slice.result.now c.as_slice.ensures.value
    made.same_plan.1 made.room made.settled made.begun made.survives)

pub returns-clause-fault : goal.returns-clause-fault
returns-clause-fault g c =
    (c.in-Err.fault, (rw c.as_slice.ensures.value at c.in-Err.ensures.why), c.of_creating.ensures)
