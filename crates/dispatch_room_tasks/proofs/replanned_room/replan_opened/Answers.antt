use Rattle.dispatch_room_tasks.proofs.replanned_room.replan_opened.Goals as goal

pub returns-in-Ok-clause-replanned : goal.returns-in-Ok-clause-replanned
returns-in-Ok-clause-replanned g c clean = (c.in-Ok.ensures.ok clean, (c.in-Ok.ensures.settled clean).0)

pub returns-in-Err-clause-unchanged : goal.returns-in-Err-clause-unchanged
returns-in-Err-clause-unchanged g c clean =
    (c.in-Err.fault, c.failure_of.ensures, c.in-Err.ensures.why clean, c.in-Err.ensures.err clean)
