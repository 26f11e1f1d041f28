use Rattle.dispatch_room_tasks.proofs.changed_terminals.change_opened.Goals as goal

pub returns-in-Ok-clause-changed : goal.returns-in-Ok-clause-changed
returns-in-Ok-clause-changed g c clean = (c.in-Ok.ensures.ok clean, (c.in-Ok.ensures.settled clean).0)

pub returns-in-Err-clause-unchanged : goal.returns-in-Err-clause-unchanged
returns-in-Err-clause-unchanged g c clean =
    (c.in-Err.fault, c.failure_of.ensures, c.in-Err.ensures.why clean, c.in-Err.ensures.err clean)
