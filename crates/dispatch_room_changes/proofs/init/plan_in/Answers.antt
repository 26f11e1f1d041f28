use Rattle.dispatch_room_changes.proofs.init.plan_in.Goals as goal

pub returns-in-Err-clause-none : goal.returns-in-Err-clause-none
returns-in-Err-clause-none c = (c.in-Err.fault, c.in-Err.ensures.fault, c.from.ensures)
