use Rattle.dispatch_room_tasks.proofs.ImportedLemmas.{imported_by}
use Rattle.dispatch_room_tasks.proofs.enrolment.enrol.Goals as goal

pub returns-in-Ok-imported-clause-imported : goal.returns-in-Ok-imported-clause-imported
returns-in-Ok-imported-clause-imported g c clean terminals held is =
    let made = c.in-Ok-imported.ensures.enrolled clean terminals held is in
    imported_by _ _ _ _ _ _ _ _ _ _ _ _ _ c.requires.rows c.new-fates.ensures.items c.as_slice.ensures.value made.0
    made.1 (c.in-Ok.ensures.text, c.in-Ok.ensures.done)
