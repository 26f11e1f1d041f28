use Rattle.std.proofs.Common.{sym}
use Rattle.std.proofs.lemmas.List.{append-nil}
use Rattle.room_store.proofs.MoveCourses.{comes_as}
use Rattle.room_store.proofs.move_decisions.Course.make_if.Goals as goal

pub returns-in-None-clause-made : goal.returns-in-None-clause-made
returns-in-None-clause-made c done room before =
    rw c.in-None.is (comes_as _ _ (sym (append-nil done)) before)
