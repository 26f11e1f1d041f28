use Rattle.room_http.proofs.LawLemmas.{one_course_law}
use Rattle.room_http.proofs.laws.one_course.Goals as goal

pub returns : goal.returns
returns c setting terminals room after outs answers xs replies run is =
    one_course_law setting terminals room after outs answers xs replies run.answered is
