use Rattle.room_model.proofs.Questions.{question_stays}
use Rattle.room_model.proofs.repeat_laws.a_question_changes_nothing.Goals as goal

pub returns : goal.returns
returns g e r h = question_stays e r h
