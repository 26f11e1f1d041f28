use Rattle.dispatch_room_serving.proofs.ChangeLaws.{questions_change_nothing_law}
use Rattle.dispatch_room_serving.proofs.laws.questions_change_nothing.Goals as goal

pub returns : goal.returns
returns c = questions_change_nothing_law
