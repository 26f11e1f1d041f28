use Rattle.room_model.proofs.ClosedLaws.{found_there, there_found}
use Rattle.room_model.proofs.closed_laws.what_is_found_is_shown.Goals as goal

pub returns : goal.returns
returns g d from to x i r order = (found_there d r from to x i order, there_found d r from to x i order)
