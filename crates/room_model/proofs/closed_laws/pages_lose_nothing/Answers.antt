use Rattle.room_model.proofs.ClosedLaws.{loses_nothing}
use Rattle.room_model.proofs.closed_laws.pages_lose_nothing.Goals as goal

pub returns : goal.returns
returns g d from to x n r order = loses_nothing d from to x n r order
