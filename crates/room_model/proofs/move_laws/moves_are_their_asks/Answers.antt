use Rattle.room_model.proofs.MoveLaws.{made_or_refused}
use Rattle.room_model.proofs.move_laws.moves_are_their_asks.Goals as goal

pub returns : goal.returns
returns g d ms at r = made_or_refused d at ms r
