use Rattle.room_model.proofs.OwnChanges.{own_apply_own}
use Rattle.room_model.proofs.isolation_laws.shares_follow.Goals as goal

pub returns : goal.returns
returns g d r changes w plain = own_apply_own d r changes w plain
