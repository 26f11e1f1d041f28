use Rattle.room_model.proofs.RefusedAgain.{outside_still}
use Rattle.room_model.proofs.repeat_laws.a_call_from_outside_stays_refused.Goals as goal

pub returns : goal.returns
returns g p f at later r es order answered = outside_still p f at r es order answered later
