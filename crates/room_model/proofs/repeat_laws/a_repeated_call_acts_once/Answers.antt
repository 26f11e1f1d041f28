use Rattle.room_model.proofs.RepeatLaws.{call_repeated}
use Rattle.room_model.proofs.repeat_laws.a_repeated_call_acts_once.Goals as goal

pub returns : goal.returns
returns g p f at later r es order ok = call_repeated p f at r es order ok later
