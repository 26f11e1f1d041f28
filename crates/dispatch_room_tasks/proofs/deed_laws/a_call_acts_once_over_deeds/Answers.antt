use Rattle.dispatch_room_tasks.proofs.DeedLaws.{call_once_over}
use Rattle.dispatch_room_tasks.proofs.deed_laws.a_call_acts_once_over_deeds.Goals as goal

pub returns : goal.returns
returns c = λ p f at later deeds now sound kept. call_once_over p f at later deeds now sound kept
