use Rattle.room_laws.proofs.UrgentQueues.{urgent_first}
use Rattle.room_laws.proofs.urgency_laws.a_queue_is_urgent_first.Goals as goal

pub returns : goal.returns
returns g d at room queue is = urgent_first d at room queue is
