use Rattle.room_laws.proofs.UrgentQueues.{desk_sees}
use Rattle.room_laws.proofs.urgency_laws.a_desk_sees_the_most_urgent_first.Goals as goal

pub returns : goal.returns
returns g d at room = desk_sees d at room
