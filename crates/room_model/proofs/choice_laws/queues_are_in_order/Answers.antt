use Rattle.room_model.proofs.QueueLaws.{ordered_queue}
use Rattle.room_model.proofs.choice_laws.queues_are_in_order.Goals as goal

pub returns : goal.returns
returns g entries = ordered_queue entries
