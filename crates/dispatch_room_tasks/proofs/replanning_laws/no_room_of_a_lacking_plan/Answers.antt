use Rattle.dispatch_room_tasks.proofs.ReplannedLemmas.{no_room}
use Rattle.dispatch_room_tasks.proofs.replanning_laws.no_room_of_a_lacking_plan.Goals as goal

pub returns : goal.returns
returns c = λ old new d was same lacks. no_room old new d was same lacks
