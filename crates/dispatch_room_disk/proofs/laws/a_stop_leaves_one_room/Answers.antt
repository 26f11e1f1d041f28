use Rattle.dispatch_room_disk.proofs.StopLemmas.{stopped}
use Rattle.dispatch_room_disk.proofs.laws.a_stop_leaves_one_room.Goals as goal

pub returns : goal.returns
returns c = λ from path found old now run. (stopped from path found old now run).place
