use Rattle.dispatch_room_disk.proofs.StopLemmas.{all_stopped}
use Rattle.dispatch_room_disk.proofs.laws.restores_keep_rooms.Goals as goal

pub returns : goal.returns
returns c = all_stopped
