use Rattle.dispatch_room_archive.proofs.LeftBehind.{left_successor}
use Rattle.dispatch_room_archive.proofs.laws.what_is_left_is_over.Goals as goal

pub returns : goal.returns
returns g = left_successor
