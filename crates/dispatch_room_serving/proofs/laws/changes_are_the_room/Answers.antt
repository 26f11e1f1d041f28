use Rattle.dispatch_room_serving.proofs.ChangeLaws.{changes_are_the_room_law}
use Rattle.dispatch_room_serving.proofs.laws.changes_are_the_room.Goals as goal

pub returns : goal.returns
returns c = changes_are_the_room_law
