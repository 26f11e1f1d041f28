use Rattle.dispatch_room_sockets.proofs.PieceLaws.{joined_law}
use Rattle.dispatch_room_sockets.proofs.laws.pieces_are_joined.Goals as goal

pub returns : goal.returns
returns c = joined_law
