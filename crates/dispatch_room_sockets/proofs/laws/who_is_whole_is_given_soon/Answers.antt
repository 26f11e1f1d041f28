use Rattle.dispatch_room_sockets.proofs.TurnLaws.{given_soon}
use Rattle.dispatch_room_sockets.proofs.laws.who_is_whole_is_given_soon.Goals as goal

pub returns : goal.returns
returns g c = given_soon _
