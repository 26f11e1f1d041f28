use Rattle.dispatch_room_serving.proofs.StartLaws.{serving_is_a_start_law}
use Rattle.dispatch_room_serving.proofs.laws.what_is_served_is_a_start.Goals as goal

pub returns : goal.returns
returns g c = serving_is_a_start_law g.S.Store
