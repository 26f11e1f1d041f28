use Rattle.dispatch_room_serving.proofs.LifeLaws.{life_is_one_list}
use Rattle.dispatch_room_serving.proofs.laws.a_life_is_one_list.Goals as goal

pub returns : goal.returns
returns g c = life_is_one_list g.S.Store g.met.S.Store.settled
