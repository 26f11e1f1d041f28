use Rattle.dispatch_room_serving.proofs.ReplayLaws.{list_is_replayed_law}
use Rattle.dispatch_room_serving.proofs.laws.the_list_is_replayed.Goals as goal

pub returns : goal.returns
returns g c = list_is_replayed_law g.S.Store g.T.Store
