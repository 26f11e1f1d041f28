use Rattle.dispatch_room_serving.proofs.ListLaws.{list_is_the_room_law}
use Rattle.dispatch_room_serving.proofs.laws.the_list_is_the_room_over_all_starts.Goals as goal

pub returns : goal.returns
returns g c = list_is_the_room_law g.S.Store
