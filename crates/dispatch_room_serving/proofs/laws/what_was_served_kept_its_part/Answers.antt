use Rattle.dispatch_room_serving.proofs.ListLaws.{served_keeps_its_part_law}
use Rattle.dispatch_room_serving.proofs.laws.what_was_served_kept_its_part.Goals as goal

pub returns : goal.returns
returns g c = served_keeps_its_part_law g.S.Store
