use Rattle.std.proofs.Common.{rules}
use Rattle.room_place.proofs.PlaceLaws.{distance_is_root, in_squares}
use Rattle.room_place.proofs.Roots.{one_root}
use Rattle.room_place.proofs.distances.distance.Goals as goal

pub returns-clause-value : goal.returns-clause-value
returns-clause-value c =
    one_root _ _ _ (search rules) (distance_is_root c.args.a c.args.b
    (in_squares c.args.a (search rules) (search rules) (search rules) (search rules))
    (in_squares c.args.b (search rules) (search rules) (search rules) (search rules)))
