use Rattle.std.proofs.Common.{rules, sym}
use Rattle.room_place.proofs.ReferenceLaws.{place_in-read}
use Rattle.room_place.proofs.grid_references.place_in.Goals as goal

pub returns : goal.returns
returns c =
    sym (place_in-read c.args.half c.args.bytes.now c.in_ok-easting.easting.now c.in_ok-easting.rest.now
    c.after_gap-northing.result.now c.args.corner _ (search rules) (search rules) (search rules) (search rules)
    (search rules) (search rules) (search rules))
