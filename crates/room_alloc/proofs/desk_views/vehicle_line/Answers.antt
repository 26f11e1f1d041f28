use Rattle.std.proofs.Common.{[], rules}
use Rattle.room_model.proofs.SliceLookUps.{assignment_is}
use Rattle.room_alloc.proofs.desk_views.vehicle_line.Goals as goal

pub returns : goal.returns
returns c =
    rw (assignment_is c.args.slice.now.division [] c.args.slice.now.rows c.args.slice.now.agrees
    c.args.vehicle.now.callsign) (search rules)
