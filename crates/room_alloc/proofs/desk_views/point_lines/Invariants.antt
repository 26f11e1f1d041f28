use Rattle.std.proofs.Common.{◌≡◌, ◌++◌, drop, map}
use Rattle.room_model.specs.Points.{point_line}
use Rattle.room_model.specs.RoomSlices.{unplanned}
use Rattle.room_alloc.proofs.desk_views.point_lines.Given as goal

abbrev pub invariant-loop-point : goal.invariant-loop-point
invariant-loop-point l =
    let line = point_line l.slice.division l.at (unplanned l.slice.rows) in
    l.lines ++ map line (drop l.point-index l.points) ≡ map line l.points
