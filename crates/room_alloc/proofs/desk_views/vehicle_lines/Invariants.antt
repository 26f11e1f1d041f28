use Rattle.std.proofs.Common.{◌≡◌, ◌++◌, drop, map}
use Rattle.room_model.specs.Vehicles.{vehicle_line}
use Rattle.room_model.specs.RoomSlices.{unplanned}
use Rattle.room_alloc.proofs.desk_views.vehicle_lines.Given as goal

abbrev pub invariant-loop-vehicle : goal.invariant-loop-vehicle
invariant-loop-vehicle l =
    let line = vehicle_line l.slice.division (unplanned l.slice.rows) in
    l.lines ++ map line (drop l.vehicle-index l.vehicles) ≡ map line l.vehicles
