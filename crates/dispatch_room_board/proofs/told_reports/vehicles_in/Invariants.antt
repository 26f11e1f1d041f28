use Rattle.std.proofs.Common.{◌≡◌, [], drop}
use Rattle.dispatch_room_board.specs.ToldReports.{with_vehicles}
use Rattle.dispatch_room_board.proofs.told_reports.vehicles_in.Given as goal

abbrev pub invariant-loop-line : goal.invariant-loop-line
invariant-loop-line l = with_vehicles l.vehicles (drop l.line-index l.lines) ≡ with_vehicles [] l.lines
