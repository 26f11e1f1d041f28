use Rattle.std.proofs.Common.{◌≡◌, map, take}
use Rattle.dispatch_room_board.specs.ToldReports.{with_report}
use Rattle.dispatch_room_board.proofs.told_reports.with_reports.Given as goal

abbrev pub invariant-loop-line : goal.invariant-loop-line
invariant-loop-line l = l.shown ≡ map (with_report l.reports) (take l.line-index l.lines)
