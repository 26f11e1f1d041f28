use Rattle.std.proofs.Common.{◌≡◌, ◌++◌, map, take}
use Rattle.dispatch_room_board.specs.ToldReports.{told_by}
use Rattle.dispatch_room_board.proofs.told_reports.put_given.Given as goal

abbrev pub invariant-loop-report : goal.invariant-loop-report
invariant-loop-report l = l.reports ≡ l.initial.reports ++ map (told_by l.callsign) (take l.report-index l.given)
