use Rattle.std.proofs.Common.{◌≡◌, drop}
use Rattle.dispatch_room_board.specs.ToldReports.{report_of}
use Rattle.dispatch_room_board.proofs.told_reports.report_of.Given as goal

abbrev pub invariant-loop-told : goal.invariant-loop-told
invariant-loop-told l =
    report_of l.callsign l.number l.reports ≡ report_of l.callsign l.number (drop l.told-index l.reports)
