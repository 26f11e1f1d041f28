use Rattle.std.proofs.Common.{◌≡◌, take, string_bytes}
use Rattle.dispatch_room_csv.specs.DayReport.{report_of}
use Rattle.dispatch_room_csv.proofs.day_report.day_report.Given as goal

abbrev pub invariant-loop-line : goal.invariant-loop-line
invariant-loop-line l = string_bytes l.report ≡ report_of (take l.line-index l.times.lines)
