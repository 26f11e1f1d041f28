use Rattle.std.proofs.Common.{drop, ◌++◌, ◌≡◌}
use Rattle.std.specs.Prelude.{filter, ◌&&◌, ◌==◌}
use Rattle.room_types.specs.Keys.{same_callsign}
use Rattle.room_types.specs.declared.tables.Report.{Report}
use Rattle.room_queue.proofs.vehicle_reports.reports_of.Given as goal

abbrev pub invariant-loop-report : goal.invariant-loop-report
invariant-loop-report l =
    l.reports
    ++ filter (λ (x : Report). x.division == l.slice.division && same_callsign l.callsign x.callsign)
    (drop l.report-index l.slice.rows.reports)
    ≡ filter (λ (x : Report). x.division == l.slice.division && same_callsign l.callsign x.callsign)
    l.slice.rows.reports
