use Rattle.std.proofs.Common.{arith, ◌≡◌}
use Rattle.std.proofs.lemmas.Grind.{common_steps}
use Rattle.std.specs.Prelude.{filter, ◌&&◌, ◌==◌}
use Rattle.room_types.specs.Keys.{same_callsign}
use Rattle.room_types.specs.declared.tables.Report.{Report}
use Rattle.room_model.specs.Queries.{reports_of}
use Rattle.room_queue.proofs.vehicle_reports.reports_of.Goals as goal

pub returns-clause-ok : goal.returns-clause-ok
unfolding reports_of
returns-clause-ok c plan =
    let slice = c.args.slice.now in
    let all : c.loop-report.reports
    ≡ filter (λ (x : Report). x.division == slice.division && same_callsign c.args.callsign.now x.callsign)
    slice.rows.reports = grind (arith, common_steps) in
    all
