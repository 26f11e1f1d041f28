use Rattle.std.proofs.Common.{sym, ◌∙◌}
use Rattle.room_fleet.proofs.ReportLaws.{asked_so, decided_so}
use Rattle.room_fleet.proofs.reports.take_report.Goals as goal

pub returns-clause-holder : goal.returns-clause-holder
returns-clause-holder c r rows =
    sym (decided_so c.args.slice.now.rows r c.args.press.now c.args.at rows)
    ∙ c.put.ensures c.args.press.now c.args.at c.report-after.ensures.rows

pub returns-clause-crew : goal.returns-clause-crew
returns-clause-crew c r formed rows new =
    sym (asked_so _ r c.args.slice.now.rows c.args.press.now c.args.at formed rows new)
    ∙ c.put.ensures c.args.press.now c.args.at c.report-after.ensures.rows
