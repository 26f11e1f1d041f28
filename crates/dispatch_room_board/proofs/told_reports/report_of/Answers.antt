use Rattle.std.proofs.Common.{◌∙◌, ap, sym}
use Rattle.std.proofs.lemmas.List.{drop_all}
use Rattle.dispatch_room_board.specs.ToldReports.{report_of}
use Rattle.dispatch_room_board.proofs.Exceptions.{report_found, report_missed}
use Rattle.dispatch_room_board.proofs.told_reports.report_of.Goals as goal

pub returns-then-is_report : goal.returns-then-is_report
returns-then-is_report c =
    sym (c.loop-told.invariant
    ∙ report_found _ _ _ _ _ c.loop-told-test.true c.told-item.is (sym c.if-is_report.ensures))

pub loop-told-preserved : goal.loop-told-preserved
loop-told-preserved c =
    c.loop-told.invariant
    ∙ report_missed _ _ _ _ _ c.loop-told-test.true c.told-item.is (sym c.if-is_report.ensures)

pub returns : goal.returns
returns c =
    sym (c.loop-told.invariant
    ∙ ap (report_of c.args.callsign.now c.args.number) (drop_all _ _ c.loop-told-test.false))
