use Rattle.std.proofs.Common.{[], ap, ◌∙◌, ◌∷◌, ◌++◌}
use Rattle.std.proofs.lemmas.List.{take_all}
use Rattle.dispatch_room_board.specs.ToldReports.{with_report}
use Rattle.dispatch_room_board.proofs.Exceptions.{mapped_more}
use Rattle.dispatch_room_board.proofs.told_reports.with_reports.Goals as goal

pub loop-line-preserved : goal.loop-line-preserved
loop-line-preserved c =
    mapped_more (with_report c.args.reports.now) [] _ _ _ _ _ c.loop-line-test.true c.line-item.is
    c.loop-line.invariant
    (c.in_ok-push.ensures.ok ∙ ap (λ x. c.loop-line.shown ++ x ∷ []) c.with_report.ensures)

pub returns : goal.returns
returns c = rw (take_all _ _ c.loop-line-test.false) at c.loop-line.invariant
