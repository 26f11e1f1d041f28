use Rattle.std.proofs.Common.{sym}
use Rattle.std.proofs.lemmas.List.{append-nil, take_all}
use Rattle.dispatch_room_board.specs.ToldReports.{told_by}
use Rattle.dispatch_room_board.proofs.Exceptions.{mapped_more}
use Rattle.dispatch_room_board.proofs.told_reports.put_given.Goals as goal

pub loop-report-init : goal.loop-report-init
loop-report-init c = sym (append-nil _)

pub loop-report-preserved : goal.loop-report-preserved
loop-report-preserved c =
    mapped_more (told_by c.args.callsign.now) _ _ _ _ _ _ c.loop-report-test.true c.report-item.is
    c.loop-report.invariant c.in_ok-push.ensures.ok

pub returns : goal.returns
returns c = rw (take_all _ _ c.loop-report-test.false) at c.loop-report.invariant
