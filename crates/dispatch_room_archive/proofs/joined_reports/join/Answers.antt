use Rattle.std.proofs.Common.{inl, inr}
use Rattle.std.proofs.lemmas.Result.{IfErr-weaker, IfOk-weaker}
use Rattle.sqlite.specs.Held.{state}
use Rattle.dispatch_room_archive.proofs.JoinedLemmas.{held_room}
use Rattle.dispatch_room_archive.proofs.joined_reports.join.Goals as goal

pub returns-in-Ok-clause-report : goal.returns-in-Ok-clause-report
returns-in-Ok-clause-report g c clean =
    let holds = held_room (state g.S.Store c.args.conn.now).now.trees c.in-Ok.whole c.in-Ok._summary
    (c.in-Ok.ensures.room clean) in
    IfOk-weaker c.joined_report-report.result _ _ (λ report is. (holds, is holds.formed.order.incidents))
    c.joined_report-report.ensures.report

pub returns-in-Ok-clause-fault : goal.returns-in-Ok-clause-fault
returns-in-Ok-clause-fault g c =
    IfErr-weaker c.joined_report-report.result _ _ (λ failure memory. record {
      released = c.read_room.new.conn;
      nothing = c.read_room.ensures.nothing;
      why = inr memory;
    }) c.joined_report-report.ensures.memory

pub returns-in-Err-clause-fault : goal.returns-in-Err-clause-fault
returns-in-Err-clause-fault g c = record {
  released = c.read_room.new.conn;
  nothing = c.read_room.ensures.nothing;
  why =
      inl (record {
        wrong = c.in-Err.wrong;
        failed = c.failure_of.ensures;
        explains = c.in-Err.ensures.wrong;
        why = c.in-Err.ensures.why;
      });
}
