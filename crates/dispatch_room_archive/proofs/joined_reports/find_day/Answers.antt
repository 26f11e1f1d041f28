use Rattle.std.proofs.Common.{inl, inr}
use Rattle.std.proofs.lemmas.Result.{IfErr-weaker, IfOk-weaker}
use Rattle.sqlite.specs.Held.{state}
use Rattle.dispatch_room_archive.proofs.RenewalLemmas.{amount_of}
use Rattle.dispatch_room_archive.proofs.JoinedLemmas.{held_room}
use Rattle.dispatch_room_archive.proofs.joined_reports.find_day.Goals as goal

pub returns-in-Ok-clause-day : goal.returns-in-Ok-clause-day
returns-in-Ok-clause-day g c clean =
    let holds = held_room (state g.S.Store c.args.conn.now).now.trees c.in-Ok.whole c.in-Ok._summary
    (c.in-Ok.ensures.room clean) in
    IfOk-weaker c.day_of-found.result _ _ (λ day is. (holds, is)) c.day_of-found.ensures.day

pub returns-in-Ok-clause-fault : goal.returns-in-Ok-clause-fault
returns-in-Ok-clause-fault g c =
    IfErr-weaker c.day_of-found.result _ _ (λ failure why. record {
      released = c.read_room.new.conn;
      nothing = c.read_room.ensures.nothing;
      why = inr (record {
        plan = c.in-Ok.whole.config.plan;
        summary = c.in-Ok._summary;
        holds =
            λ clean.
            amount_of (state g.S.Store c.args.conn.now).now.trees c.in-Ok.whole c.in-Ok._summary
            (c.in-Ok.ensures.room clean);
        why = why;
      });
    }) c.day_of-found.ensures.fault

pub returns-in-Err-clause-fault : goal.returns-in-Err-clause-fault
returns-in-Err-clause-fault g c = record {
  released = c.read_room.new.conn;
  nothing = c.read_room.ensures.nothing;
  why =
      inl (record {
        wrong = c.in-Err.wrong;
        failed = c.failure_of.ensures;
        explains = c.in-Err.ensures.wrong;
        why = c.in-Err.ensures.why;
      });
}
