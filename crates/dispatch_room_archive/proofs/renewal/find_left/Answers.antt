use Rattle.std.proofs.Common.{inl, inr}
use Rattle.std.proofs.lemmas.Result.{IfErr-weaker}
use Rattle.sqlite.specs.Held.{state}
use Rattle.dispatch_room_archive.proofs.RenewalLemmas.{amount_of, if_left_by}
use Rattle.dispatch_room_archive.proofs.renewal.find_left.Goals as goal

pub returns-in-Ok-clause-left : goal.returns-in-Ok-clause-left
returns-in-Ok-clause-left g c clean =
    if_left_by c.left_of.result (state g.S.Store c.args.conn.now).now.trees c.args.day.now c.in-Ok.whole c.in-Ok.summary
    (c.in-Ok.ensures.room clean) c.left_of.ensures.config c.left_of.ensures.since

pub returns-in-Ok-clause-fault : goal.returns-in-Ok-clause-fault
returns-in-Ok-clause-fault g c =
    IfErr-weaker c.left_of.result _ _ (λ failure why. record {
      released = c.read_room.new.conn;
      nothing = c.read_room.ensures.nothing;
      why = inr (record {
        plan = c.in-Ok.whole.config.plan;
        summary = c.in-Ok.summary;
        holds =
            λ clean.
            amount_of (state g.S.Store c.args.conn.now).now.trees c.in-Ok.whole c.in-Ok.summary
            (c.in-Ok.ensures.room clean);
        why = why;
      });
    }) c.left_of.ensures.fault

pub returns-in-Err-clause-fault : goal.returns-in-Err-clause-fault
returns-in-Err-clause-fault g c = record {
  released = c.read_room.new.conn;
  nothing = c.read_room.ensures.nothing;
  why =
      inl (record {
        wrong = c.in-Err.wrong;
        failed = c.failure_of.ensures;
        explains = c.in-Err.ensures.wrong;
        why = c.in-Err.ensures.why;
      });
}
