use Rattle.std.proofs.Common.{arith}
use Rattle.std.proofs.lemmas.Result.{on_ok_weaker}
use Rattle.dispatch_room_tasks.proofs.ReplannedLemmas.{has_new_plan}
use Rattle.room_tables_schema.specs.FileConnections.{IsClean}
use Rattle.dispatch_room_tasks.proofs.replanned_room.replan_in.Goals as goal

pub returns-in-Ok-clause-replanned : goal.returns-in-Ok-clause-replanned
returns-in-Ok-clause-replanned g c =
    let opened = c.open_in.new.conn in
    let made = c.replan_opened-done.ensures in
    record {
      plan = c.in-Ok.plan;
      opened = opened;
      rows = c.in-Ok.ensures.kept;
      schema = c.in-Ok.ensures.schema;
      settled = c.in-Ok.ensures.settled;
      of_room = c.in-Ok.ensures.room;
      replanned = λ clean.
          let early : IsClean g.S.Store opened = omega (arith, made.survives.clean) in
          on_ok_weaker c.replan_opened-done.result
          (λ all. has_new_plan _ _ c.in-Ok.plan c.args.file.now _ (c.in-Ok.ensures.room early) all)
          (made.replanned clean);
      unchanged = made.unchanged;
      opening = c.open_in.ensures.survives;
      survives = made.survives;
    }

pub returns-in-Err-clause-fault : goal.returns-in-Err-clause-fault
returns-in-Err-clause-fault g c = record {
  fault = c.in-Err.fault;
  failed = c.of_opening.ensures;
  released = c.open_in.new.conn;
  left = c.in-Err.ensures.leaves;
  untouched = c.in-Err.ensures.untouched;
  version = c.in-Err.ensures.old_room;
  no_room = c.in-Err.ensures.no_room;
  why = c.in-Err.ensures.why;
  survives = c.open_in.ensures.survives;
}
