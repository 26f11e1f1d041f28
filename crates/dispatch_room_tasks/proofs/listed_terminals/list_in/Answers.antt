use Rattle.std.proofs.Common.{arith}
use Rattle.std.proofs.lemmas.Result.{on_ok_weaker}
use Rattle.room_store_writes.specs.Configurations.{config_of}
use Rattle.room_tables_schema.specs.FileConnections.{IsClean}
use Rattle.dispatch_room_tasks.proofs.listed_terminals.list_in.Goals as goal

pub returns-in-Ok-clause-listed : goal.returns-in-Ok-clause-listed
returns-in-Ok-clause-listed g c =
    let opened = c.open_in.new.conn in
    let made = c.list_opened-done.ensures in
    record {
      plan = c.in-Ok._plan;
      opened = opened;
      rows = c.in-Ok.ensures.kept;
      whole = made.whole;
      fault = made.fault;
      printed = λ clean.
          let early : IsClean g.S.Store opened = omega (arith, made.survives.clean) in
          let it = c.in-Ok.ensures.room early in
          on_ok_weaker c.list_opened-done.result
          (λ stated. (it.0, it.1, it.3, it.5, stated (config_of c.in-Ok._plan it.0) it.1 it.5)) (made.printed clean);
      left = made.leaves;
      opening = c.open_in.ensures.survives;
      survives = made.survives;
    }

pub returns-in-Err-clause-fault : goal.returns-in-Err-clause-fault
returns-in-Err-clause-fault g c = record {
  fault = c.in-Err.fault;
  failed = c.of_opening.ensures;
  released = c.open_in.new.conn;
  left = c.in-Err.ensures.leaves;
  untouched = c.in-Err.ensures.untouched;
  version = c.in-Err.ensures.old_room;
  no_room = c.in-Err.ensures.no_room;
  why = c.in-Err.ensures.why;
  survives = c.open_in.ensures.survives;
}
