use Rattle.std.proofs.Common.{arith, refl}
use Rattle.room_tables_schema.specs.FileConnections.{IsClean}
use Rattle.dispatch_room_tasks.proofs.enrolment.enrol_in.Goals as goal

pub returns-clause-imported : goal.returns-clause-imported
returns-clause-imported g c =
    let room = c.in_ok-room.room in
    let closed = c.enrol-done.new.room in
    rw c.close.ensures (λ (clean : IsClean g.S.Store closed.conn).
    let early : IsClean g.S.Store room.conn = omega (arith, c.enrol-done.ensures.survives.clean) in
    let opened = c.in_ok-room.ensures.room early in
    record {
      opened = room;
      closed = closed;
      conn = refl;
      plan = c.enrol-done.ensures.plan;
      terminals = opened.0;
      room = opened.1;
      is = opened.2;
      imported = c.enrol-done.ensures.imported clean opened.0 opened.1 opened.2.is;
    })
