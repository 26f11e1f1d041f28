use Rattle.std.proofs.Common.{Err, IfOk, Ok, Result, refl}
use Rattle.room_http_time.specs.Days.{zone_of}
use Rattle.room_tables_schema.specs.FileConnections.{IsClean}
use Rattle.dispatch_room_archive.proofs.times_report.report_in.Goals as goal

-- what is done is more than was asked of it
more_of : {A E : Type 0} {P Q : A → Type 0} (done : Result A E) → ((a : A) → P a → Q a) → IfOk done P → IfOk done Q
more_of (Ok a) more is = more a is
more_of (Err e) more is = tt

pub returns-clause-reported : goal.returns-clause-reported
returns-clause-reported g c =
    let room = c.in_ok-room.room in
    let closed = c.report_of-report.new.room in
    let stated = c.report_of-report.ensures in
    rw c.close.ensures (λ (clean : IsClean g.S.Store closed.conn).
    let opened = c.in_ok-room.ensures.room (stated.clean clean) in
    record {
      opened = room;
      closed = closed;
      conn = refl;
      terminals = opened.0;
      room = opened.1;
      is = opened.2;
      still = stated.same clean opened.0 opened.1 opened.2.is;
      zone = zone_of c.in_ok-room.zone;
      of_plan = c.in_ok-room.ensures.zone;
      report = more_of c.report_of-report.result (λ _ is. is opened.0 opened.1 opened.2.is) (stated.report clean);
      fault = stated.fault;
    })
