use Rattle.std.proofs.Common.{Err, Ok, refl}
use Rattle.dispatch_room_disk.proofs.WorkLemmas.{either_way, stops}
use Rattle.dispatch_room_commands.specs.RoomTasks.{Reports}
use Rattle.dispatch_room_tcp.proofs.HostLemmas.{works}
use Rattle.dispatch_room_commands.proofs.times.times.Goals as goal

pub returns-in_err-conn : goal.returns-in_err-conn
returns-in_err-conn g c =
    stops _ _ _ _ c.from_residual.result _ c.from_residual.ensures.1
    (λ fault is. record {
      between = record { printed = _; done = _ };
      found = Err fault;
      is = rw is (c.in_err-conn.ensures.fault, c.in_err-conn.ensures.done, refl);
      rest = (refl, refl);
    })

pub returns-in_err-report : goal.returns-in_err-report
returns-in_err-report g c =
    let said = c.report_in-reported.ensures in
    stops _ _ _ _ c.from_residual-in_err-report.result _ c.from_residual-in_err-report.ensures.1
    (λ fault is. rw is
    (works (Reports c.args.division c.args.day.now)
    _ c.in_ok-conn.conn c.report_in-reported.result _ c.in_ok-conn.ensures.connected c.in_ok-conn.ensures.done
    (either_way c.report_in-reported.result _ _ said.reported said.fault, refl)
    c.in_err-report.ensures.closes
    c.in_err-report.ensures.done))

pub returns : goal.returns
returns g c =
    let said = c.report_in-reported.ensures in
    record {
      between = record { printed = _; done = _ };
      found = Ok _;
      is = works (Reports c.args.division c.args.day.now)
          _ c.in_ok-conn.conn c.report_in-reported.result _ c.in_ok-conn.ensures.connected
          c.in_ok-conn.ensures.done
          (either_way c.report_in-reported.result _ _ said.reported said.fault, refl)
          c.in_ok-report.ensures.closes
          c.in_ok-report.ensures.done;
      rest = (rw c.as_slice.ensures.value at c.print.ensures, refl);
    }
