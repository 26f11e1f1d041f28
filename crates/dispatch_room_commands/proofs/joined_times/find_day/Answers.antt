use Rattle.std.proofs.Common.{refl}
use Rattle.std.proofs.lemmas.Result.{IfOk-weaker}
use Rattle.dispatch_room_disk.proofs.WorkLemmas.{both, either_way, stops}
use Rattle.dispatch_room_commands.specs.RoomTasks.{FindsDay}
use Rattle.dispatch_room_tcp.proofs.HostLemmas.{works}
use Rattle.dispatch_room_commands.proofs.joined_times.find_day.Goals as goal

pub returns-in_err-conn : goal.returns-in_err-conn
returns-in_err-conn g c printed =
    stops _ _ _ _ c.from_residual.result _ c.from_residual.ensures.1
    (λ fault is. rw is (c.in_err-conn.ensures.fault, c.in_err-conn.ensures.done, refl))

pub returns : goal.returns
returns g c printed =
    let came = c.day_in-found.ensures in
    let found = c.day_in-found.result in
    works (FindsDay c.args.division c.args.day.now)
    _ c.in_ok-conn.conn c.day_in-found.result _ c.in_ok-conn.ensures.connected c.in_ok-conn.ensures.done (
      either_way found _ _
          (IfOk-weaker found _ _ (λ worked is. (is.0, is.1.0, is.1.1))
          (both found _ _ came.found (both found _ _ came.day came.nothing)))
          came.fault,
      refl,
    )
    c.close.ensures.closes
    c.close.ensures.done
