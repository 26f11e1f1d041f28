use Rattle.std.proofs.Common.{refl}
use Rattle.std.proofs.lemmas.Result.{IfOk-weaker}
use Rattle.dispatch_room_disk.proofs.WorkLemmas.{both, either_way, stops}
use Rattle.dispatch_room_commands.specs.RoomTasks.{LeavesRows}
use Rattle.dispatch_room_tcp.proofs.HostLemmas.{works}
use Rattle.dispatch_room_commands.proofs.renew.find_left.Goals as goal

pub returns-in_err-conn : goal.returns-in_err-conn
returns-in_err-conn g c printed =
    stops _ _ _ _ c.from_residual.result _ c.from_residual.ensures.1
    (λ fault is. rw is (c.in_err-conn.ensures.fault, c.in_err-conn.ensures.done, refl))

pub returns : goal.returns
returns g c printed =
    let came = c.left_in-left.ensures in
    let left = c.left_in-left.result in
    works (LeavesRows c.args.since.now)
    _ c.in_ok-conn.conn c.left_in-left.result _ c.in_ok-conn.ensures.connected c.in_ok-conn.ensures.done (
      either_way left _ _
          (IfOk-weaker left _ _ (λ worked is. (is.0, is.1.0, is.1.1))
          (both left _ _ came.found (both left _ _ came.left came.nothing)))
          came.fault,
      refl,
    )
    c.close.ensures.closes
    c.close.ensures.done
