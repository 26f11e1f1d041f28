use Rattle.std.proofs.Common.{refl}
use Rattle.dispatch_room_disk.proofs.WorkLemmas.{both, either_way, failed_so, stops}
use Rattle.dispatch_room_commands.specs.RoomTasks.{Begins}
use Rattle.dispatch_room_tcp.proofs.HostLemmas.{works}
use Rattle.dispatch_room_commands.proofs.renew.begin.Goals as goal

pub returns-in_err-conn : goal.returns-in_err-conn
returns-in_err-conn g c =
    stops _ _ _ _ c.from_residual.result _ c.from_residual.ensures.1
    (λ fault is. rw is (c.in_err-conn.ensures.fault, c.in_err-conn.ensures.done, refl))

pub returns : goal.returns
returns g c =
    let came = c.begin_in-begun.ensures in
    let begun = c.begin_in-begun.result in
    works (Begins c.args.left.now)
    _ c.in_ok-conn.conn c.begin_in-begun.result _ c.in_ok-conn.ensures.connected c.in_ok-conn.ensures.done
    (either_way begun _ _ (both begun _ _ came.begun came.printed)
    (failed_so begun _ _ came.fault came.unprinted))
    c.close.ensures.closes
    c.close.ensures.done
