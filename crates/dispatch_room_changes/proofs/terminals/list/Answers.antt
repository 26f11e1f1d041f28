use Rattle.std.proofs.Common.{refl}
use Rattle.dispatch_room_disk.proofs.WorkLemmas.{either_way, failed_so, stops}
use Rattle.dispatch_room_changes.specs.ChangeTasks.{Lists}
use Rattle.dispatch_room_tcp.proofs.HostLemmas.{works}
use Rattle.dispatch_room_changes.proofs.terminals.list.Goals as goal

pub returns-in_err-conn : goal.returns-in_err-conn
returns-in_err-conn g c =
    stops _ _ _ _ c.from_residual.result _ c.from_residual.ensures.1
    (λ fault is. rw is (c.in_err-conn.ensures.fault, c.in_err-conn.ensures.done, refl))

pub returns : goal.returns
returns g c =
    let came = c.list_in-listed.ensures in
    let listed = c.list_in-listed.result in
    works Lists _ c.in_ok-conn.conn listed _ c.in_ok-conn.ensures.connected c.in_ok-conn.ensures.done
    (either_way listed _ _ came.listed (failed_so listed _ _ came.fault came.unprinted))
    c.close.ensures.closes
    c.close.ensures.done
