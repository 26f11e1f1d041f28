use Rattle.std.proofs.Common.{refl}
use Rattle.dispatch_room_disk.proofs.WorkLemmas.{either_way, stops}
use Rattle.dispatch_room_changes.specs.ChangeTasks.{Changes}
use Rattle.dispatch_room_tcp.proofs.HostLemmas.{works}
use Rattle.dispatch_room_changes.proofs.kept_changes.make_unkept.Goals as goal

pub returns-in_err-conn : goal.returns-in_err-conn
returns-in_err-conn g c printed =
    stops _ _ _ _ c.from_residual.result _ c.from_residual.ensures.1
    (λ fault is. rw is (c.in_err-conn.ensures.fault, c.in_err-conn.ensures.done, refl))

pub returns : goal.returns
returns g c printed =
    works (Changes c.args.change.now)
    _ c.in_ok-conn.conn c.make-made.result _ c.in_ok-conn.ensures.connected c.in_ok-conn.ensures.done
    (either_way c.make-made.result _ _ c.make-made.ensures.made c.make-made.ensures.fault, refl)
    c.close.ensures.closes
    c.close.ensures.done
