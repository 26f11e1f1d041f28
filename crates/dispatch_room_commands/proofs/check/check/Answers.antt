use Rattle.std.proofs.Common.{Ok, refl}
use Rattle.dispatch_room_disk.proofs.WorkLemmas.{stops}
use Rattle.dispatch_room_commands.specs.RoomTasks.{Examines}
use Rattle.dispatch_room_tcp.proofs.HostLemmas.{works}
use Rattle.dispatch_room_commands.proofs.check.check.Goals as goal

pub returns-in_err-conn : goal.returns-in_err-conn
returns-in_err-conn g c =
    stops _ _ _ _ c.from_residual.result _ c.from_residual.ensures.1
    (λ fault is. rw is (c.in_err-conn.ensures.fault, c.in_err-conn.ensures.done, refl))

pub returns : goal.returns
returns g c =
    let said = c.check_in-looked.ensures in
    works Examines _ c.in_ok-conn.conn (Ok c.check_in-looked.result) _ c.in_ok-conn.ensures.connected
    c.in_ok-conn.ensures.done
    (said.checked, said.printed, said.nothing)
    c.close.ensures.closes
    c.close.ensures.done
