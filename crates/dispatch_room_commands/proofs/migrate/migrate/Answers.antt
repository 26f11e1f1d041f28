use Rattle.std.proofs.Common.{Err, Ok, refl}
use Rattle.dispatch_room_disk.proofs.WorkLemmas.{either_way, stops}
use Rattle.dispatch_room_commands.specs.RoomTasks.{Moves}
use Rattle.dispatch_room_tcp.proofs.HostLemmas.{works}
use Rattle.dispatch_room_commands.proofs.migrate.migrate.Goals as goal

pub returns-in_err-conn : goal.returns-in_err-conn
returns-in_err-conn g c =
    stops _ _ _ _ c.from_residual.result _ c.from_residual.ensures.1
    (λ fault is. record {
      between = record { printed = _; done = _ };
      found = Err fault;
      is = rw is (c.in_err-conn.ensures.fault, c.in_err-conn.ensures.done, refl);
      rest = (refl, refl);
    })

pub returns-in_err-close : goal.returns-in_err-close
returns-in_err-close g c =
    let moved = c.migrate_in-moved.ensures in
    stops _ _ _ _ c.from_residual-in_err-close.result _ c.from_residual-in_err-close.ensures.1
    (λ fault is. rw is
    (works Moves _ c.in_ok-conn.conn c.migrate_in-moved.result _ c.in_ok-conn.ensures.connected
    c.in_ok-conn.ensures.done
    (either_way c.migrate_in-moved.result _ _ moved.migrated moved.fault, refl)
    c.in_err-close.ensures.closes
    c.in_err-close.ensures.done))

pub returns : goal.returns
returns g c =
    let moved = c.migrate_in-moved.ensures in
    record {
      between = record { printed = _; done = _ };
      found = Ok _;
      is = works Moves _ c.in_ok-conn.conn c.migrate_in-moved.result _ c.in_ok-conn.ensures.connected
          c.in_ok-conn.ensures.done
          (either_way c.migrate_in-moved.result _ _ moved.migrated moved.fault, refl)
          c.in_ok-close.ensures.closes
          c.in_ok-close.ensures.done;
      rest = (c.print.ensures, refl);
    }
