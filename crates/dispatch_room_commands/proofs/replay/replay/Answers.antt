use Rattle.std.proofs.Common.{Ok, refl}
use Rattle.dispatch_room_disk.proofs.WorkLemmas.{either_way, stops}
use Rattle.dispatch_room_commands.specs.RoomTasks.{Replays}
use Rattle.dispatch_room_tcp.proofs.HostLemmas.{works}
use Rattle.dispatch_room_commands.proofs.replay.replay.Goals as goal

pub returns-in_err-conn : goal.returns-in_err-conn
returns-in_err-conn g c = record {
  between = record { printed = _; done = _ };
  found = Ok _;
  is = (_, refl, c.input-input.ensures.done, refl);
  rest = stops _ _ _ _ c.from_residual.result _ c.from_residual.ensures.1
      (λ fault is. rw is (c.in_err-conn.ensures.fault, c.in_err-conn.ensures.done, refl));
}

pub returns : goal.returns
returns g c =
    let came = c.replay_from-played.ensures in
    record {
      between = record { printed = _; done = _ };
      found = Ok _;
      is = (_, refl, c.input-input.ensures.done, refl);
      rest = works (Replays _ c.args.replay.now)
          _ c.in_ok-conn.conn c.replay_from-played.result _ c.in_ok-conn.ensures.connected
          c.in_ok-conn.ensures.done
          (either_way c.replay_from-played.result _ _ came.replayed came.lost)
          c.close.ensures.closes
          c.close.ensures.done;
    }
