use Rattle.std.proofs.Common.{◌≤◌, ◌++◌, map}
use Rattle.std.specs.Prelude.{flat_map}
use Rattle.std.specs.Duration.{as_nanos}
use Rattle.std.specs.VecDeque.Iter.{deque_iter_rest}
use Rattle.dispatch_room_sockets.specs.Pauses.{leaver_limit, limits, waiter_limits}
use Rattle.dispatch_room_sockets.proofs.PauseLaws.{Stands}
use Rattle.dispatch_room_sockets.proofs.waiting_callers.Waiting.pause.Given as goal

abbrev pub invariant-loop-kept : goal.invariant-loop-kept
invariant-loop-kept g l =
    let watched = g.E.Entrance.is_watched l.self.entrance in
    record {
      bound : as_nanos l.pause ≤ 1000000000;
      least : Stands (as_nanos l.pause)
          (flat_map (waiter_limits l.now watched) (deque_iter_rest l.kept-iterator)
          ++ map (leaver_limit l.now) l.self.closing_connections.items)
          (limits l.now watched l.self.line.items l.self.closing_connections.items);
    }

abbrev pub invariant-loop-leaver : goal.invariant-loop-leaver
invariant-loop-leaver g l = record {
  bound : as_nanos l.pause ≤ 1000000000;
  least : Stands (as_nanos l.pause) (map (leaver_limit l.now) (deque_iter_rest l.leaver-iterator))
      (limits l.now (g.E.Entrance.is_watched l.self.entrance) l.self.line.items l.self.closing_connections.items);
}
