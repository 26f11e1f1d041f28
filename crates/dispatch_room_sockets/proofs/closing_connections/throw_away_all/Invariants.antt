use Rattle.std.proofs.Common.{◌≡◌, ◌-◌, ◌≤◌}
use Rattle.std.specs.VecDeque.{deque_capacity, deque_len}
use Rattle.dispatch_room_sockets.proofs.LeaverLaws.{AreInTime}
use Rattle.dispatch_room_sockets.proofs.closing_connections.throw_away_all.Given as goal

abbrev pub invariant-loop-leaver : goal.invariant-loop-leaver
invariant-loop-leaver g l = record {
  in_time : AreInTime l.now (l._leaver-end - l._leaver) l.initial.closing_connections.items l.closing_connections.items;
  same : g.E.Entrance.seen l.entrance ≡ g.E.Entrance.seen l.initial.entrance;
  bound : deque_len l.closing_connections ≤ deque_len l.initial.closing_connections;
  capacity : deque_capacity l.closing_connections ≡ deque_capacity l.initial.closing_connections;
}
