use Rattle.std.proofs.Common.{◌≡◌, ◌+◌, ◌-◌, ◌≤◌}
use Rattle.std.specs.VecDeque.{deque_capacity, deque_len}
use Rattle.dispatch_room_sockets.proofs.SweepLaws.{IsSweptTo}
use Rattle.dispatch_room_sockets.proofs.lines.look_at_all.Given as goal

abbrev pub invariant-loop-kept : goal.invariant-loop-kept
invariant-loop-kept g l = record {
  swept : IsSweptTo l.now l.patience (l._kept-end - l._kept) l.initial.line.items l.line.items
      l.initial.ready.items l.ready.items (g.E.Entrance.seen l.initial.entrance).heard
      (g.E.Entrance.seen l.entrance).heard;
  same : g.E.Entrance.seen l.entrance
      ≡ record (g.E.Entrance.seen l.initial.entrance) { heard = (g.E.Entrance.seen l.entrance).heard };
  bound : deque_len l.line + deque_len l.ready
      ≤ deque_len l.initial.line + deque_len l.initial.ready;
  line : deque_capacity l.line ≡ deque_capacity l.initial.line;
  ready : deque_capacity l.ready ≡ deque_capacity l.initial.ready;
}
