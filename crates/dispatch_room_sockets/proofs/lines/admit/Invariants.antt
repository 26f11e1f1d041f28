use Rattle.std.proofs.Common.{◌≡◌, ◌+◌}
use Rattle.std.specs.VecDeque.{deque_capacity, deque_len}
use Rattle.dispatch_room_sockets.specs.Sweeps.{IsAdmitted}
use Rattle.dispatch_room_sockets.proofs.lines.admit.Given as goal

abbrev pub invariant-loop-caller : goal.invariant-loop-caller
invariant-loop-caller g l = record {
  admitted : IsAdmitted l.until l.initial.line.items l.line.items l.initial.next l.next
      (g.E.Entrance.seen l.initial.entrance).came (g.E.Entrance.seen l.entrance).came;
  same : g.E.Entrance.seen l.entrance
      ≡ record (g.E.Entrance.seen l.initial.entrance) { came = (g.E.Entrance.seen l.entrance).came };
  count : deque_len l.line ≡ deque_len l.initial.line + l._caller;
  capacity : deque_capacity l.line ≡ deque_capacity l.initial.line;
}
