use Rattle.std.proofs.Common.{◌*◌, true, replicate}
use Rattle.room_http_messages.specs.Streams.{Grows}
use Rattle.dispatch_room_sockets.specs.LingeringClose.{ThrowsAway, threw}
use Rattle.dispatch_room_sockets.proofs.lingering_close.drain.Given as goal

abbrev pub invariant-loop-piece : goal.invariant-loop-piece
invariant-loop-piece g l = record {
  thrown : ThrowsAway (4096 * l._piece) (g.P.Closing.left l.initial.peer) (g.P.Closing.left l.peer);
  done : Grows (g.P.Closing.done l.initial.peer) (g.P.Closing.done l.peer)
      (replicate l._piece (threw l.moment true));
}
