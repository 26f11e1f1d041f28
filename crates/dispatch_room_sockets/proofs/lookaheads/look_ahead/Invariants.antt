use Rattle.std.proofs.Common.{◌≤◌, length}
use Rattle.std.specs.Io.KnownBytes.{Keeps, prepend_known}
use Rattle.dispatch_room_sockets.specs.Lookaheads.{StaysInFront}
use Rattle.dispatch_room_sockets.proofs.lookaheads.look_ahead.Given as goal

abbrev pub invariant-loop-read : goal.invariant-loop-read
invariant-loop-read g l = record {
  kept : Keeps (prepend_known l.initial.unserved (g.T.NonblockingStream.left l.initial.stream))
      (prepend_known l.unserved (g.T.NonblockingStream.left l.stream));
  front : StaysInFront l.initial.unserved l.unserved;
  grown : l._read ≤ length l.unserved;
}
