use Rattle.std.proofs.Common.{◌≡◌, ◌≤◌, List, ℕ, length}
use Rattle.std.specs.Io.KnownBytes.{Consumes}
use Rattle.dispatch_room_sockets.proofs.acceptors.Client.throw_away.Given as goal

abbrev pub invariant-loop-piece : goal.invariant-loop-piece
invariant-loop-piece g l =
    let left = g.T.NonblockingStream.left in
    record {
      thrown : (bytes : List ℕ) × Consumes (left l.initial.self.stream) (left l.self.stream) bytes
          × (l._piece ≤ length bytes);
      same : (l.self.is_fresh ≡ l.initial.self.is_fresh) × (l.self.is_watched ≡ l.initial.self.is_watched);
    }
