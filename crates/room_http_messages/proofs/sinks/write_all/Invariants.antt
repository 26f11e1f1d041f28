use Rattle.std.proofs.Common.{◌≡◌, ◌-◌, ◌≤◌, false, length, take}
use Rattle.std.specs.Io.KnownBytes.{Appends}
use Rattle.room_http_messages.proofs.sinks.write_all.Given as goal

abbrev pub invariant-writes : goal.invariant-writes
invariant-writes g l = record {
  within : l.written ≤ length l.bytes;
  held : Appends (g.W.Sink.held l.initial.writer) (g.W.Sink.held l.writer) (take l.written l.bytes);
  sound : g.W.Sink.has_failed l.writer ≡ false;
}

abbrev pub decreases-writes : goal.decreases-writes
decreases-writes g l = length l.bytes - l.written
