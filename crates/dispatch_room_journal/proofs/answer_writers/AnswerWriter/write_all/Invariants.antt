use Rattle.std.proofs.Common.{◌≡◌, ◌-◌, ◌≤◌, false, length, take}
use Rattle.std.specs.Io.KnownBytes.{Appends}
use Rattle.dispatch_room_journal.proofs.answer_writers.AnswerWriter.write_all.Given as goal

abbrev pub invariant-writes : goal.invariant-writes
invariant-writes g l = record {
  same_reference : l.self.output.ghost_name ≡ l.fn.self.output.ghost_name;
  within : l.written ≤ length l.bytes;
  held : Appends (g.O.Write.contents l.fn.self.output.now) (g.O.Write.contents l.self.output.now)
      (take l.written l.bytes);
  sound : l.self.failed ≡ false;
}

abbrev pub decreases-writes : goal.decreases-writes
decreases-writes g l = length l.bytes - l.written
