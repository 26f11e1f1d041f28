use Rattle.std.proofs.Common.{◌≡◌, ◌-◌, false, length}
use Rattle.std.specs.Io.KnownBytes.{Keeps, prepend_known}
use Rattle.dispatch_room_journal.proofs.whole_records.fill_to.Given as goal

abbrev pub invariant-reads : goal.invariant-reads
invariant-reads g l = record {
  sound : g.R.Source.has_failed l.reader ≡ false;
  same : Keeps (prepend_known l.fn.inbox (g.R.Source.left l.fn.reader))
      (prepend_known l.inbox (g.R.Source.left l.reader));
}

abbrev pub decreases-reads : goal.decreases-reads
decreases-reads g l = l.fn.count - length l.inbox
