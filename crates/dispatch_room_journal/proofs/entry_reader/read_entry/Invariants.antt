use Rattle.std.proofs.Common.{◌≡◌, ◌-◌, false, length}
use Rattle.std.specs.Io.KnownBytes.{prepend_known, Keeps}
use Rattle.dispatch_room_journal.specs.declared.journal_inbox.TheConstants.{ENTRY_ROOM}
use Rattle.dispatch_room_journal.proofs.entry_reader.read_entry.Given as goal

abbrev pub invariant-looks : goal.invariant-looks
invariant-looks g l = record {
  same : Keeps (prepend_known l.fn.inbox.kept (g.R.Source.left l.fn.reader))
      (prepend_known l.inbox.kept (g.R.Source.left l.reader));
  taken : l.inbox.taken ≡ l.fn.inbox.taken;
  sound : g.R.Source.has_failed l.reader ≡ false;
}

abbrev pub decreases-looks : goal.decreases-looks
decreases-looks g l = ENTRY_ROOM - length l.inbox.kept
