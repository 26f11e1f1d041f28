use Rattle.std.proofs.Common.{◌≡◌, false, length, List}
use Rattle.std.specs.Io.KnownBytes.{prepend_known}
use Rattle.dispatch_room_journal.specs.Entries.{Entry}
use Rattle.dispatch_room_journal.proofs.EndLemmas.{Taken}
use Rattle.dispatch_room_journal.specs.ListTallies.{Tallies, moments_of}
use Rattle.dispatch_room_journal.proofs.verification.verify.Given as goal

abbrev pub invariant-entries : goal.invariant-entries
invariant-entries g l = record {
  taken : (entries : List Entry)
      × Taken (g.R.Source.left l.fn.list) (prepend_known l.inbox.kept (g.R.Source.left l.list)) l.inbox.taken entries
      × (length entries ≡ l.entry) × Tallies l.tally (moments_of entries);
  sound : g.R.Source.has_failed l.list ≡ false;
}
