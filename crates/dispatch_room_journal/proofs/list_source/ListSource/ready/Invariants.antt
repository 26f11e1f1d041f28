use Rattle.std.proofs.Common.{◌≡◌, ◌≤◌, length}
use Rattle.std.specs.Io.KnownBytes.{Keeps, prepend_known}
use Rattle.dispatch_room_journal.specs.ReadSteps.{PassesRows, left_in, reach_of}
use Rattle.dispatch_room_journal.proofs.AdvanceLemmas.{measure}
use Rattle.dispatch_room_journal.proofs.list_source.ListSource.ready.Given as goal

abbrev pub invariant-steps : goal.invariant-steps
invariant-steps g l = record {
  same : Keeps
      (left_in l.fn.self.cursor.mode l.fn.self.cursor.vouched l.fn.self.cursor.inbox (g.R.Source.left l.fn.self.reader))
      (left_in l.self.cursor.mode l.self.cursor.vouched l.self.cursor.inbox (g.R.Source.left l.self.reader));
  failed : g.R.Source.has_failed l.self.reader ≡ g.R.Source.has_failed l.fn.self.reader;
  ended : l.self.has_ended ≡ l.fn.self.has_ended;
  rises : l.fn.self.passed ≤ l.self.passed;
  reach : reach_of l.self.cursor.mode ≡ reach_of l.fn.self.cursor.mode;
  counts : PassesRows (prepend_known l.fn.self.cursor.inbox (g.R.Source.left l.fn.self.reader))
      (prepend_known l.self.cursor.inbox (g.R.Source.left l.self.reader)) l.fn.self.passed l.self.passed;
}

abbrev pub decreases-steps : goal.decreases-steps
decreases-steps g l = measure l.self.cursor.mode l.self.cursor.vouched (length l.self.cursor.inbox) l.self.passed
