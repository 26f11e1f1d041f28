use Rattle.std.proofs.Common.{◌≡◌, false, length, List, ℕ}
use Rattle.std.specs.Io.KnownBytes.{prepend_known}
use Rattle.dispatch_room_journal.proofs.WholeLemmas.{ChainTaken}
use Rattle.dispatch_room_journal.proofs.whole_records.whole_chain.Given as goal

abbrev pub invariant-looks : goal.invariant-looks
invariant-looks g l = record {
  taken : (bodies : List (List ℕ))
      × ChainTaken (prepend_known l.fn.inbox (g.R.Source.left l.fn.reader))
      (prepend_known l.inbox (g.R.Source.left l.reader)) l.whole (length l.inbox) l._look bodies;
  sound : g.R.Source.has_failed l.reader ≡ false;
}
