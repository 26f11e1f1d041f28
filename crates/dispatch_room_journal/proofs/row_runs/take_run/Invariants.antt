use Rattle.std.proofs.Common.{◌≡◌, ◌+◌, ◌-◌, ◌*◌, ◌^◌, false, length, List, ℕ}
use Rattle.std.specs.Prelude.{vec_len}
use Rattle.std.specs.Io.KnownBytes.{prepend_known}
use Rattle.dispatch_room_journal.specs.declared.record_inbox.TheConstants.{RECORD_ROOM}
use Rattle.dispatch_room_journal.proofs.RowLemmas.{RowsTaken}
use Rattle.dispatch_room_journal.proofs.row_runs.take_run.Given as goal

abbrev pub invariant-looks : goal.invariant-looks
invariant-looks g l = record {
  taken : (bodies : List (List ℕ))
      × RowsTaken (prepend_known l.fn.inbox (g.R.Source.left l.fn.reader))
      (prepend_known l.inbox (g.R.Source.left l.reader)) l.fn.link l.link l.fn.rows.items l.rows.items bodies;
  sound : g.R.Source.has_failed l.reader ≡ false;
}

-- the bytes that a list of rows may still grow by, and those that may still be read before it does
abbrev pub decreases-looks : goal.decreases-looks
decreases-looks g l = (2 ^ 63 - vec_len l.rows) * (RECORD_ROOM + 1) + (RECORD_ROOM - length l.inbox)
