use Rattle.std.proofs.Common.{take}
use Rattle.room_store_check_rows.specs.HistoryChecks.{AreOpenings}
use Rattle.room_store_check_rows.proofs.opening_calls.openings_by.Given as goal

abbrev pub invariant-loop-call : goal.invariant-loop-call
invariant-loop-call l = AreOpenings (take l.call-index l.calls) l.openings
