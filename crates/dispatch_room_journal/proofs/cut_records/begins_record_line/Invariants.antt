use Rattle.std.proofs.Common.{take}
use Rattle.dispatch_room_journal.proofs.RecordLineLemmas.{StandFrom}
use Rattle.dispatch_room_journal.proofs.cut_records.begins_record_line.Given as goal

abbrev pub invariant-loop-at : goal.invariant-loop-at
invariant-loop-at l = StandFrom 0 (take l.at l.line)
