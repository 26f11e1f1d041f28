use Rattle.std.proofs.Common.{take}
use Rattle.dispatch_room_journal.specs.TextParts.{Lacks}
use Rattle.dispatch_room_changes.proofs.change_lists.line_end.Given as goal

abbrev pub invariant-loop-at : goal.invariant-loop-at
invariant-loop-at l = Lacks 10 (take l.at l.text)
