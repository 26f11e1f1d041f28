use Rattle.std.proofs.Common.{take, ◌++◌, ◌≡◌}
use Rattle.room_store.proofs.move_decisions.add_changes.Given as goal

abbrev pub invariant-loop-change : goal.invariant-loop-change
invariant-loop-change l = l.changes ≡ l.fn.changes ++ take l.change-index l.added
