use Rattle.std.proofs.Common.{◌≡◌, ◌++◌, drop}
use Rattle.room_queue.proofs.queues.listed.Given as goal

abbrev pub invariant-loop-entry : goal.invariant-loop-entry
invariant-loop-entry l = l.listed ++ drop l.entry-index l.entries ≡ l.entries
