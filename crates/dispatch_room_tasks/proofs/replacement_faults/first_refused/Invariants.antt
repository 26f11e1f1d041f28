use Rattle.dispatch_room_tasks.specs.ReplacedTerminals.{AreFree}
use Rattle.dispatch_room_tasks.proofs.replacement_faults.first_refused.Given as goal

abbrev pub invariant-loop-at : goal.invariant-loop-at
invariant-loop-at l = AreFree l.plan.areas l.terminals l.listed l.at
