use Rattle.std.proofs.Common.{drop, ◌+◌}
use Rattle.dispatch_room_tasks.specs.RowOutcomes.{outcomes}
use Rattle.dispatch_room_tasks.proofs.FateLemmas.{IsPrinting}
use Rattle.dispatch_room_tasks.proofs.row_outcomes.print_fates.Given as goal

abbrev pub invariant-loop-at : goal.invariant-loop-at
invariant-loop-at g l =
    IsPrinting (g.O.Write.contents l.fn.out) (g.O.Write.contents l.out) l.done (l.at + 1) (outcomes l.lines l.fates)
    (outcomes (drop l.at l.lines) l.left)
