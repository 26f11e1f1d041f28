use Rattle.std.proofs.Common.{length, ◌≡◌}
use Rattle.room_store_check_rows.specs.TerminalCrews.{second_crew}
use Rattle.room_store_check_rows.proofs.terminal_checks.second_crew.Given as goal

abbrev pub invariant-loop-first : goal.invariant-loop-first
invariant-loop-first l = second_crew l.terminals ≡ second_crew l.left

abbrev pub decreases-loop-first : goal.decreases-loop-first
decreases-loop-first l = length l.left
