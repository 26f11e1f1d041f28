use Rattle.std.proofs.Common.{drop, ◌≡◌}
use Rattle.room_store_check_rows.specs.TerminalCrews.{uncrewed}
use Rattle.room_store_check_rows.specs.FirstFaults.{first_of}
use Rattle.room_store_check_rows.proofs.terminal_checks.uncrewed.Given as goal

abbrev pub invariant-loop-vehicle : goal.invariant-loop-vehicle
invariant-loop-vehicle l =
    first_of (uncrewed l.crews) l.vehicles ≡ first_of (uncrewed l.crews) (drop l.vehicle-index l.vehicles)
