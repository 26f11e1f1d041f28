use Rattle.std.proofs.Common.{drop, ◌≡◌}
use Rattle.room_store_check_rows.specs.FirstFaults.{first_of, uncalled_fault}
use Rattle.room_store_check_rows.proofs.opening_calls.first_uncalled.Given as goal

abbrev pub invariant-loop-incident : goal.invariant-loop-incident
invariant-loop-incident l =
    first_of (uncalled_fault l.openings) l.incidents
    ≡ first_of (uncalled_fault l.openings) (drop l.incident-index l.incidents)
