use Rattle.std.proofs.Common.{drop, ◌≡◌}
use Rattle.room_store_check_rows.specs.FirstFaults.{first_of}
use Rattle.room_store_check_rows.proofs.first_disagreement.first_of.Given as goal

abbrev pub invariant-loop-row : goal.invariant-loop-row
invariant-loop-row g l =
    let f = g.R.Judged.disagreement l.plan.areas l.rows in
    first_of f l.table ≡ first_of f (drop l.row-index l.table)
