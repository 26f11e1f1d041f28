use Rattle.std.proofs.Common.{drop, ◌≡◌}
use Rattle.std.specs.Prelude.{map}
use Rattle.room_store_check_rows.specs.Summaries.{latest}
use Rattle.room_store_check_rows.proofs.summaries.latest.Given as goal

abbrev pub invariant-loop-row : goal.invariant-loop-row
invariant-loop-row g l =
    latest l.initial.newest (map g.R.Dated.moment_of l.rows)
    ≡ latest l.newest (map g.R.Dated.moment_of (drop l.row-index l.rows))
