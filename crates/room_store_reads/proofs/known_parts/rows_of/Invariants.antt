use Rattle.std.proofs.Common.{take, ◌≡◌}
use Rattle.std.specs.Prelude.{filter}
use Rattle.room_store_cache.specs.ShownLists.{is_among}
use Rattle.room_store_reads.proofs.known_parts.rows_of.Given as goal

abbrev pub invariant-loop-row : goal.invariant-loop-row
invariant-loop-row g l = l.found ≡ filter
    (λ y. is_among l.division l.incidents (g.R.OfIncident.incident_of y))
    (take l.row-index l.rows)
