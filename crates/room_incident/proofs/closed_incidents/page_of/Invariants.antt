use Rattle.std.proofs.Common.{drop, length, ◌++◌, ◌≡◌, ◌≤◌}
use Rattle.std.specs.Prelude.{filter}
use Rattle.room_incident.specs.ClosedPages.{is_on_pages}
use Rattle.room_incident.proofs.closed_incidents.page_of.Given as goal

abbrev pub invariant-loop-incident : goal.invariant-loop-incident
invariant-loop-incident l = record {
  all : l.incidents
      ++ filter (is_on_pages l.slice.division l.slice.rows.turns l.from l.to l.search)
      (drop l.incident-index l.slice.rows.incidents)
      ≡ filter (is_on_pages l.slice.division l.slice.rows.turns l.from l.to l.search) l.slice.rows.incidents;
  few : length l.incidents ≤ 100;
}
