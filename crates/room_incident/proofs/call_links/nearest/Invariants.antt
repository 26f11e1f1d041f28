use Rattle.std.proofs.Common.{drop, ◌≡◌}
use Rattle.std.specs.Prelude.{filter, option_copied}
use Rattle.room_place.specs.Choice.{least, least_from}
use Rattle.room_model.specs.Queries.{is_nearer}
use Rattle.room_incident.specs.CallLinks.{is_open_near}
use Rattle.room_incident.proofs.call_links.nearest.Given as goal

abbrev pub invariant-loop-incident : goal.invariant-loop-incident
invariant-loop-incident l =
    least_from (is_nearer l.place) (option_copied l.nearest)
    (filter (is_open_near l.place l.at) (drop l.incident-index l.fn.incidents))
    ≡ least (is_nearer l.place) (filter (is_open_near l.place l.at) l.fn.incidents)
