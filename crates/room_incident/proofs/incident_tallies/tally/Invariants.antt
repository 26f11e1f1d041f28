use Rattle.std.proofs.Common.{map, take, ◌≡◌}
use Rattle.room_incident.specs.Tallies.{times}
use Rattle.room_incident.proofs.incident_tallies.tally.Given as goal

abbrev pub invariant-loop-number : goal.invariant-loop-number
invariant-loop-number l =
    l.counts.items ≡ map (times l.division (take l.number-index l.numbers)) l.rows
