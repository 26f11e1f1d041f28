use Rattle.std.proofs.Common.{drop, map, ◌++◌, ◌≡◌}
use Rattle.std.specs.Prelude.{filter}
use Rattle.room_types.specs.declared.tables.Turn.{Turn}
use Rattle.room_incident.specs.Tallies.{serves_here}
use Rattle.room_incident.proofs.incident_tallies.served_numbers.Given as goal

abbrev pub invariant-loop-turn : goal.invariant-loop-turn
invariant-loop-turn l =
    l.numbers.items
    ++ map (λ (t : Turn). t.incident) (filter (serves_here l.division l.kind) (drop l.turn-index l.turns))
    ≡ map (λ (t : Turn). t.incident) (filter (serves_here l.division l.kind) l.turns)
