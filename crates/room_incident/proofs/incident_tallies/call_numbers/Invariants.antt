use Rattle.std.proofs.Common.{drop, map, ◌++◌, ◌≡◌}
use Rattle.std.specs.Prelude.{filter, ◌==◌}
use Rattle.room_types.specs.declared.tables.Call.{Call}
use Rattle.room_incident.proofs.incident_tallies.call_numbers.Given as goal

abbrev pub invariant-loop-call : goal.invariant-loop-call
invariant-loop-call l =
    l.numbers.items
    ++ map (λ (c : Call). c.incident) (filter (λ (c : Call). c.division == l.division) (drop l.call-index l.calls))
    ≡ map (λ (c : Call). c.incident) (filter (λ (c : Call). c.division == l.division) l.calls)
