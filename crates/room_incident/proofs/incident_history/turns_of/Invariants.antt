use Rattle.std.proofs.Common.{drop, ◌++◌, ◌≡◌}
use Rattle.std.specs.Prelude.{filter, ◌&&◌, ◌==◌, ◌||◌}
use Rattle.room_types.specs.declared.tables.Turn.{Turn}
use Rattle.room_model.specs.Queries.{is_given}
use Rattle.room_incident.proofs.incident_history.turns_of.Given as goal

abbrev pub invariant-loop-turn : goal.invariant-loop-turn
invariant-loop-turn l =
    l.turns
    ++ filter
    (λ (t : Turn). t.division == l.slice.division && (t.incident == l.number || is_given l.calls t.incident))
    (drop l.turn-index l.slice.rows.turns)
    ≡ filter
    (λ (t : Turn). t.division == l.slice.division && (t.incident == l.number || is_given l.calls t.incident))
    l.slice.rows.turns
