use Rattle.std.proofs.Common.{drop, map, ◌++◌, ◌≡◌}
use Rattle.std.specs.Prelude.{filter}
use Rattle.room_model.specs.Incidents.{moved_call}
use Rattle.room_incident.specs.IncidentCalls.{is_call_of}
use Rattle.room_incident.proofs.incident_merges.move_calls.Given as goal

abbrev pub invariant-loop-call : goal.invariant-loop-call
invariant-loop-call l =
    l.changes
    ++ map (moved_call l.into) (filter (is_call_of l.slice.division l.from) (drop l.call-index l.slice.rows.calls))
    ≡ l.fn.changes ++ map (moved_call l.into) (filter (is_call_of l.slice.division l.from) l.slice.rows.calls)
