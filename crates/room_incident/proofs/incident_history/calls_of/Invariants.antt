use Rattle.std.proofs.Common.{drop, ◌++◌, ◌≡◌}
use Rattle.std.specs.Prelude.{filter}
use Rattle.room_incident.specs.IncidentCalls.{is_call_of}
use Rattle.room_incident.proofs.incident_history.calls_of.Given as goal

abbrev pub invariant-loop-call : goal.invariant-loop-call
invariant-loop-call l =
    l.calls ++ filter (is_call_of l.slice.division l.number) (drop l.call-index l.slice.rows.calls)
    ≡ filter (is_call_of l.slice.division l.number) l.slice.rows.calls
