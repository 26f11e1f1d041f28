use Rattle.std.proofs.Common.{drop, map, ◌++◌, ◌≡◌}
use Rattle.std.specs.Prelude.{filter}
use Rattle.room_types.specs.declared.tables.Call.{Call}
use Rattle.room_incident.specs.IncidentCalls.{is_call_of}
use Rattle.room_incident.proofs.crew_jobs.notes_of.Given as goal

abbrev pub invariant-loop-call : goal.invariant-loop-call
invariant-loop-call l =
    l.notes
    ++ map (λ (c : Call). c.note)
    (filter (is_call_of l.slice.division l.number) (drop l.call-index l.slice.rows.calls))
    ≡ map (λ (c : Call). c.note) (filter (is_call_of l.slice.division l.number) l.slice.rows.calls)
