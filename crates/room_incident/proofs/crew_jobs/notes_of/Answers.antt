use Rattle.std.proofs.Common.{arith, map, ◌≡◌}
use Rattle.std.proofs.lemmas.Grind.{common_steps}
use Rattle.std.specs.Prelude.{filter}
use Rattle.room_types.specs.declared.tables.Call.{Call}
use Rattle.room_model.specs.Queries.{calls_of}
use Rattle.room_incident.specs.IncidentCalls.{is_call_of}
use Rattle.room_incident.proofs.crew_jobs.notes_of.Goals as goal

pub returns-clause-ok : goal.returns-clause-ok
unfolding calls_of
returns-clause-ok c plan =
    let slice = c.args.slice.now in
    let all : c.loop-call.notes
    ≡ map (λ (x : Call). x.note) (filter (is_call_of slice.division c.args.number) slice.rows.calls) = grind
    (arith, common_steps) in
    all
