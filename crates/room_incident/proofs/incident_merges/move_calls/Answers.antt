use Rattle.std.proofs.Common.{arith}
use Rattle.std.proofs.lemmas.Grind.{common_steps}
use Rattle.room_model.specs.Queries.{calls_of}
use Rattle.room_incident.proofs.incident_merges.move_calls.Goals as goal

pub returns-clause-ok : goal.returns-clause-ok
unfolding calls_of
returns-clause-ok c plan =
    let so_far = c.loop-call.invariant in
    grind (arith, common_steps)
