use Rattle.std.proofs.Common.{ap, arith, length, map, take_all, ◌∙◌, ◌≤◌}
use Rattle.room_store_cache.proofs.QueueReads.{number_of}
use Rattle.room_store_reads.proofs.incident_reads.numbers_of.Goals as goal

pub returns-clause-ok : goal.returns-clause-ok
returns-clause-ok c =
    let past : length c.as_slice-incident-items.result.now
    ≤ c.loop-incident.incident-index = omega (arith, c.loop-incident-test.false) in
    let all = take_all c.loop-incident.incident-index c.args.rows.now
    (rw c.as_slice-incident-items.ensures.all at past) in
    c.loop-incident.invariant ∙ ap (map number_of) all
