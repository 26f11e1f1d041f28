-- What ran is the deletion.
use Rattle.room_tables_schema.proofs.WriteLaws.{unwritten, wrote}
use Rattle.room_tables.proofs.RoomReads.{was_clean}
use Rattle.dispatch_room_tasks.proofs.ClearedLemmas.{clears_areas}
use Rattle.dispatch_room_tasks.proofs.cleared_tables.clear_areas.Goals as goal

pub returns-clause-ok : goal.returns-clause-ok
returns-clause-ok g c clean =
    let early = was_clean c.write.ensures.writes.survives clean in
    clears_areas _ _ _ _ (c.requires.inside.room early) (c.in_ok-write.ensures.ok clean)
    (c.in_ok-write.ensures.ran clean)

pub returns-clause-writes : goal.returns-clause-writes
returns-clause-writes g c = wrote c.in_ok-write.ensures.writes

pub returns-in_err-write-clause-writes : goal.returns-in_err-write-clause-writes
returns-in_err-write-clause-writes g c = unwritten c.in_err-write.ensures.writes
