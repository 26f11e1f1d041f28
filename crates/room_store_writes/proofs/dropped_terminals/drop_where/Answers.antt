-- What ran is the deletion.
use Rattle.room_tables_schema.proofs.WriteLaws.{unwritten, wrote}
use Rattle.room_tables.proofs.RoomReads.{was_clean}
use Rattle.room_store_writes.proofs.DropLaws.{drops}
use Rattle.room_store_writes.proofs.dropped_terminals.drop_where.Goals as goal

pub returns-clause-ok : goal.returns-clause-ok
returns-clause-ok g c clean chosen means =
    let early = was_clean c.write.ensures.writes.survives clean in
    drops _ _ chosen means _ _ _ (c.requires.inside.room early) (c.in_ok-write.ensures.ok clean)
    (c.in_ok-write.ensures.ran clean)

pub returns-clause-writes : goal.returns-clause-writes
returns-clause-writes g c = wrote c.in_ok-write.ensures.writes

pub returns-in_err-write-clause-writes : goal.returns-in_err-write-clause-writes
returns-in_err-write-clause-writes g c = unwritten c.in_err-write.ensures.writes
