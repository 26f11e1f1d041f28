use Rattle.room_tables_schema.proofs.ReadLaws.{begins, succeeds}
use Rattle.room_store_reads.proofs.move_rows.learn_if.Goals as goal

pub returns-in-None-clause-reads : goal.returns-in-None-clause-reads
returns-in-None-clause-reads g c = succeeds (begins c.requires.open)
