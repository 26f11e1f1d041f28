use Rattle.room_tables_schema.proofs.ReadLaws.{fails, looked, succeeds}
use Rattle.room_store_cache.proofs.fleets.Fleet.fill.Goals as goal

pub returns-clause-known : goal.returns-clause-known
returns-clause-known g c clean config room h known =
    record { rows = c.in_ok-read.ensures.rows clean config room h; turns = λ k. rw c.new.ensures tt }

pub returns-in_err-read-clause-reads : goal.returns-in_err-read-clause-reads
returns-in_err-read-clause-reads g c = fails c.from_residual.ensures.0 c.in_err-read.ensures.reads

pub returns-clause-reads : goal.returns-clause-reads
returns-clause-reads g c = succeeds (looked c.in_ok-read.ensures.reads)
