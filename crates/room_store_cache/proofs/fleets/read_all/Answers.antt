use Rattle.std.proofs.Common.{◌∙◌}
use Rattle.room_tables_schema.proofs.ReadLaws.{fails, looked, succeeds}
use Rattle.room_store_cache.proofs.fleets.read_all.Goals as goal

pub returns-clause-rows : goal.returns-clause-rows
returns-clause-rows g c clean config room h =
    let all = c.in_ok-rows.ensures.taken clean in
    all.2 c.new.ensures ∙ all.1.of_any config room h

pub returns-in_err-rows-clause-reads : goal.returns-in_err-rows-clause-reads
returns-in_err-rows-clause-reads g c = fails c.from_residual.ensures.0 c.in_err-rows.ensures.reads

pub returns-clause-reads : goal.returns-clause-reads
returns-clause-reads g c = succeeds (looked c.in_ok-rows.ensures.reads)
