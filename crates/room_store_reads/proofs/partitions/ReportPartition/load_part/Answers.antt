use Rattle.std.proofs.lemmas.Result.{IfOk-weaker}
use Rattle.room_store_reads.proofs.partitions.ReportPartition.load_part.Goals as goal

pub returns-clause-rows : goal.returns-clause-rows
returns-clause-rows g c clean =
    IfOk-weaker c.uncleared_reports.result _ _ (λ x found config room h are keyed. found config room h)
    (c.uncleared_reports.ensures.rows clean)
