use Rattle.std.proofs.Common.{sym}
use Rattle.std.proofs.lemmas.Result.{IfOk-weaker}
use Rattle.room_store_reads.proofs.crew_reads.load_report.Goals as goal

pub returns-clause-row : goal.returns-clause-row
returns-clause-row g c clean =
    IfOk-weaker c.row_at.result _ _ (λ x found config room h formed there. sym (found config room h))
    (c.row_at.ensures.row clean)
