use Rattle.std.proofs.lemmas.Result.{IfOk-weaker}
use Rattle.room_tables_schema.proofs.ReadLaws.{begins, lacks_memory}
use Rattle.room_store_reads.proofs.working_rows.load_work.Goals as goal

pub returns-clause-rows : goal.returns-clause-rows
returns-clause-rows g c clean =
    IfOk-weaker c.load_missing.result _ _ (λ x found config room h a at in_order are selects shown.
    let part = c.in_ok-part.ensures.part room at in_order are.shown_lists shown in
    found config room h a at part.0 in_order are selects part.1) (c.load_missing.ensures.rows clean)

pub returns-in_err-part-clause-reads : goal.returns-in_err-part-clause-reads
returns-in_err-part-clause-reads g c = lacks_memory c.from_residual.ensures.0 (begins c.requires.open)
