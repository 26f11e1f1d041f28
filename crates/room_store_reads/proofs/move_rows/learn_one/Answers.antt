use Rattle.room_tables_schema.proofs.ReadLaws.{fails, looked, succeeds}
use Rattle.std.proofs.lemmas.Result.{IfOk-weaker}
use Rattle.room_store_reads.proofs.MoveReads.{all_known, filled, still_known}
use Rattle.room_store_reads.proofs.move_rows.learn_one.Goals as goal

pub returns-in_ok-load_history_rows-in-Some-clause-known : goal.returns-in_ok-load_history_rows-in-Some-clause-known
returns-in_ok-load_history_rows-in-Some-clause-known g c clean config room h formed is =
    still_known is
    (c.in_ok-load_history_rows-in-Some.ensures.rows clean config room h _ formed.order (all_known is)
    c.reads_of-reads.ensures).1
    c.in_ok-load_history_rows-in-Some.ensures.fleet

pub returns-in_ok-load_history_rows-in-Some-clause-reads : goal.returns-in_ok-load_history_rows-in-Some-clause-reads
returns-in_ok-load_history_rows-in-Some-clause-reads g c = succeeds (looked c.in_ok-load_history_rows-in-Some.ensures.reads)

pub returns-in-None-clause-known : goal.returns-in-None-clause-known
returns-in-None-clause-known g c clean =
    IfOk-weaker c.learn_turn.result _ _
    (λ x known config room h formed is. filled _ (known config room h is.fleet) is.all)
    (c.learn_turn.ensures.known clean)

pub returns-in_err-load_history_rows-in-Some-clause-reads : goal.returns-in_err-load_history_rows-in-Some-clause-reads
returns-in_err-load_history_rows-in-Some-clause-reads g c =
    fails c.from_residual.ensures.0 c.in_err-load_history_rows-in-Some.ensures.reads
