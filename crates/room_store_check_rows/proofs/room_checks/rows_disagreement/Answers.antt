use Rattle.room_store_check_rows.proofs.room_checks.rows_disagreement.Goals as goal

pub returns : goal.returns
returns c = cc
