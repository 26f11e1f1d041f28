use Rattle.room_store_check_rows.proofs.room_checks.standing_disagreement.Goals as goal

pub returns : goal.returns
returns c = cc
