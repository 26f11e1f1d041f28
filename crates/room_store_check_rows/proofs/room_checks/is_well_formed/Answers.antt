use Rattle.room_store_check_rows.proofs.FaultLaws.{none_detected}
use Rattle.room_store_check_rows.proofs.room_checks.is_well_formed.Goals as goal

pub returns-clause-test : goal.returns-clause-test
returns-clause-test c = none_detected _ _ _ c.is_none.ensures c.in_ok-disagreement.ensures.detected
