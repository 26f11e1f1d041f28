use Rattle.room_model.proofs.OneStep.{decided_alike}
use Rattle.room_model.proofs.isolation_laws.an_event_is_decided_by_its_rows.Goals as goal

pub returns : goal.returns
returns g e r s w v agree = decided_alike r s w v e agree
