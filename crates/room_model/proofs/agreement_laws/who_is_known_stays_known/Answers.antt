use Rattle.room_model.proofs.KeptEvents.{addressed_run}
use Rattle.room_model.proofs.agreement_laws.who_is_known_stays_known.Goals as goal

pub returns : goal.returns
returns g es r e known = addressed_run es r e known
