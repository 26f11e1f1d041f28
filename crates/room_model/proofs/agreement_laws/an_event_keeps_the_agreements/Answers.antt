use Rattle.room_model.proofs.KeptEvents.{event_kept}
use Rattle.room_model.proofs.agreement_laws.an_event_keeps_the_agreements.Goals as goal

pub returns : goal.returns
returns g e r w addressed is_numbered = event_kept e r w addressed is_numbered
