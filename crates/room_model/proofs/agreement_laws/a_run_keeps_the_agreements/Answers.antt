use Rattle.room_model.proofs.KeptEvents.{run_kept}
use Rattle.room_model.proofs.agreement_laws.a_run_keeps_the_agreements.Goals as goal

pub returns : goal.returns
returns g es r w addressed = run_kept es r w addressed
