use Rattle.room_model.proofs.OffersMade.{unoffered_run}
use Rattle.room_model.proofs.first_version_laws.nothing_is_offered_by_itself.Goals as goal

pub returns : goal.returns
returns g es r none nobody = unoffered_run es r none nobody
