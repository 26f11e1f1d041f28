use Rattle.room_model.proofs.OfferLaws.{unoffered_agrees}
use Rattle.room_model.proofs.first_version_laws.unoffered_rooms_agree.Goals as goal

pub returns : goal.returns
returns g r order none = unoffered_agrees r order none
