use Rattle.room_model.proofs.EnrolLaws.{enrolled_again}
use Rattle.room_model.proofs.agreement_laws.enrolling_again_changes_nothing.Goals as goal

pub returns : goal.returns
returns g r ts row = enrolled_again r ts row
