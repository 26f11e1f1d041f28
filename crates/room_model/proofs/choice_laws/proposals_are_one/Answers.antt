use Rattle.room_model.proofs.ProposalLaws.{one_proposed}
use Rattle.room_model.proofs.choice_laws.proposals_are_one.Goals as goal

pub returns : goal.returns
returns g d i at r k ps qs h f = one_proposed d i at r k ps qs h f
