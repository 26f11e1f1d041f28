use Rattle.room_model.proofs.ProposalLaws.{proposed_first}
use Rattle.room_model.proofs.choice_laws.the_least_are_proposed.Goals as goal

pub returns : goal.returns
returns g d i at r k order = proposed_first d i at r k order
