use Rattle.room_model.proofs.Runs.{equal_answers, equal_shares, meet_well_formed}
use Rattle.room_model.proofs.isolation_laws.equal_shares_get_equal_answers.Goals as goal

pub returns-clause-answers : goal.returns-clause-answers
returns-clause-answers g d es fs r s w v known known_too same handed =
    equal_answers d es fs r s (meet_well_formed es r w known) (meet_well_formed fs s v known_too) same handed

pub returns-clause-shares : goal.returns-clause-shares
returns-clause-shares g d es fs r s w v known known_too same handed =
    equal_shares d es fs r s (meet_well_formed es r w known) (meet_well_formed fs s v known_too) same handed
