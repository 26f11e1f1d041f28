use Rattle.room_model.proofs.Runs.{meet_well_formed, run_answers, run_share}
use Rattle.room_model.proofs.isolation_laws.desks_stay_apart.Goals as goal

pub returns-clause-share : goal.returns-clause-share
returns-clause-share g d es r w known = run_share d es r (meet_well_formed es r w known)

pub returns-clause-answered : goal.returns-clause-answered
returns-clause-answered g d es r w known = run_answers d es r (meet_well_formed es r w known)
