use Rattle.room_model.proofs.Runs.{one_answer, one_event}
use Rattle.room_model.proofs.isolation_laws.desks_are_apart.Goals as goal

pub returns-clause-share : goal.returns-clause-share
returns-clause-share g d r e w = one_event d r w e

pub returns-clause-answered : goal.returns-clause-answered
returns-clause-answered g d r e w = one_answer d r w e
