use Rattle.room_model.proofs.CrewLaws.{crew_mine, mine_after}
use Rattle.room_model.proofs.crew_laws.vehicles_decide.Goals as goal

pub returns-clause-decision : goal.returns-clause-decision
returns-clause-decision g c r a at order = crew_mine c r order a at

pub returns-clause-afterwards : goal.returns-clause-afterwards
returns-clause-afterwards g c r a at order = mine_after c a at r order
