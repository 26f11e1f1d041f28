use Rattle.room_model.proofs.OwnDesk.{desk_own}
use Rattle.room_model.proofs.WorkingLaw.{desk_working}
use Rattle.room_model.proofs.isolation_laws.desks_decide_by_their_rows.Goals as goal

pub returns-clause-share : goal.returns-clause-share
returns-clause-share g d r a at order = desk_own d r order a at

pub returns-clause-working : goal.returns-clause-working
returns-clause-working g d r a at w = desk_working d r w a at
