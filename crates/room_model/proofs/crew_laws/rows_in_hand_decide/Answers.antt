use Rattle.room_model.proofs.CrewLaws.{last_in_hand, order_in_hand, report_in_hand}
use Rattle.room_model.proofs.crew_laws.rows_in_hand_decide.Goals as goal

pub returns-clause-report : goal.returns-clause-report
returns-clause-report g c r p at order = report_in_hand c r order p at

pub returns-clause-order : goal.returns-clause-order
returns-clause-order g c r n at order = order_in_hand c r order n at

pub returns-clause-last : goal.returns-clause-last
returns-clause-last g c r n at order = last_in_hand c r order n at
