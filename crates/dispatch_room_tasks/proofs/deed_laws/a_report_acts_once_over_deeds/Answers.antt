use Rattle.dispatch_room_tasks.proofs.DeedLaws.{report_once_over}
use Rattle.dispatch_room_tasks.proofs.deed_laws.a_report_acts_once_over_deeds.Goals as goal

pub returns : goal.returns
returns c = λ c p at later deeds now sound there. report_once_over c p at later deeds now sound there
