use Rattle.room_model.proofs.RepeatLaws.{report_repeated}
use Rattle.room_model.proofs.repeat_laws.a_repeated_report_acts_once.Goals as goal

pub returns : goal.returns
returns g c p at later r es order ok = report_repeated c p at r es order ok later
