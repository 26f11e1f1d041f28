use Rattle.dispatch_room_board.proofs.Readings.{read_none}
use Rattle.dispatch_room_board.proofs.report_lines.VehicleReportsFromAnswer.from_answer.Goals as goal

pub returns-in-None : goal.returns-in-None
returns-in-None c = read_none _ c.in-None.is c.in_ok-reports.ensures (λ it. it.reports) (λ it h. h)
