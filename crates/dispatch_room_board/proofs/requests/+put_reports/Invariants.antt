use Rattle.std.proofs.Common.{length}
use Rattle.dispatch_room_board.proofs.requests.+put_reports.Given as goal

abbrev pub decreases-put_reports : goal.decreases-put_reports
decreases-put_reports l = length l.vehicles.now
