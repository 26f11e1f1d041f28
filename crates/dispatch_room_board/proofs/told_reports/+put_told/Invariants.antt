use Rattle.std.proofs.Common.{length}
use Rattle.dispatch_room_board.proofs.told_reports.+put_told.Given as goal

abbrev pub decreases-put_told : goal.decreases-put_told
decreases-put_told l = length l.vehicles.now
