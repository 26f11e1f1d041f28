use Rattle.std.proofs.Common.{length}
use Rattle.dispatch_room_board.proofs.cell_layout.+put_cells.Given as goal

abbrev pub decreases-put_cells : goal.decreases-put_cells
decreases-put_cells l = length l.columns.now
