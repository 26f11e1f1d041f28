use Rattle.std.proofs.Common.{take}
use Rattle.dispatch_room_board.specs.Pages.{Adds}
use Rattle.dispatch_room_board.specs.BoardTables.{row_lines}
use Rattle.dispatch_room_board.proofs.table_layouts.put_rows.Given as goal

abbrev pub invariant-loop-row : goal.invariant-loop-row
invariant-loop-row g l =
    Adds l.initial.page l.page (row_lines g.T.Tabled.table l.initial.page.colour l.now (take l.row-index l.row-items))
