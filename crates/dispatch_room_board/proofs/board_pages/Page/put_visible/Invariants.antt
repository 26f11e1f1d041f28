use Rattle.std.proofs.Common.{map, take}
use Rattle.dispatch_room_board.specs.Pages.{Adds, visible}
use Rattle.dispatch_room_board.proofs.board_pages.Page.put_visible.Given as goal

abbrev pub invariant-loop-byte : goal.invariant-loop-byte
invariant-loop-byte l = Adds l.initial.self l.self (map visible (take l.byte-index l.text))
