use Rattle.std.proofs.Common.{◌≡◌, ◌++◌, replicate}
use Rattle.dispatch_room_board.proofs.cell_layout.put_spaces.Given as goal

abbrev pub invariant-spaces : goal.invariant-spaces
invariant-spaces l = l.line.items ≡ l.initial.line.items ++ replicate l._put 32
