use Rattle.std.proofs.Common.{take}
use Rattle.room_tables.specs.Rowids.{ShowsRise}
use Rattle.room_tables.proofs.rowids.rise.Given as goal

abbrev pub invariant-loop-row : goal.invariant-loop-row
invariant-loop-row l = ShowsRise (take l.row-index l.shown) l.rowids.rise l.rowids.last
