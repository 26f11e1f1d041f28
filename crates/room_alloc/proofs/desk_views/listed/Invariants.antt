use Rattle.std.proofs.Common.{◌≡◌, take}
use Rattle.room_alloc.proofs.desk_views.listed.Given as goal

abbrev pub invariant-loop-line : goal.invariant-loop-line
invariant-loop-line g l = l.copies ≡ take l.line-index l.lines
