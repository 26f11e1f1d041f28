use Rattle.std.proofs.Common.{map, take, ◌++◌, ◌≡◌}
use Rattle.dispatch_room_archive.proofs.put_changes.put_all.Given as goal

abbrev pub invariant-loop-row : goal.invariant-loop-row
invariant-loop-row g l = l.changes.items ≡ l.fn.changes.items ++ map g.R.Put.put_of (take l.row-index l.fn.rows)
