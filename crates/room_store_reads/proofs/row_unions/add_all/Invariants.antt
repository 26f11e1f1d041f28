use Rattle.std.proofs.Common.{drop, ◌≡◌}
use Rattle.room_store_reads.proofs.KeyedUnions.{put_all}
use Rattle.room_store_reads.proofs.row_unions.add_all.Given as goal

abbrev pub invariant-loop-row : goal.invariant-loop-row
invariant-loop-row g l =
    put_all g.R.Key.Ord.cmp g.R.Row.key_of (drop l.row-index l.more) l.rows
    ≡ put_all g.R.Key.Ord.cmp g.R.Row.key_of l.more l.initial.rows
