use Rattle.std.proofs.Common.{arith, length, ◌∙◌, ◌≤◌}
use Rattle.std.proofs.lemmas.List.{drop_all}
use Rattle.room_store_reads.proofs.KeyedUnions.{union_is}
use Rattle.room_store_reads.proofs.row_unions.add_all.Goals as goal

pub returns-clause-either : goal.returns-clause-either
returns-clause-either g c table first second keyed before passing =
    let past : length c.as_slice-row-items.result.now ≤ c.loop-row.row-index = omega (arith, c.loop-row-test.false) in
    let none_left = drop_all c.loop-row.row-index c.args.more.now (rw c.as_slice-row-items.ensures.all at past) in
    rw none_left at c.loop-row.invariant
    ∙ rw (before, passing) (union_is g.R.Key.Ord.cmp g.R.Row.key_of g.met.R.Key.Ord.total first second table keyed)
