use Rattle.std.proofs.Common.{Some, ap, arith, sym, ◌∙◌}
use Rattle.room_types.proofs.Search.{at_within, row_here, row_gap}
use Rattle.room_types.proofs.rows.find.Goals as goal

pub bounds-rows-at : goal.bounds-rows-at
bounds-rows-at g c = omega (arith, at_within g.R.Key.Ord.cmp g.R.Row.key_of _ _ _ c.in-Ok.ensures.found)

pub offset_bounds-rows-at : goal.offset_bounds-rows-at
offset_bounds-rows-at g c = omega (arith, at_within g.R.Key.Ord.cmp g.R.Row.key_of _ _ _ c.in-Ok.ensures.found)

pub returns-in-Ok : goal.returns-in-Ok
returns-in-Ok g c =
    ap Some c.index-rows-at.is
    ∙ sym (row_here g.R.Key.Ord.cmp g.R.Row.key_of g.met.R.Key.Ord.total _ _ _ c.index-rows-at.result
    c.in-Ok.ensures.found)

pub returns-in-Err : goal.returns-in-Err
returns-in-Err g c =
    sym (row_gap g.R.Key.Ord.cmp g.R.Row.key_of g.met.R.Key.Ord.total _ _ _ c.requires c.in-Err.ensures.absent)
