use Rattle.std.proofs.Common.{ap, arith, length, refl, sym, ◌+◌, ◌-◌, ◌∙◌, ◌≡◌}
use Rattle.room_types.proofs.Search.{at_within, lend_here, row_gap, row_here}
use Rattle.room_types.proofs.rows.Rows.lend.Goals as goal

pub index-requires : goal.index-requires
index-requires g c =
    omega (
      arith,
      at_within g.R.Key.Ord.cmp g.R.Row.key_of _ _ _ c.in-Ok.ensures.found,
      ap length c.self.view_is,
      c.self.inside.rows.ok.0,
    )

pub overflow_add-result : goal.overflow_add-result
overflow_add-result g c =
    omega (
      arith,
      at_within g.R.Key.Ord.cmp g.R.Row.key_of _ _ _ c.in-Ok.ensures.found,
      ap length c.self.view_is,
      c.self.inside.rows.ok.0,
    )

pub offset_bounds-deref-at : goal.offset_bounds-deref-at
offset_bounds-deref-at g c =
    omega (
      arith,
      at_within g.R.Key.Ord.cmp g.R.Row.key_of _ _ _ c.in-Ok.ensures.found,
      ap length (c.deref.ensures.value ∙ c.self.view_is),
    )

pub slice_bounds-result-end : goal.slice_bounds-result-end
slice_bounds-result-end g c =
    omega (
      arith,
      at_within g.R.Key.Ord.cmp g.R.Row.key_of _ _ _ c.in-Ok.ensures.found,
      ap length (c.deref.ensures.value ∙ c.self.view_is),
    )

pub returns-then-owned_by : goal.returns-then-owned_by
returns-then-owned_by g c =
    let at = c.in-Ok.at in
    let one : at + 1 - at ≡ 1 = omega arith in
    let row = rw c.self.view_is at c.index.ensures in
    let owned = rw row at (sym c.owned_by.ensures ∙ c.if-owned_by.true) in
    rw (c.deref.ensures.value, c.self.view_is, one)
    (lend_here g.R.Key.Ord.cmp g.R.Row.key_of g.met.R.Key.Ord.total (g.R.Row.owned c.args.division) _ _ at
    c.index.result.now c.in-Ok.ensures.found owned)

pub returns-else-owned_by : goal.returns-else-owned_by
returns-else-owned_by g c =
    let row = rw c.self.view_is at c.index.ensures in
    let owned = rw row at (sym c.owned_by.ensures ∙ c.if-owned_by.false) in
    rw (
      c.none.ensures,
      row_here g.R.Key.Ord.cmp g.R.Row.key_of g.met.R.Key.Ord.total c.args.self.now c.args.key.now
          c.in-Ok.at c.index.result.now c.in-Ok.ensures.found,
      owned,
    ) refl

pub returns-in-Err : goal.returns-in-Err
returns-in-Err g c =
    rw (
      c.none-in-Err.ensures,
      row_gap g.R.Key.Ord.cmp g.R.Row.key_of g.met.R.Key.Ord.total c.args.self.now
          c.args.key.now _ (rw c.self.view_is at c.self.invariant) c.in-Err.ensures.absent,
    ) refl
