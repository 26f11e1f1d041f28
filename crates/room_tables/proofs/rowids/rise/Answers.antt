use Rattle.std.proofs.Common.{◌∙◌, ◌++◌, ◌∷◌, [], None, true, ap, refl, subst, sym, take, take_all}
use Rattle.std.proofs.lemmas.List.{take_more}
use Rattle.room_tables.specs.Rowids.{ShowsRise}
use Rattle.room_tables.proofs.RowidLemmas.{rise_is}
use Rattle.room_tables.proofs.rowids.rise.Goals as goal

pub loop-row-preserved : goal.loop-row-preserved
loop-row-preserved c =
    let shown = c.args.shown.now in
    let i = c.loop-row.row-index in
    let row = c.row-item.result in
    let new = c.take.new.self in
    let more = take_more shown i row c.loop-row-test.true ∙ ap (λ r. take i shown ++ r ∷ []) (sym c.row-item.is) in
    subst (λ rows. ShowsRise rows new.rise new.last) (sym more)
    (c.take.ensures (record { rise = true; last = None }) (take i shown) (λ rise none. c.loop-row.invariant) refl refl)

pub returns : goal.returns
returns c =
    let all = take_all c.loop-row.row-index c.args.shown.now c.loop-row-test.false in
    rise_is c.args.shown.now c.loop-row.rowids.rise c.loop-row.rowids.last
    (subst (λ rows. ShowsRise rows c.loop-row.rowids.rise c.loop-row.rowids.last) all c.loop-row.invariant)
