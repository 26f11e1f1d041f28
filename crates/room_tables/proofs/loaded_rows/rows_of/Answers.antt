use Rattle.std.proofs.Common.{◌≡◌, ◌∙◌, ◌++◌, ◌∷◌, [], None, Ok, ap, refl, subst, sym, take}
use Rattle.std.proofs.Common.{take_all}
use Rattle.std.proofs.lemmas.List.{take_more}
use Rattle.room_tables.specs.RowStreams.{AreRead, AreTaken}
use Rattle.room_tables.proofs.Streams.{of_rows}
use Rattle.room_tables.proofs.loaded_rows.rows_of.Goals as goal

pub loop-columns-preserved : goal.loop-columns-preserved
loop-columns-preserved g c =
    let shown = c.args.shown.now in
    let i = c.loop-columns.columns-index in
    let row = c.columns-item.result in
    let new = c.take.new.self in
    let more = take_more shown i row c.loop-columns-test.true
    ∙ ap (λ r. take i shown ++ r ∷ []) (sym c.columns-item.is) in
    subst (λ rows.
    AreTaken g.X.Stored.is_row g.X.Key.Ord.cmp g.X.Row.key_of g.X.Stored.cells
    (λ first rows now. first ≡ [] → now ≡ rows) [] rows new.taker new.last new.taken) (sym more)
    (c.take.ensures (record { taker = []; last = None; taken = Ok tt }) (take i shown)
    (λ none well. c.loop-columns.invariant) refl refl)

pub returns : goal.returns
returns g c =
    let order = g.X.Key.Ord.cmp in
    let key = g.X.Row.key_of in
    let read = c.end.ensures [] _ c.loop-columns.invariant in
    let all = subst
    (λ shown.
    AreRead g.X.Stored.is_row order key g.X.Stored.cells (λ first rows now. first ≡ [] → now ≡ rows) [] shown
    c.end.result) (take_all c.loop-columns.columns-index c.args.shown.now c.loop-columns-test.false) read in
    let stated = of_rows g.X.Stored.is_row order key g.X.Stored.cells c.args.shown.now c.end.result all in
    record { shown = stated.0; keyed = stated.1; why = stated.2 }
