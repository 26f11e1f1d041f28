use Rattle.std.proofs.Common.{refl}
use Rattle.std.proofs.lemmas.List.{take_all}
use Rattle.dispatch_room_board.proofs.Shown.{adds_more, lines_more, none_shown, table_shown}
use Rattle.dispatch_room_board.proofs.table_layouts.put_rows.Goals as goal

pub returns-then-is_empty : goal.returns-then-is_empty
returns-then-is_empty g c =
    none_shown g.T.Tabled.table c.args.now c.args.rows.now c.args.page.now c.put_count.new.page
    (c.if-is_empty.ensures.0 refl)
    (rw (c.layout-layout.ensures.title, c.len.ensures) at c.in_ok-put_count.ensures)

pub loop-row-preserved : goal.loop-row-preserved
loop-row-preserved g c =
    let kept = c.loop-row.invariant in
    adds_more c.put_line.new.self c.loop-row.page c.put.new.page _ _ _ kept
    (rw kept.1 at c.in_ok-put.ensures.0, c.in_ok-put.ensures.1)
    (lines_more g.T.Tabled.table _ _ _ _ _ c.loop-row-test.true c.row-item.is)

pub returns : goal.returns
returns g c =
    table_shown g.T.Tabled.table c.args.now c.args.rows.now c.args.page.now c.put_count.new.page c.put_line.new.self
    c.loop-row.page
    (λ none. cc (c.if-is_empty.ensures.1 none))
    (rw (c.layout-layout.ensures.title, c.len.ensures) at c.in_ok-put_count.ensures)
    (rw c.layout-layout.ensures.titles at c.in_ok-put_line.ensures)
    (rw (take_all _ _ c.loop-row-test.false, c.as_slice-row-items.ensures) at c.loop-row.invariant)
