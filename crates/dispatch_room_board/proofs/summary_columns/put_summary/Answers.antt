use Rattle.std.proofs.lemmas.Result.{on_ok_weaker}
use Rattle.dispatch_room_board.proofs.HistoryLines.{summary_shown}
use Rattle.dispatch_room_board.proofs.summary_columns.put_summary.Goals as goal

pub returns : goal.returns
returns c =
    let title = rw (c.as_str.ensures.value, c.in_ok-title.ensures) at c.in_ok-put_spaced.ensures in
    on_ok_weaker c.put_row.result
    (λ row.
    summary_shown c.args.now c.args.summary.now c.args.page.now c.put_spaced.new.self c.put_line.new.self
    c.put_row.new.page
    title c.in_ok-put_line.ensures row)
    c.put_row.ensures
