use Rattle.std.proofs.lemmas.Result.{on_ok_weaker}
use Rattle.dispatch_room_board.proofs.HistoryLines.{history_shown}
use Rattle.dispatch_room_board.proofs.history_lines.put_history.Goals as goal

pub returns : goal.returns
returns c =
    on_ok_weaker c.put_rows-2.result
    (λ turns.
    history_shown c.args.now c.args.history.now c.args.page.now c.put_summary.new.page c.put_rows.new.page
    c.put_rows-2.new.page
    c.in_ok-put_summary.ensures c.in_ok-put_rows.ensures turns)
    c.put_rows-2.ensures
