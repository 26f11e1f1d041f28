use Rattle.std.proofs.lemmas.Result.{on_ok_weaker}
use Rattle.dispatch_room_board.proofs.Notes.{note_shown}
use Rattle.dispatch_room_board.proofs.call_columns.CallLineTabled.put.Goals as goal

pub returns : goal.returns
returns c =
    on_ok_weaker c.put_note.result
    (λ h.
    note_shown c.args.page.now c.put_row.new.page c.put_note.new.self _ _ _ c.as_str.ensures.text
    c.in_ok-put_row.ensures h)
    c.put_note.ensures
