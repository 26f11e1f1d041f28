use Rattle.std.proofs.lemmas.Result.{on_ok_weaker}
use Rattle.dispatch_room_board.proofs.Notes.{note_in_lines}
use Rattle.dispatch_room_board.proofs.board_pages.Page.put_note.Goals as goal

pub returns : goal.returns
returns c =
    on_ok_weaker c.put_noted-2.result
    (λ h.
    note_in_lines c.args.self.now c.put_noted.new.self c.put_noted-2.new.self _ _ _ c.as_bytes-note.ensures.value
    c.rest.ensures
    c.in_ok-put_noted.ensures.line h)
    c.put_noted-2.ensures.line
