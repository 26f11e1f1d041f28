use Rattle.std.proofs.Common.{◌∙◌, append_assoc, sym}
use Rattle.std.proofs.lemmas.Result.{on_ok_weaker}
use Rattle.dispatch_room_board.specs.Requests.{get, last_get}
use Rattle.dispatch_room_board.proofs.Exceptions.{get_last, get_more}
use Rattle.dispatch_room_board.proofs.requests.put_report.Goals as goal

pub returns-then-is_empty : goal.returns-then-is_empty
unfolding last_get
returns-then-is_empty c =
    on_ok_weaker c.write.result
    (λ h.
    h ∙ rw (get_last _ _ _ (sym c.if-is_empty.ensures), c.as_str-callsign.ensures.text) (simp append_assoc))
    c.write.ensures.bytes

pub returns-else-is_empty : goal.returns-else-is_empty
unfolding get
returns-else-is_empty c =
    on_ok_weaker c.write-else-is_empty.result
    (λ h.
    h ∙ rw (get_more _ _ _ (sym c.if-is_empty.ensures), c.as_str-callsign.ensures.text) (simp append_assoc))
    c.write-else-is_empty.ensures.bytes
