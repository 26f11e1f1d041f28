use Rattle.std.proofs.Common.{◌∙◌, append_assoc}
use Rattle.std.proofs.lemmas.Result.{IfOk-weaker}
use Rattle.dispatch_room_board.specs.BoardErrors.{error_text}
use Rattle.dispatch_room_board.proofs.board_errors.error_text.Goals as goal

pub returns-in-Unheard : goal.returns-in-Unheard
unfolding error_text
returns-in-Unheard c = IfOk-weaker c.format.result _ _ (λ s h. h ∙ rw c.in-Unheard.is) c.format.ensures.ok

pub returns-in-Foreign : goal.returns-in-Foreign
unfolding error_text
returns-in-Foreign c =
    IfOk-weaker c.format-in-Foreign.result _ _ (λ s h. h ∙ rw c.in-Foreign.is) c.format-in-Foreign.ensures.ok

pub returns-in-Refused : goal.returns-in-Refused
unfolding error_text
returns-in-Refused c =
    IfOk-weaker c.format-in-Refused.result _ _
    (λ s h. h ∙ rw (c.in-Refused.is, c.as_str-name.ensures.text) (simp append_assoc)) c.format-in-Refused.ensures.ok
