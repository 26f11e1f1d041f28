use Rattle.std.proofs.Common.{◌∙◌, append_assoc}
use Rattle.std.proofs.lemmas.Result.{IfOk-weaker}
use Rattle.dispatch_room_board.specs.Histories.{summary_title}
use Rattle.dispatch_room_board.proofs.summary_columns.title_of.Goals as goal

pub returns : goal.returns
unfolding summary_title
returns c =
    IfOk-weaker c.format.result _ _
    (λ s h.
    h
    ∙ rw (c.as_str-state.ensures.value, c.in_ok-state.ensures, c.state.ensures, c.get-number.ensures.value)
    (simp append_assoc))
    c.format.ensures.ok
