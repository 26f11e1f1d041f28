use Rattle.std.proofs.Common.{◌∙◌, append_assoc}
use Rattle.std.proofs.lemmas.Result.{IfOk-weaker}
use Rattle.dispatch_room_board.specs.BoardCells.{named_text}
use Rattle.dispatch_room_board.proofs.cell_texts.text_of.Goals as goal

pub returns-in-Named : goal.returns-in-Named
unfolding named_text
returns-in-Named c =
    IfOk-weaker c.format.result _ _ (λ s h. h ∙ rw (c.in-Named.is) (simp append_assoc)) c.format.ensures.ok
