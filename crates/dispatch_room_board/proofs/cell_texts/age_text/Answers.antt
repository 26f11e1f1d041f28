use Rattle.std.proofs.Common.{◌∙◌, append_assoc}
use Rattle.std.proofs.lemmas.Result.{IfOk-weaker}
use Rattle.dispatch_room_board.specs.BoardCells.{age_text}
use Rattle.dispatch_room_board.proofs.cell_texts.age_text.Goals as goal

pub returns : goal.returns
unfolding age_text
returns c = IfOk-weaker c.format.result _ _ (λ s h. h ∙ simp append_assoc) c.format.ensures.ok
