use Rattle.std.proofs.Common.{◌∙◌, append_assoc}
use Rattle.std.proofs.lemmas.Result.{IfOk-weaker}
use Rattle.dispatch_room_board.specs.BoardCells.{five_digits}
use Rattle.dispatch_room_board.proofs.cell_texts.five_digits.Goals as goal

pub returns : goal.returns
unfolding five_digits
returns c = IfOk-weaker c.format.result _ _ (λ s h. h ∙ simp append_assoc) c.format.ensures.ok
