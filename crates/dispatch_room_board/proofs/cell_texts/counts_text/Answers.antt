use Rattle.std.proofs.Common.{◌∙◌, append_assoc}
use Rattle.std.proofs.lemmas.Result.{IfOk-weaker}
use Rattle.dispatch_room_board.specs.BoardCells.{counts_text}
use Rattle.dispatch_room_board.proofs.cell_texts.counts_text.Goals as goal

pub returns : goal.returns
unfolding counts_text
returns c =
    IfOk-weaker c.format.result _ _
    (λ s h.
    h ∙ rw (c.get-ambulances.ensures.value, c.get-cars.ensures.value, c.get-support.ensures.value) (simp append_assoc))
    c.format.ensures.ok
