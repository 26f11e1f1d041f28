use Rattle.std.proofs.Common.{◌∙◌, append_assoc}
use Rattle.std.proofs.lemmas.Result.{IfOk-weaker}
use Rattle.dispatch_room_board.specs.BoardCells.{place_text}
use Rattle.dispatch_room_board.proofs.cell_texts.place_text.Goals as goal

pub returns : goal.returns
unfolding place_text
returns c = IfOk-weaker c.format.result _ _
    (λ s h.
    h
    ∙ rw (
      c.in_ok-east.ensures,
      c.in_ok-north.ensures,
      c.square_of-square.ensures,
      c.get-east.ensures.value,
      c.get-north.ensures.value,
    ) (simp append_assoc))
    c.format.ensures.ok
