use Rattle.std.proofs.Common.{◌∙◌, append_assoc}
use Rattle.std.proofs.lemmas.Result.{IfOk-weaker}
use Rattle.dispatch_room_board.specs.ReportLines.{report_text}
use Rattle.dispatch_room_board.proofs.report_lines.report_text.Goals as goal

pub returns : goal.returns
unfolding report_text
returns c =
    IfOk-weaker c.format.result _ _
    (λ s h.
    h
    ∙ rw (
      c.name-button.ensures,
      c.name-outcome.ensures,
      c.as_str-order.ensures.value,
      c.in_ok-order.ensures,
      c.order.ensures,
      c.as_str-place.ensures.value,
      c.in_ok-place.ensures,
      c.as_str-time.ensures.value,
      c.in_ok-time.ensures,
      c.get.ensures.value,
    )
    (simp append_assoc))
    c.format.ensures.ok
