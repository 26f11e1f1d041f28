use Rattle.std.proofs.Common.{◌∙◌}
use Rattle.dispatch_room_board.specs.Requests.{report_requests}
use Rattle.dispatch_room_board.proofs.requests.report_requests.Goals as goal

pub returns : goal.returns
unfolding report_requests
returns c =
    c.in_ok-put_reports.ensures ∙ rw (c.new-text.ensures.bytes, c.as_str.ensures.value, c.in_ok-fields.ensures)
