use Rattle.std.proofs.Common.{◌∙◌}
use Rattle.dispatch_room_board.specs.Requests.{requests}
use Rattle.dispatch_room_board.proofs.requests.requests.Goals as goal

pub returns : goal.returns
unfolding requests
returns c =
    c.in_ok-put_requests.ensures ∙ rw (c.new-text.ensures.bytes, c.as_str.ensures.value, c.in_ok-fields.ensures)
