use Rattle.std.proofs.Common.{◌∙◌}
use Rattle.dispatch_room_board.proofs.renderer.date_of.Goals as goal

pub returns : goal.returns
returns c = (rw c.unwrap.ensures at c.from_unix_secs.ensures.value) ∙ c.from.ensures ∙ c.get.ensures.value
