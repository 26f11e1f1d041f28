use Rattle.std.proofs.Common.{◌∙◌}
use Rattle.room_http_messages.proofs.StreamLemmas.{known_count-more}
use Rattle.dispatch_room_sockets.proofs.pieces.PieceReaderSource.read.Goals as goal

pub returns-clause-count : goal.returns-clause-count
returns-clause-count g c =
    rw (c.note.ensures.same.0 ∙ c.give-given.ensures.same.2) (known_count-more _ _ c.saturating_add-self.ensures)
