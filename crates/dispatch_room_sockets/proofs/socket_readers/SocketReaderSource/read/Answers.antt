use Rattle.std.proofs.Common.{ap}
use Rattle.room_http_messages.proofs.StreamLemmas.{known_count-more}
use Rattle.dispatch_room_sockets.proofs.socket_readers.SocketReaderSource.read.Goals as goal

pub returns-in_default-clause-count : goal.returns-in_default-clause-count
returns-in_default-clause-count g c = known_count-more _ _ c.saturating_add-self.ensures

pub returns-clause-count : goal.returns-clause-count
returns-clause-count g c =
    rw (ap (λ r. r.reads) c.note.ensures.kept) (known_count-more _ _ c.saturating_add-self.ensures)
