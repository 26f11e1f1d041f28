use Rattle.dispatch_room_journal.proofs.SoundLemmas.{written_law}
use Rattle.dispatch_room_journal.proofs.chain_laws.written.Goals as goal

pub returns : goal.returns
returns c = written_law
