use Rattle.dispatch_room_journal.proofs.LossLemmas.{never_lost_law}
use Rattle.dispatch_room_journal.proofs.chain_laws.never_lost.Goals as goal

pub returns : goal.returns
returns c = never_lost_law
