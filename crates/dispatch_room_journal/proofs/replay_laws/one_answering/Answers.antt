use Rattle.dispatch_room_journal.proofs.ReplayLawLemmas.{one_answering_law}
use Rattle.dispatch_room_journal.proofs.replay_laws.one_answering.Goals as goal

pub returns : goal.returns
returns c = one_answering_law
