use Rattle.dispatch_room_journal.proofs.ReplayLawLemmas.{kept_law}
use Rattle.dispatch_room_journal.proofs.replay_laws.a_replay_keeps_the_promises.Goals as goal

pub returns : goal.returns
returns c = kept_law
