use Rattle.dispatch_room_journal.proofs.ReplayLawLemmas.{one_replay_law}
use Rattle.dispatch_room_journal.proofs.replay_laws.one_replay.Goals as goal

pub returns : goal.returns
returns c = one_replay_law
