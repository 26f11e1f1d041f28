use Rattle.dispatch_room_journal.proofs.TruncationLemmas.{never_truncated_law}
use Rattle.dispatch_room_journal.proofs.chain_laws.never_truncated.Goals as goal

pub returns : goal.returns
returns c = never_truncated_law
