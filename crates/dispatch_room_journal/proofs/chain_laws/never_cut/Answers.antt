use Rattle.dispatch_room_journal.proofs.CutLemmas.{never_cut_law}
use Rattle.dispatch_room_journal.proofs.chain_laws.never_cut.Goals as goal

pub returns : goal.returns
returns c = never_cut_law
