use Rattle.dispatch_room_journal.proofs.EntryLemmas.{no_end_law}
use Rattle.dispatch_room_journal.proofs.laws.no_end.Goals as goal

pub returns : goal.returns
returns c = no_end_law
