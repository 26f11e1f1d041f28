use Rattle.dispatch_room_journal.proofs.EntryLemmas.{one_entry_law}
use Rattle.dispatch_room_journal.proofs.laws.one_entry.Goals as goal

pub returns : goal.returns
returns c = one_entry_law
