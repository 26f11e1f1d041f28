use Rattle.dispatch_room_journal.proofs.EntryLemmas.{one_journal_law}
use Rattle.dispatch_room_journal.proofs.laws.one_journal.Goals as goal

pub returns : goal.returns
returns c = one_journal_law
