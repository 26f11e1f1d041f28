use Rattle.dispatch_room_journal.proofs.AdvanceLemmas.{kept_same}
use Rattle.dispatch_room_journal.proofs.list_source.ListSource.read_on.Goals as goal

pub returns-in-Err-clause-step : goal.returns-in-Err-clause-step
returns-in-Err-clause-step g c = let b = c.in-Err.ensures.bytes in rw b.0 (kept_same _ _ _ _ _ b.1)
