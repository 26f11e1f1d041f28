use Rattle.room_http_messages.proofs.StreamLemmas.{known_count-more}
use Rattle.room_http_messages.proofs.standard_wires.WireSource.read.Goals as goal

pub returns-then-not-is_empty-clause-count : goal.returns-then-not-is_empty-clause-count
returns-then-not-is_empty-clause-count g c = known_count-more _ _ c.saturating_add-self.ensures

pub returns-else-count-eq0-clause-count : goal.returns-else-count-eq0-clause-count
returns-else-count-eq0-clause-count g c = known_count-more _ _ c.saturating_add-self.ensures

pub returns-in-Err-clause-count : goal.returns-in-Err-clause-count
returns-in-Err-clause-count g c = known_count-more _ _ c.saturating_add-self.ensures
