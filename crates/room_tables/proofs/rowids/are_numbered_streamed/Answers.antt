use Rattle.room_tables.proofs.RowidLemmas.{select_each}
use Rattle.room_tables.proofs.rowids.are_numbered_streamed.Goals as goal

pub are_all_numbered_streamed-requires-clause-texts : goal.are_all_numbered_streamed-requires-clause-texts
are_all_numbered_streamed-requires-clause-texts g c = select_each
