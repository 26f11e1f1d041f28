use Rattle.room_tables.proofs.RowidLemmas.{select_each}
use Rattle.room_tables.proofs.rowids.are_numbered.Goals as goal

pub are_all_numbered-requires-clause-texts : goal.are_all_numbered-requires-clause-texts
are_all_numbered-requires-clause-texts g c = select_each
