use Rattle.std.proofs.Common.{[], refl}
use Rattle.room_tables_schema.proofs.Standing.{holds_none}
use Rattle.room_tables_schema.proofs.laws.an_empty_tree_stands_for_no_rows.Goals as goal

pub returns : goal.returns
returns c places key = holds_none places key [] refl
