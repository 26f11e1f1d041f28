use Rattle.room_tables_schema.proofs.TypedTables.{stands_for_one}
use Rattle.room_tables_schema.proofs.laws.a_tree_stands_for_one_list.Goals as goal

pub returns : goal.returns
returns g c = stands_for_one
