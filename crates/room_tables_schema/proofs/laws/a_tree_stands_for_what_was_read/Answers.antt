use Rattle.room_tables_schema.proofs.Openings.{stands_for_read, numbers_read}
use Rattle.room_tables_schema.proofs.laws.a_tree_stands_for_what_was_read.Goals as goal

pub returns-clause-rows : goal.returns-clause-rows
returns-clause-rows g c = stands_for_read

pub returns-clause-rowids : goal.returns-clause-rowids
returns-clause-rowids g c = numbers_read
