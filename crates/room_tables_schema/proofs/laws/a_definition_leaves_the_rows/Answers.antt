use Rattle.sqlite.specs.Held.{state}
use Rattle.room_tables_schema.proofs.Definitions.{create_makes, index_makes}
use Rattle.room_tables_schema.proofs.laws.a_definition_leaves_the_rows.Goals as goal

pub returns-clause-table : goal.returns-clause-table
returns-clause-table g c schema text =
    create_makes schema text (state g.S.Store c.args.before.now) (state g.S.Store c.args.after.now)

pub returns-clause-index : goal.returns-clause-index
returns-clause-index g c schema text =
    index_makes schema text (state g.S.Store c.args.before.now) (state g.S.Store c.args.after.now)
