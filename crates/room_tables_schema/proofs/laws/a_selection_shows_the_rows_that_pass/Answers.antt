use Rattle.sqlite.specs.Held.{state}
use Rattle.room_tables_schema.proofs.Openings.{rowids_shown}
use Rattle.room_tables_schema.proofs.Selections.{shows_passing, shows_all}
use Rattle.room_tables_schema.proofs.laws.a_selection_shows_the_rows_that_pass.Goals as goal

pub returns-clause-passing : goal.returns-clause-passing
returns-clause-passing g c schema text =
    shows_passing schema text (state g.S.Store c.args.before.now) (state g.S.Store c.args.after.now)

pub returns-clause-all : goal.returns-clause-all
returns-clause-all g c schema text =
    shows_all schema text (state g.S.Store c.args.before.now) (state g.S.Store c.args.after.now)

pub returns-clause-rowids : goal.returns-clause-rowids
returns-clause-rowids g c schema text =
    rowids_shown schema text (state g.S.Store c.args.before.now) (state g.S.Store c.args.after.now)
