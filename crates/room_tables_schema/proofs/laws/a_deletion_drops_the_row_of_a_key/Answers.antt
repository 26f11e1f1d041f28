use Rattle.sqlite.specs.Held.{state}
use Rattle.room_tables_schema.proofs.TypedTables.{deletion_drops}
use Rattle.room_tables_schema.proofs.laws.a_deletion_drops_the_row_of_a_key.Goals as goal

pub returns : goal.returns
returns g c order key row schema text =
    deletion_drops order key row schema text (state g.S.Store c.args.before.now) (state g.S.Store c.args.after.now)
