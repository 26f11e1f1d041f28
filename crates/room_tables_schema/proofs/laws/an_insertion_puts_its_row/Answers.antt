use Rattle.sqlite.specs.Held.{state}
use Rattle.room_tables_schema.proofs.TypedTables.{insertion_puts}
use Rattle.room_tables_schema.proofs.laws.an_insertion_puts_its_row.Goals as goal

pub returns : goal.returns
returns g c order key row schema text =
    insertion_puts order key row schema text (state g.S.Store c.args.before.now) (state g.S.Store c.args.after.now)
