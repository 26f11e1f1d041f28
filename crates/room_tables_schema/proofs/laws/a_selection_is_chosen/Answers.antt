use Rattle.sqlite.specs.Held.{state}
use Rattle.room_tables_schema.proofs.TypedTables.{selection_is_chosen}
use Rattle.room_tables_schema.proofs.laws.a_selection_is_chosen.Goals as goal

pub returns : goal.returns
returns g c order key row schema text =
    selection_is_chosen order key row schema text (state g.S.Store c.args.before.now) (state g.S.Store c.args.after.now)
