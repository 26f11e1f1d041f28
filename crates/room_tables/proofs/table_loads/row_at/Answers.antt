-- What was shown is the row of the key.
use Rattle.std.proofs.lemmas.Result.{IfOk-weaker}
use Rattle.sqlite.specs.Held.{state}
use Rattle.room_tables_schema.proofs.Refusals.{plain_here}
use Rattle.room_tables_schema.specs.Schema.{room_schema}
use Rattle.room_tables_rows.proofs.Loads.{row_of_key}
use Rattle.room_tables.proofs.RoomReads.{was_clean}
use Rattle.room_tables.proofs.table_loads.row_at.Goals as goal

pub find-requires : goal.find-requires
find-requires g c clean =
    rw c.statements.ensures.at (plain_here room_schema _ _ (c.requires.room clean)
    (g.met.X.Table.is_table.selects_at c.args.key.now).selects.plain)

pub returns-clause-row : goal.returns-clause-row
returns-clause-row g c clean =
    let old = state g.S.Store c.args.conn.now in
    let early = was_clean c.find.ensures.reads.survives clean in
    let is = g.met.X.Table.is_table in
    IfOk-weaker c.find.result _ _ (λ found shown.
    row_of_key is.is_held g.X.Table.texts.at _ c.args.key.now (is.selects_at c.args.key.now) old
    (state g.S.Store c.find.new.conn) found (c.requires.room early)
    (rw (c.statements.ensures.at, c.as_slice.ensures, c.key_columns.ensures) at shown)) (c.find.ensures.shown clean)

pub returns-clause-why : goal.returns-clause-why
returns-clause-why g c clean =
    rw (c.statements.ensures.at, c.as_slice.ensures, c.key_columns.ensures) at (c.find.ensures.why clean)

pub returns-clause-reads : goal.returns-clause-reads
returns-clause-reads g c = c.find.ensures.reads
