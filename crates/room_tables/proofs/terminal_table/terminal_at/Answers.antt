-- What was shown is what was asked for.
use Rattle.room_tables_schema.specs.Schema.{room_schema}
use Rattle.room_tables_rows.proofs.TerminalsTable.{terminal_at_is, terminal_at_means}
use Rattle.room_tables_rows.specs.declared.terminal_sql.TheConstants.{TERMINAL_AT}
use Rattle.sqlite.specs.Held.{state}
use Rattle.std.proofs.lemmas.Result.{IfOk-weaker}
use Rattle.room_tables_schema.proofs.Refusals.{plain_here}
use Rattle.room_tables.proofs.RoomReads.{was_clean}
use Rattle.room_tables.proofs.terminal_table.terminal_at.Goals as goal

pub find-requires : goal.find-requires
find-requires g c clean = plain_here room_schema _ TERMINAL_AT.now (c.requires.room clean) terminal_at_means.plain

pub returns-clause-row : goal.returns-clause-row
returns-clause-row g c clean =
    let old = state g.S.Store c.args.conn.now in
    let early = was_clean c.find.ensures.reads.survives clean in
    IfOk-weaker c.find.result _ _
    (λ found shown.
    terminal_at_is c.args.token.now old (state g.S.Store c.find.new.conn) found (c.requires.room early)
    (rw (c.store.ensures) at shown)) (c.find.ensures.shown clean)

pub returns-clause-why : goal.returns-clause-why
returns-clause-why g c clean = rw (c.store.ensures) at (c.find.ensures.why clean)

pub returns-clause-reads : goal.returns-clause-reads
returns-clause-reads g c = c.find.ensures.reads
