-- What was shown is what was asked for.
use Rattle.room_tables_schema.specs.Schema.{room_schema}
use Rattle.room_tables_rows.proofs.IncidentsTable.{active_incidents_are, active_incidents_means}
use Rattle.room_tables_rows.specs.declared.incident_sql.TheConstants.{ACTIVE_INCIDENTS}
use Rattle.sqlite.specs.Held.{state}
use Rattle.std.proofs.lemmas.Result.{IfOk-weaker}
use Rattle.room_tables_schema.proofs.Refusals.{plain_here}
use Rattle.room_tables.proofs.RoomReads.{was_clean}
use Rattle.room_tables.proofs.incident_table.active_incidents.Goals as goal

pub load-requires : goal.load-requires
load-requires g c clean =
    plain_here room_schema _ ACTIVE_INCIDENTS.now (c.requires.room clean) active_incidents_means.plain

pub returns-clause-rows : goal.returns-clause-rows
returns-clause-rows g c clean =
    let old = state g.S.Store c.args.conn.now in
    let early = was_clean c.load.ensures.reads.survives clean in
    IfOk-weaker c.load.result _ _
    (λ found shown.
    active_incidents_are c.args.division old (state g.S.Store c.load.new.conn) found (c.requires.room early)
    (rw (c.store.ensures, c.store-2.ensures, c.number-active.ensures) at shown)) (c.load.ensures.shown clean)

pub returns-clause-why : goal.returns-clause-why
returns-clause-why g c clean =
    rw (c.store.ensures, c.store-2.ensures, c.number-active.ensures) at (c.load.ensures.why clean)

pub returns-clause-reads : goal.returns-clause-reads
returns-clause-reads g c = c.load.ensures.reads
