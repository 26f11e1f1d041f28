-- What was shown is what was asked for.
use Rattle.room_tables_schema.specs.Schema.{room_schema}
use Rattle.room_tables_rows.proofs.IncidentsTable.{incidents_since_are, incidents_since_means}
use Rattle.room_tables_rows.specs.declared.incident_sql.TheConstants.{INCIDENTS_SINCE}
use Rattle.sqlite.specs.Held.{state}
use Rattle.std.proofs.lemmas.Int.{to_z-of_z}
use Rattle.std.proofs.lemmas.Result.{IfOk-weaker}
use Rattle.std.specs.Int.{w64}
use Rattle.room_tables_schema.proofs.Refusals.{plain_here}
use Rattle.room_tables.proofs.RoomReads.{was_clean}
use Rattle.room_tables.proofs.incident_table.incidents_since.Goals as goal

pub load-requires : goal.load-requires
load-requires g c clean =
    plain_here room_schema _ INCIDENTS_SINCE.now (c.requires.room clean) incidents_since_means.plain

pub returns-clause-rows : goal.returns-clause-rows
returns-clause-rows g c clean =
    let old = state g.S.Store c.args.conn.now in
    let early = was_clean c.load.ensures.reads.survives clean in
    IfOk-weaker c.load.result _ _
    (λ found shown.
    incidents_since_are c.args.from old (state g.S.Store c.load.new.conn) found (c.requires.room early)
    (rw (c.second.ensures, to_z-of_z w64 c.args.from c.ranges.from) at shown)) (c.load.ensures.shown clean)

pub returns-clause-why : goal.returns-clause-why
returns-clause-why g c clean =
    rw (c.second.ensures, to_z-of_z w64 c.args.from c.ranges.from) at (c.load.ensures.why clean)

pub returns-clause-reads : goal.returns-clause-reads
returns-clause-reads g c = c.load.ensures.reads
