-- What was shown is what was asked for.
use Rattle.room_tables_schema.specs.Schema.{room_schema}
use Rattle.room_tables_rows.proofs.ReportsTable.{reports_of_are, reports_of_means}
use Rattle.room_tables_rows.specs.declared.report_sql.TheConstants.{REPORTS_OF}
use Rattle.sqlite.specs.Held.{state}
use Rattle.std.proofs.lemmas.Result.{IfOk-weaker}
use Rattle.room_tables_schema.proofs.Refusals.{plain_here}
use Rattle.room_tables.proofs.RoomReads.{was_clean}
use Rattle.room_tables.proofs.report_table.reports_of.Goals as goal

pub load-requires : goal.load-requires
load-requires g c clean = plain_here room_schema _ REPORTS_OF.now (c.requires.room clean) reports_of_means.plain

pub returns-clause-rows : goal.returns-clause-rows
returns-clause-rows g c clean =
    let old = state g.S.Store c.args.conn.now in
    let early = was_clean c.load.ensures.reads.survives clean in
    IfOk-weaker c.load.result _ _
    (λ found shown.
    reports_of_are c.args.callsign.now c.args.division old (state g.S.Store c.load.new.conn) found
    (c.requires.room early) (rw (c.store.ensures, c.store-2.ensures) at shown)) (c.load.ensures.shown clean)

pub returns-clause-why : goal.returns-clause-why
returns-clause-why g c clean = rw (c.store.ensures, c.store-2.ensures) at (c.load.ensures.why clean)

pub returns-clause-reads : goal.returns-clause-reads
returns-clause-reads g c = c.load.ensures.reads
