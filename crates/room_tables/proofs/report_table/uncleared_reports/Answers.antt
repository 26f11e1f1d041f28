-- What was shown is what was asked for.
use Rattle.room_tables_schema.specs.Schema.{room_schema}
use Rattle.room_tables_rows.proofs.ReportsTable.{uncleared_reports_are, uncleared_reports_means}
use Rattle.room_tables_rows.specs.declared.report_sql.TheConstants.{UNCLEARED_REPORTS}
use Rattle.sqlite.specs.Held.{state}
use Rattle.std.proofs.lemmas.Result.{IfOk-weaker}
use Rattle.room_tables_schema.proofs.Refusals.{plain_here}
use Rattle.room_tables.proofs.RoomReads.{was_clean}
use Rattle.room_tables.proofs.report_table.uncleared_reports.Goals as goal

pub load-requires : goal.load-requires
load-requires g c clean =
    plain_here room_schema _ UNCLEARED_REPORTS.now (c.requires.room clean) uncleared_reports_means.plain

pub returns-clause-rows : goal.returns-clause-rows
returns-clause-rows g c clean =
    let old = state g.S.Store c.args.conn.now in
    let early = was_clean c.load.ensures.reads.survives clean in
    IfOk-weaker c.load.result _ _
    (λ found shown.
    uncleared_reports_are c.args.outcome c.args.division old (state g.S.Store c.load.new.conn) found
    (c.requires.room early) (rw (c.store.ensures, c.store-2.ensures, c.store-3.ensures) at shown))
    (c.load.ensures.shown clean)

pub returns-clause-why : goal.returns-clause-why
returns-clause-why g c clean = rw (c.store.ensures, c.store-2.ensures, c.store-3.ensures) at (c.load.ensures.why clean)

pub returns-clause-reads : goal.returns-clause-reads
returns-clause-reads g c = c.load.ensures.reads
