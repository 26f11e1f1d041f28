-- What was shown is what was asked for.
use Rattle.std.proofs.Common.{ap, arith, refl, ◌∙◌}
use Rattle.sqlite.specs.Held.{state}
use Rattle.sqlite.specs.State.{HasCleanDisk}
use Rattle.room_model.specs.Queries.{greatest_serial, last_serial}
use Rattle.room_tables_schema.specs.Schema.{room_schema}
use Rattle.room_tables_rows.proofs.CallsTable.{calls_by_are, calls_by_means}
use Rattle.room_tables_rows.specs.declared.call_sql.TheConstants.{CALLS_BY}
use Rattle.room_tables_schema.proofs.ReadLaws.{fails, looked, succeeds}
use Rattle.room_tables_schema.proofs.Refusals.{plain_here}
use Rattle.room_tables.proofs.call_table.last_serial.Goals as goal

pub each_shown-requires : goal.each_shown-requires
each_shown-requires g c clean = plain_here room_schema _ CALLS_BY.now (c.requires.room clean) calls_by_means.plain

pub returns-in-Ok-clause-serial : goal.returns-in-Ok-clause-serial
unfolding last_serial
returns-in-Ok-clause-serial g c clean config room h =
    let old = state g.S.Store c.args.conn.now in
    let new = state g.S.Store c.each_shown.new.conn in
    let early : HasCleanDisk old = omega (arith, c.in-Ok.ensures.reads.survives.clean) in
    let taken = c.in-Ok.ensures.taken clean in
    let shown = rw c.store.ensures at taken.1.shown in
    let found = calls_by_are c.args.position old new taken.0 (c.requires.room early) shown config room h in
    taken.2 c.of.ensures ∙ ap greatest_serial found

pub returns-in-Ok-clause-reads : goal.returns-in-Ok-clause-reads
returns-in-Ok-clause-reads g c = succeeds (looked c.in-Ok.ensures.reads)

pub returns-in-Err-clause-why : goal.returns-in-Err-clause-why
returns-in-Err-clause-why g c clean = rw c.store.ensures at (c.in-Err.ensures.why clean)

pub returns-in-Err-clause-reads : goal.returns-in-Err-clause-reads
returns-in-Err-clause-reads g c = fails refl c.in-Err.ensures.reads
