use Rattle.std.proofs.Common.{arith}
use Rattle.std.proofs.lemmas.Result.{IfOk-weaker}
use Rattle.sqlite.specs.Held.{state}
use Rattle.sqlite.specs.State.{HasCleanDisk}
use Rattle.room_tables_rows.proofs.Loads.{all_rows}
use Rattle.room_tables_schema.specs.Schema.{room_schema}
use Rattle.room_tables_schema.proofs.Refusals.{plain_here}
use Rattle.room_tables.proofs.row_streams.each_row.Goals as goal

pub each_shown-requires : goal.each_shown-requires
each_shown-requires g c clean =
    rw c.statements.ensures.all
    (plain_here room_schema _ _ (c.requires.room clean) g.met.T.Row.Table.is_table.selects_all.plain)

pub returns-clause-taken : goal.returns-clause-taken
returns-clause-taken g c clean =
    let old = state g.S.Store c.args.conn.now in
    let new = state g.S.Store c.each_shown.new.conn in
    let early : HasCleanDisk old = omega (arith, c.each_shown.ensures.reads.survives.clean) in
    let is = g.met.T.Row.Table.is_table in
    let text = g.T.Row.Table.texts.all in
    IfOk-weaker c.each_shown.result _ _ (λ taken stated.
    let shown = rw c.statements.ensures.all at stated.1.shown in
    let all = all_rows is.is_held text is.selects_all old new stated.0 (c.requires.room early) shown stated.1.keyed in
    (stated.0, record { keyed = stated.1.keyed; stands = all.0; of_any = all.1 }, stated.2))
    (c.each_shown.ensures.taken clean)

pub returns-clause-why : goal.returns-clause-why
returns-clause-why g c clean = rw c.statements.ensures.all at (c.each_shown.ensures.why clean)

pub returns-clause-reads : goal.returns-clause-reads
returns-clause-reads g c = c.each_shown.ensures.reads
