-- What was shown is the whole table.
use Rattle.std.proofs.Common.{[], arith, subst, sym, ◌∙◌}
use Rattle.std.proofs.lemmas.Result.{IfErr-weaker, IfOk-weaker}
use Rattle.sqlite.specs.Held.{state}
use Rattle.sqlite.specs.State.{HasCleanDisk, Shown}
use Rattle.sqlite_exec.proofs.LoopsLemmas.{ok_both}
use Rattle.room_tables_schema.proofs.Refusals.{plain_here}
use Rattle.room_tables_schema.specs.Schema.{room_schema}
use Rattle.room_tables_rows.proofs.Loads.{all_rows}
use Rattle.room_tables_schema.proofs.ReadLaws.{ends_inside, fails_inside}
use Rattle.room_tables.specs.Failures.{AreNoRows}
use Rattle.room_tables.proofs.ReadFailures.{shown_fails}
use Rattle.room_tables.proofs.table_loads.all_rows.Goals as goal

pub select_inside-requires : goal.select_inside-requires
select_inside-requires g c clean =
    rw c.statements.ensures.all
    (plain_here room_schema _ _ (c.requires.room clean) g.met.X.Table.is_table.selects_all.plain)

pub returns-clause-rows : goal.returns-clause-rows
returns-clause-rows g c clean =
    let old = state g.S.Store c.args.tx.now.conn.now in
    let new = state g.S.Store c.select_inside.new.tx.conn.now in
    let early : HasCleanDisk old = omega (arith, c.select_inside.ensures.reads.survives.clean) in
    let is = g.met.X.Table.is_table in
    let shown = rw c.statements.ensures.all at (c.in_ok-shown.ensures.shown clean) in
    IfOk-weaker c.rows_of.result _ _
    (λ found read. (all_rows is.is_held g.X.Table.texts.all is.selects_all old new found (c.requires.room early)
    (subst (Shown g.X.Table.texts.all [] old new) (sym (read.0 ∙ c.as_slice.ensures.value)) shown) read.1).1)
    (ok_both c.rows_of.result _ _ c.rows_of.ensures.shown c.rows_of.ensures.keyed)

pub returns-clause-found : goal.returns-clause-found
returns-clause-found g c clean =
    let old = state g.S.Store c.args.tx.now.conn.now in
    let new = state g.S.Store c.select_inside.new.tx.conn.now in
    let early : HasCleanDisk old = omega (arith, c.select_inside.ensures.reads.survives.clean) in
    let is = g.met.X.Table.is_table in
    let shown = rw c.statements.ensures.all at (c.in_ok-shown.ensures.shown clean) in
    IfOk-weaker c.rows_of.result _ _
    (λ found read. (all_rows is.is_held g.X.Table.texts.all is.selects_all old new found (c.requires.room early)
    (subst (Shown g.X.Table.texts.all [] old new) (sym (read.0 ∙ c.as_slice.ensures.value)) shown) read.1).0)
    (ok_both c.rows_of.result _ _ c.rows_of.ensures.shown c.rows_of.ensures.keyed)

pub returns-clause-why : goal.returns-clause-why
returns-clause-why g c clean =
    let shown = rw c.statements.ensures.all at (c.in_ok-shown.ensures.shown clean) in
    IfErr-weaker c.rows_of.result _ _ (shown_fails g.X.Table.texts.all [] (state g.S.Store c.args.tx.now.conn.now)
    (state g.S.Store c.select_inside.new.tx.conn.now)
    (AreNoRows g.X.Stored.is_row g.X.Key.Ord.cmp g.X.Row.key_of g.X.Stored.cells) c.in_ok-shown.shown.items shown)
    (rw c.as_slice.ensures.value at c.rows_of.ensures.why)

pub returns-clause-reads : goal.returns-clause-reads
returns-clause-reads g c = ends_inside c.rows_of.result c.in_ok-shown.ensures.reads

pub returns-in_err-shown-clause-reads : goal.returns-in_err-shown-clause-reads
returns-in_err-shown-clause-reads g c = fails_inside c.from_residual.ensures.0 c.in_err-shown.ensures.reads
