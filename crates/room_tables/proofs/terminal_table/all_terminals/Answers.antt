-- What was shown are all terminals.
use Rattle.std.proofs.Common.{[], subst, sym, ◌∙◌}
use Rattle.std.proofs.lemmas.Result.{IfErr-weaker, IfOk-weaker}
use Rattle.sqlite.specs.Held.{state}
use Rattle.sqlite.specs.State.{Shown}
use Rattle.sqlite_exec.proofs.LoopsLemmas.{ok_both}
use Rattle.room_tables_schema.proofs.Refusals.{plain_here}
use Rattle.room_model.specs.FleetRows.{terminal_key, token_cmp}
use Rattle.room_tables_schema.specs.Schema.{room_schema}
use Rattle.room_tables_rows.specs.TerminalSql.{is_terminal_row, terminal_row}
use Rattle.room_tables_rows.specs.declared.terminal_sql.TheConstants.{ALL_TERMINALS}
use Rattle.room_tables_rows.proofs.TerminalsTable.{all_terminals_means, all_terminals_are}
use Rattle.room_tables_schema.proofs.ReadLaws.{ends_inside, fails_inside}
use Rattle.room_tables.specs.Failures.{AreNoRows}
use Rattle.room_tables.proofs.ReadFailures.{shown_fails}
use Rattle.room_tables.proofs.RoomReads.{was_clean}
use Rattle.room_tables.proofs.terminal_table.all_terminals.Goals as goal

pub select_inside-requires : goal.select_inside-requires
select_inside-requires g c clean =
    plain_here room_schema _ ALL_TERMINALS.now (c.requires.room clean) all_terminals_means.plain

pub returns-clause-terminals : goal.returns-clause-terminals
returns-clause-terminals g c clean =
    let old = state g.S.Store c.args.tx.now.conn.now in
    let new = state g.S.Store c.select_inside.new.tx.conn.now in
    let early = was_clean c.select_inside.ensures.reads.survives clean in
    IfOk-weaker c.terminals_in.result _ _
    (λ terminals read. (all_terminals_are old new terminals.items (c.requires.room early)
    (subst (Shown ALL_TERMINALS.now [] old new) (sym (read.0 ∙ c.as_slice.ensures.value))
    (c.in_ok-shown.ensures.shown clean)) read.1).1)
    (ok_both c.terminals_in.result _ _ c.terminals_in.ensures.shown c.terminals_in.ensures.keyed)

pub returns-clause-found : goal.returns-clause-found
returns-clause-found g c clean =
    let old = state g.S.Store c.args.tx.now.conn.now in
    let new = state g.S.Store c.select_inside.new.tx.conn.now in
    let early = was_clean c.select_inside.ensures.reads.survives clean in
    IfOk-weaker c.terminals_in.result _ _
    (λ terminals read. (all_terminals_are old new terminals.items (c.requires.room early)
    (subst (Shown ALL_TERMINALS.now [] old new) (sym (read.0 ∙ c.as_slice.ensures.value))
    (c.in_ok-shown.ensures.shown clean)) read.1).0)
    (ok_both c.terminals_in.result _ _ c.terminals_in.ensures.shown c.terminals_in.ensures.keyed)

pub returns-clause-why : goal.returns-clause-why
returns-clause-why g c clean =
    IfErr-weaker c.terminals_in.result _ _ (shown_fails ALL_TERMINALS.now [] (state g.S.Store c.args.tx.now.conn.now)
    (state g.S.Store c.select_inside.new.tx.conn.now) (AreNoRows is_terminal_row token_cmp terminal_key terminal_row)
    c.in_ok-shown.shown.items (c.in_ok-shown.ensures.shown clean))
    (rw c.as_slice.ensures.value at c.terminals_in.ensures.why)

pub returns-clause-reads : goal.returns-clause-reads
returns-clause-reads g c = ends_inside c.terminals_in.result c.in_ok-shown.ensures.reads

pub returns-in_err-shown-clause-reads : goal.returns-in_err-shown-clause-reads
returns-in_err-shown-clause-reads g c = fails_inside c.from_residual.ensures.0 c.in_err-shown.ensures.reads
