-- What was shown is read, and nothing changed.
use Rattle.std.proofs.Common.{subst, sym, ◌∙◌}
use Rattle.std.proofs.lemmas.Result.{IfErr-weaker, IfOk-weaker}
use Rattle.sqlite.specs.Held.{state}
use Rattle.room_tables_schema.proofs.ReadLaws.{ends_any, fails, looked}
use Rattle.room_tables.proofs.ReadFailures.{shown_fails}
use Rattle.sqlite.specs.Values.{bound}
use Rattle.room_tables.specs.Failures.{AreMoreThanOne}
use Rattle.sqlite.specs.State.{Shown}
use Rattle.room_tables.proofs.loaded_rows.find.Goals as goal

pub returns-clause-shown : goal.returns-clause-shown
returns-clause-shown g c clean =
    IfOk-weaker c.row_of.result _ _
    (λ found is.
    subst (Shown c.args.text.now (bound c.args.params.now) (state g.S.Store c.args.conn.now)
    (state g.S.Store c.select.new.conn)) (sym (is ∙ c.as_slice.ensures.value)) (c.in_ok-shown.ensures.shown clean))
    c.row_of.ensures.shown

pub returns-clause-why : goal.returns-clause-why
returns-clause-why g c clean =
    IfErr-weaker c.row_of.result _ _ (shown_fails c.args.text.now (bound c.args.params.now)
    (state g.S.Store c.args.conn.now) (state g.S.Store c.select.new.conn) (AreMoreThanOne g.X.Stored.is_row)
    c.in_ok-shown.shown.items (c.in_ok-shown.ensures.shown clean))
    (rw c.as_slice.ensures.value at c.row_of.ensures.why)

pub returns-clause-reads : goal.returns-clause-reads
returns-clause-reads g c = ends_any c.row_of.result (looked c.in_ok-shown.ensures.reads)

pub returns-in_err-shown-clause-reads : goal.returns-in_err-shown-clause-reads
returns-in_err-shown-clause-reads g c = fails c.from_residual.ensures.0 c.in_err-shown.ensures.reads
