-- What ran is the change.
use Rattle.std.proofs.Common.{◌∙◌}
use Rattle.std.proofs.lemmas.Result.{IfOk-weaker}
use Rattle.room_tables.proofs.Made.{puts}
use Rattle.room_tables.proofs.row_changes.put.Goals as goal

pub returns-clause-ok : goal.returns-clause-ok
returns-clause-ok g c clean =
    IfOk-weaker c.run.result _ _
    (λ _ it.
    puts it g.met.X.Table.is_table c.args.row.now (c.statements.ensures.put, c.as_slice.ensures ∙ c.columns.ensures))
    (c.run.ensures.ran clean)

pub returns-clause-why : goal.returns-clause-why
returns-clause-why g c clean =
    rw (c.statements.ensures.put, c.as_slice.ensures, c.columns.ensures) at (c.run.ensures.why clean)

pub returns-clause-same_reference : goal.returns-clause-same_reference
returns-clause-same_reference g c = c.run.ensures.same_reference

pub returns-clause-writes : goal.returns-clause-writes
returns-clause-writes g c = c.run.ensures.writes
