-- The statement that ran is that of the change, or the two are that did.
use Rattle.std.proofs.Common.{subst, sym}
use Rattle.std.proofs.lemmas.Result.{IfOk-weaker}
use Rattle.room_tables_schema.proofs.WriteLaws.{write_commits}
use Rattle.room_tables.specs.ChangeStatements.{AreInsertions, AreStatements, IsStatement}
use Rattle.room_tables.proofs.Made.{makes}
use Rattle.room_tables.proofs.row_changes.apply.Goals as goal

pub returns-in-Statement-clause-ok : goal.returns-in-Statement-clause-ok
returns-in-Statement-clause-ok g c clean =
    let is = subst (λ params. IsStatement c.in-Statement.text.now params c.args.change.now) (sym c.as_slice.ensures)
    (rw c.in-Statement.is at c.write_plan_of.ensures) in
    IfOk-weaker c.run.result _ _ (λ _ it. makes it c.args.change.now is) (c.run.ensures.ran clean)

pub returns-in-Inserting-clause-ok : goal.returns-in-Inserting-clause-ok
returns-in-Inserting-clause-ok g c clean =
    let is = subst
    (λ params. AreInsertions c.in-Inserting.insertion.now c.in-Inserting.put.now params c.args.change.now)
    (sym c.as_slice-in-Inserting.ensures) (rw c.in-Inserting.is at c.write_plan_of.ensures) in
    IfOk-weaker c.insert_or_put.result _ _ (λ _ made. made c.args.change.now is) (c.insert_or_put.ensures.ok clean)

pub returns-in-Overwriting-clause-ok : goal.returns-in-Overwriting-clause-ok
returns-in-Overwriting-clause-ok g c clean =
    let is = subst (λ params. AreStatements c.in-Overwriting.over.now c.in-Overwriting.put.now params c.args.change.now)
    (sym c.as_slice-in-Overwriting.ensures) (rw c.in-Overwriting.is at c.write_plan_of.ensures) in
    IfOk-weaker c.overwrite.result _ _ (λ _ made. made c.args.change.now is) (c.overwrite.ensures.ok clean)

pub returns-in-Statement-clause-commits : goal.returns-in-Statement-clause-commits
returns-in-Statement-clause-commits g c =
    write_commits c.run.result c.run.ensures.writes
    (λ clean. IfOk-weaker c.run.result _ _ (λ _ it. it.inside) (c.run.ensures.ran clean))

pub returns-in-Settling-clause-commits : goal.returns-in-Settling-clause-commits
returns-in-Settling-clause-commits g c =
    write_commits c.settle.result c.settle.ensures.writes
    (λ clean. IfOk-weaker c.settle.result _ _ (λ _ it. it.inside) (c.settle.ensures.ok clean))
