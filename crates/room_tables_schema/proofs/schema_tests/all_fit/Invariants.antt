use Rattle.std.proofs.Common.{◌≡◌, map}
use Rattle.room_tables_schema.proofs.Fitting.{Waits}
use Rattle.room_tables_schema.proofs.schema_tests.all_fit.Given as goal

abbrev pub invariant-loop-form : goal.invariant-loop-form
invariant-loop-form g l =
    Waits g.F.TestedForm.meant (l.parts ≡ map g.F.TestedForm.meant l.forms) l.form-iterator.a.rest.now
    l.form-iterator.b.rest.now
