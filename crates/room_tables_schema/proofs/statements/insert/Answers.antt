use Rattle.std.proofs.Common.{Err, ap, ◌∙◌}
use Rattle.sqlite.specs.Values.{bound}
use Rattle.sqlite.specs.declared.error.Error.TheVariants.{SqliteFailure}
use Rattle.room_tables_schema.proofs.WriteLaws.{refused}
use Rattle.room_tables_schema.proofs.statements.insert.Goals as goal

pub returns-in-Err-SqliteFailure-ConstraintViolation-clause-refused :
    goal.returns-in-Err-SqliteFailure-ConstraintViolation-clause-refused
returns-in-Err-SqliteFailure-ConstraintViolation-clause-refused g c =
    let it = c.in-Err-SqliteFailure-ConstraintViolation in
    let is = it.is ∙ ap Err (it.field-0-is ∙ ap SqliteFailure it.field-0-0-is) in
    let done = c.execute.ensures in
    let all = refused c.args.text.now (bound c.args.params.now) _ _ it.field-0-0-0 c.execute.result c.requires
    done.survives done.runs is in
    λ clean made. (all clean).0

pub returns-in-Err-SqliteFailure-ConstraintViolation-clause-ok :
    goal.returns-in-Err-SqliteFailure-ConstraintViolation-clause-ok
returns-in-Err-SqliteFailure-ConstraintViolation-clause-ok g c =
    let it = c.in-Err-SqliteFailure-ConstraintViolation in
    let is = it.is ∙ ap Err (it.field-0-is ∙ ap SqliteFailure it.field-0-0-is) in
    let done = c.execute.ensures in
    let all = refused c.args.text.now (bound c.args.params.now) _ _ it.field-0-0-0 c.execute.result c.requires
    done.survives done.runs is in
    λ clean. (all clean).1
