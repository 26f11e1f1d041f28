use Rattle.room_tables_schema.proofs.Fitting.{first_of}
use Rattle.room_tables_schema.proofs.schema_tests.has_first_objects.Goals as goal

pub returns : goal.returns
returns c = first_of _ _ _ c.args.count _ c.has_objects.ensures
