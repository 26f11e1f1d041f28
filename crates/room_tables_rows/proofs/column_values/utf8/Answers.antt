use Rattle.std.proofs.Common.{rules}
use Rattle.room_tables_rows.proofs.ReadLaws.{text_read}
use Rattle.room_tables_rows.proofs.column_values.utf8.Goals as goal

pub returns-in-Ok-clause-has_one : goal.returns-in-Ok-clause-has_one
returns-in-Ok-clause-has_one c = search (rules, text_read _ _ _ _ c.from_utf8.ensures.cases)

pub returns-in-Err-clause-has_one : goal.returns-in-Err-clause-has_one
returns-in-Err-clause-has_one c = search (rules, text_read _ _ _ _ c.from_utf8.ensures.cases)
