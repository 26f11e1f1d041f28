use Rattle.std.proofs.Common.{◌∙◌, ap}
use Rattle.room_tables_rows.proofs.ReadLaws.{outcome_read}
use Rattle.room_tables_rows.specs.ReadableColumns.{is_outcome}
use Rattle.room_tables_rows.proofs.column_values.OutcomeField.read.Goals as goal

pub returns-clause-has_one : goal.returns-clause-has_one
returns-clause-has_one c =
    outcome_read _ c.from_number.result c.from_number.ensures ∙ ap is_outcome c.in_ok-code.ensures.value
