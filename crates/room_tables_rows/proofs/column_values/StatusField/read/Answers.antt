use Rattle.std.proofs.Common.{◌∙◌, ap}
use Rattle.room_tables_rows.proofs.ReadLaws.{status_read}
use Rattle.room_tables_rows.specs.ReadableColumns.{is_status}
use Rattle.room_tables_rows.proofs.column_values.StatusField.read.Goals as goal

pub returns-clause-has_one : goal.returns-clause-has_one
returns-clause-has_one c =
    status_read _ c.from_number.result c.from_number.ensures ∙ ap is_status c.in_ok-code.ensures.value
