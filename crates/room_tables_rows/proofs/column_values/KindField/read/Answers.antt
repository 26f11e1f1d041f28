use Rattle.std.proofs.Common.{◌∙◌, ap}
use Rattle.room_tables_rows.proofs.ReadLaws.{kind_read}
use Rattle.room_tables_rows.specs.ReadableColumns.{is_kind}
use Rattle.room_tables_rows.proofs.column_values.KindField.read.Goals as goal

pub returns-clause-has_one : goal.returns-clause-has_one
returns-clause-has_one c =
    kind_read _ c.from_number.result c.from_number.ensures ∙ ap is_kind c.in_ok-code.ensures.value
