-- The columns of a division, in the order of its table, and which columns a reader takes.
use Rattle.std.specs.Prelude.{[], ◌∷◌, ◌==◌, Bool, length, ◌&&◌}
use Rattle.sqlite_value.specs.Order.{Row, column}
use Rattle.room_tables_schema.specs.TypedRows.{number}
use Rattle.room_types.specs.declared.tables.Division.{Division}
use Rattle.room_tables_rows.specs.ColumnValues.{number_in}
use Rattle.room_tables_rows.specs.ReadableColumns.{is_division, is_last}

abbrev pub division_row : Division → Row
division_row x = number x.number ∷ number x.last_incident ∷ []

abbrev pub division_in : Row → Division
division_in r = record { number = number_in (column r 0); last_incident = number_in (column r 1) }

abbrev pub is_division_row : Row → Bool
is_division_row r = length r == 2 && is_division (column r 0) && is_last (column r 1)
