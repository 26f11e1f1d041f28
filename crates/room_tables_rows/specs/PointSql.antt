-- The columns of a standby point, in the order of its table, and which columns a reader takes.
use Rattle.std.specs.Prelude.{[], ◌∷◌, ◌==◌, Bool, length, ◌&&◌}
use Rattle.sqlite_value.specs.Order.{Row, column}
use Rattle.room_tables_schema.specs.TypedRows.{number}
use Rattle.room_types.specs.declared.tables.Point.{Point}
use Rattle.room_tables_rows.specs.ColumnValues.{number_in}
use Rattle.room_tables_rows.specs.ReadableColumns.{is_division, is_point, is_count, is_place}

abbrev pub point_row : Point → Row
point_row x = number x.division ∷ number x.number ∷ number x.place.east ∷ number x.place.north
    ∷ number x.cover ∷ []

abbrev pub point_in : Row → Point
point_in r = record {
  division = number_in (column r 0);
  number = number_in (column r 1);
  place = record { east = number_in (column r 2); north = number_in (column r 3) };
  cover = number_in (column r 4);
}

abbrev pub is_point_row : Row → Bool
is_point_row r = length r == 5 && is_division (column r 0) && is_point (column r 1)
    && is_place (column r 2) (column r 3) && is_count (column r 4)
