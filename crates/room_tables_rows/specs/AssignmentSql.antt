-- The columns of an assignment, in the order of its table, and which columns a reader takes.
use Rattle.std.specs.Prelude.{[], ◌∷◌, ◌==◌, Bool, length, ◌&&◌}
use Rattle.sqlite_value.specs.declared.value.Value.TheVariants.{Text}
use Rattle.sqlite_value.specs.Order.{Row, column}
use Rattle.room_tables_schema.specs.TypedRows.{number}
use Rattle.room_types.specs.declared.tables.Assignment.{Assignment}
use Rattle.room_tables_rows.specs.ColumnValues.{number_in, text_in}
use Rattle.room_tables_rows.specs.ReadableColumns.{is_division, is_class, is_serial, is_name}
use Rattle.room_tables_rows.specs.ReadableColumns.{is_place}

abbrev pub assignment_row : Assignment → Row
assignment_row x = Text x.callsign ∷ number x.division ∷ number x.incident ∷ number x.order
    ∷ number x.place.east ∷ number x.place.north ∷ number x.class ∷ []

abbrev pub assignment_in : Row → Assignment
assignment_in r = record {
  callsign = text_in (column r 0);
  division = number_in (column r 1);
  incident = number_in (column r 2);
  order = number_in (column r 3);
  place = record { east = number_in (column r 4); north = number_in (column r 5) };
  class = number_in (column r 6);
}

abbrev pub is_assignment_row : Row → Bool
is_assignment_row r =
    length r == 7 && is_name (column r 0) && is_division (column r 1) && is_serial (column r 2)
    && is_serial (column r 3)
    && is_place (column r 4) (column r 5) && is_class (column r 6)
