-- The columns of a vehicle, in the order of its table, and which columns a reader takes.
use Rattle.std.specs.Prelude.{[], ◌∷◌, ◌==◌, Bool, length, ◌&&◌}
use Rattle.sqlite_value.specs.declared.value.Value.TheVariants.{Text}
use Rattle.sqlite_value.specs.Order.{Row, column}
use Rattle.room_tables_schema.specs.TypedRows.{number, number_or_null}
use Rattle.room_types.specs.declared.tables.Vehicle.{Vehicle}
use Rattle.room_tables_rows.specs.ColumnValues.{kind_code, status_code, number_in, number_or_none}
use Rattle.room_tables_rows.specs.ColumnValues.{text_in, kind_in, status_in}
use Rattle.room_tables_rows.specs.ReadableColumns.{is_or_null, is_division, is_point, is_last}
use Rattle.room_tables_rows.specs.ReadableColumns.{is_moment, is_name, is_kind, is_status, is_place}

abbrev pub vehicle_row : Vehicle → Row
vehicle_row x =
    Text x.callsign ∷ number x.home ∷ number x.holder ∷ kind_code x.kind ∷ number x.place.east
    ∷ number x.place.north
    ∷ status_code x.status ∷ number x.shift_end ∷ number_or_null x.post ∷ number x.last_order
    ∷ number x.last_report ∷ []

abbrev pub vehicle_in : Row → Vehicle
vehicle_in r = record {
  callsign = text_in (column r 0);
  home = number_in (column r 1);
  holder = number_in (column r 2);
  kind = kind_in (column r 3);
  place = record { east = number_in (column r 4); north = number_in (column r 5) };
  status = status_in (column r 6);
  shift_end = number_in (column r 7);
  post = number_or_none (column r 8);
  last_order = number_in (column r 9);
  last_report = number_in (column r 10);
}

abbrev pub is_vehicle_row : Row → Bool
is_vehicle_row r =
    length r == 11 && is_name (column r 0) && is_division (column r 1) && is_division (column r 2)
    && is_kind (column r 3)
    && is_place (column r 4) (column r 5) && is_status (column r 6) && is_moment (column r 7)
    && is_or_null is_point (column r 8)
    && is_last (column r 9) && is_last (column r 10)
