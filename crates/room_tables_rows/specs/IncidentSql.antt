-- The columns of an incident, in the order of its table, and which columns a reader takes.
use Rattle.std.specs.Prelude.{[], ◌∷◌, ◌==◌, Bool, length, ◌&&◌}
use Rattle.sqlite_value.specs.Order.{Row, column}
use Rattle.room_tables_schema.specs.TypedRows.{number, number_or_null}
use Rattle.room_types.specs.Codes.{state_number, merged_into}
use Rattle.room_types.specs.declared.tables.Incident.{Incident}
use Rattle.room_tables_rows.specs.ColumnValues.{number_in, number_or_none, state_in}
use Rattle.room_tables_rows.specs.ReadableColumns.{is_or_null, is_division, is_class, is_serial}
use Rattle.room_tables_rows.specs.ReadableColumns.{is_moment, is_place, is_needs, is_state}

abbrev pub incident_row : Incident → Row
incident_row x =
    number x.division ∷ number x.number ∷ number x.place.east ∷ number x.place.north
    ∷ number x.class
    ∷ number x.needs.ambulances ∷ number x.needs.cars ∷ number x.needs.support
    ∷ number x.opened ∷ number_or_null x.first_order ∷ number (state_number x.state)
    ∷ number_or_null (merged_into x.state) ∷ []

abbrev pub incident_in : Row → Incident
incident_in r = record {
  division = number_in (column r 0);
  number = number_in (column r 1);
  place = record { east = number_in (column r 2); north = number_in (column r 3) };
  class = number_in (column r 4);
  needs = record {
    ambulances = number_in (column r 5);
    cars = number_in (column r 6);
    support = number_in (column r 7);
  };
  opened = number_in (column r 8);
  first_order = number_or_none (column r 9);
  state = state_in (column r 10) (column r 11);
}

abbrev pub is_incident_row : Row → Bool
is_incident_row r =
    length r == 12 && is_division (column r 0) && is_serial (column r 1)
    && is_place (column r 2) (column r 3) && is_class (column r 4)
    && is_needs (column r 5) (column r 6) (column r 7) && is_moment (column r 8)
    && is_or_null is_moment (column r 9)
    && is_state (column r 10) (column r 11)
