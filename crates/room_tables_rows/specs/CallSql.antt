-- The columns of a call, in the order of its table, and which columns a reader takes.
use Rattle.std.specs.Prelude.{[], ◌∷◌, ◌==◌, Bool, length, ◌&&◌}
use Rattle.sqlite_value.specs.declared.value.Value.TheVariants.{Blob}
use Rattle.sqlite_value.specs.Order.{Row, column}
use Rattle.room_tables_schema.specs.TypedRows.{number}
use Rattle.room_types.specs.declared.tables.Call.{Call}
use Rattle.room_tables_rows.specs.ColumnValues.{truth, number_in, blob_in, truth_in}
use Rattle.room_tables_rows.specs.ReadableColumns.{is_note, is_truth, is_division, is_position}
use Rattle.room_tables_rows.specs.ReadableColumns.{is_class, is_serial, is_moment, is_place}
use Rattle.room_tables_rows.specs.ReadableColumns.{is_needs}

abbrev pub call_row : Call → Row
call_row x =
    number x.position ∷ number x.serial ∷ number x.division ∷ number x.incident ∷ number x.given
    ∷ truth x.linked
    ∷ number x.place.east ∷ number x.place.north ∷ number x.class
    ∷ number x.needs.ambulances ∷ number x.needs.cars ∷ number x.needs.support ∷ Blob x.note
    ∷ number x.at ∷ []

abbrev pub call_in : Row → Call
call_in r = record {
  position = number_in (column r 0);
  serial = number_in (column r 1);
  division = number_in (column r 2);
  incident = number_in (column r 3);
  given = number_in (column r 4);
  linked = truth_in (column r 5);
  place = record { east = number_in (column r 6); north = number_in (column r 7) };
  class = number_in (column r 8);
  needs = record {
    ambulances = number_in (column r 9);
    cars = number_in (column r 10);
    support = number_in (column r 11);
  };
  note = blob_in (column r 12);
  at = number_in (column r 13);
}

abbrev pub is_call_row : Row → Bool
is_call_row r =
    length r == 14 && is_position (column r 0) && is_serial (column r 1)
    && is_division (column r 2) && is_serial (column r 3)
    && is_serial (column r 4) && is_truth (column r 5) && is_place (column r 6) (column r 7)
    && is_class (column r 8)
    && is_needs (column r 9) (column r 10) (column r 11) && is_note (column r 12)
    && is_moment (column r 13)
