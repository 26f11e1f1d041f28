-- The columns of a report, in the order of its table, and which columns a reader takes.
use Rattle.std.specs.Prelude.{[], ◌∷◌, ◌==◌, Bool, length, ◌&&◌}
use Rattle.sqlite_value.specs.declared.value.Value.TheVariants.{Text}
use Rattle.sqlite_value.specs.Order.{Row, column}
use Rattle.room_tables_schema.specs.TypedRows.{number}
use Rattle.room_types.specs.declared.tables.Report.{Report}
use Rattle.room_tables_rows.specs.ColumnValues.{truth, status_code, button_code, outcome_code}
use Rattle.room_tables_rows.specs.ColumnValues.{number_in, text_in, truth_in, status_in, button_in}
use Rattle.room_tables_rows.specs.ColumnValues.{outcome_in}
use Rattle.room_tables_rows.specs.ReadableColumns.{is_truth, is_division, is_serial, is_last}
use Rattle.room_tables_rows.specs.ReadableColumns.{is_moment, is_name, is_status, is_button}
use Rattle.room_tables_rows.specs.ReadableColumns.{is_outcome, is_place}

abbrev pub report_row : Report → Row
report_row x =
    Text x.callsign ∷ number x.number ∷ button_code x.button ∷ number x.order ∷ number x.place.east
    ∷ number x.place.north
    ∷ number x.at ∷ number x.division ∷ outcome_code x.outcome ∷ status_code x.status
    ∷ truth x.cleared ∷ []

abbrev pub report_in : Row → Report
report_in r = record {
  callsign = text_in (column r 0);
  number = number_in (column r 1);
  button = button_in (column r 2);
  order = number_in (column r 3);
  place = record { east = number_in (column r 4); north = number_in (column r 5) };
  at = number_in (column r 6);
  division = number_in (column r 7);
  outcome = outcome_in (column r 8);
  status = status_in (column r 9);
  cleared = truth_in (column r 10);
}

abbrev pub is_report_row : Row → Bool
is_report_row r =
    length r == 11 && is_name (column r 0) && is_serial (column r 1) && is_button (column r 2)
    && is_last (column r 3)
    && is_place (column r 4) (column r 5) && is_moment (column r 6) && is_division (column r 7)
    && is_outcome (column r 8)
    && is_status (column r 9) && is_truth (column r 10)
