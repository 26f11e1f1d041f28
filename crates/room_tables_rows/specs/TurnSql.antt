-- The columns of a turn, in the order of its table, and which columns a reader takes.
use Rattle.std.specs.Prelude.{[], ◌∷◌, ◌==◌, Bool, length, ◌&&◌}
use Rattle.sqlite_value.specs.declared.value.Value.TheVariants.{Text}
use Rattle.sqlite_value.specs.Order.{Row, column}
use Rattle.room_tables_schema.specs.TypedRows.{number, number_or_null}
use Rattle.room_types.specs.declared.tables.Turn.{Turn}
use Rattle.room_tables_rows.specs.ColumnValues.{truth, kind_code, number_in, number_or_none}
use Rattle.room_tables_rows.specs.ColumnValues.{text_in, truth_in, kind_in}
use Rattle.room_tables_rows.specs.ReadableColumns.{is_or_null, is_truth, is_division, is_serial}
use Rattle.room_tables_rows.specs.ReadableColumns.{is_moment, is_name, is_kind}

abbrev pub turn_row : Turn → Row
turn_row x =
    Text x.callsign ∷ number x.order ∷ number x.division ∷ number x.incident ∷ kind_code x.kind
    ∷ number x.ordered
    ∷ number_or_null x.acknowledged ∷ number_or_null x.scene ∷ number_or_null x.left
    ∷ number_or_null x.hospital ∷ number_or_null x.ended ∷ truth x.stood_down ∷ []

abbrev pub turn_in : Row → Turn
turn_in r = record {
  callsign = text_in (column r 0);
  order = number_in (column r 1);
  division = number_in (column r 2);
  incident = number_in (column r 3);
  kind = kind_in (column r 4);
  ordered = number_in (column r 5);
  acknowledged = number_or_none (column r 6);
  scene = number_or_none (column r 7);
  left = number_or_none (column r 8);
  hospital = number_or_none (column r 9);
  ended = number_or_none (column r 10);
  stood_down = truth_in (column r 11);
}

abbrev pub is_turn_row : Row → Bool
is_turn_row r =
    length r == 12 && is_name (column r 0) && is_serial (column r 1) && is_division (column r 2)
    && is_serial (column r 3)
    && is_kind (column r 4) && is_moment (column r 5) && is_or_null is_moment (column r 6)
    && is_or_null is_moment (column r 7)
    && is_or_null is_moment (column r 8) && is_or_null is_moment (column r 9)
    && is_or_null is_moment (column r 10) && is_truth (column r 11)
