-- The columns of an area, in the order of its table, and which columns a reader takes.
use Rattle.std.specs.Prelude.{ℕ, [], ◌∷◌, ◌==◌, Bool, length, ◌&&◌}
use Rattle.sqlite_value.specs.Order.{Row, column}
use Rattle.room_tables_schema.specs.TypedRows.{number}
use Rattle.room_place.specs.declared.plans.Area.{Area}
use Rattle.room_tables_rows.specs.ColumnValues.{number_in}
use Rattle.room_tables_rows.specs.ReadableColumns.{is_word}

-- an area, with its place in the plan
abbrev pub area_row : ℕ × Area → Row
area_row a = number a.0 ∷ number a.1.division ∷ number a.1.rect.west ∷ number a.1.rect.south
    ∷ number a.1.rect.east ∷ number a.1.rect.north ∷ []

abbrev pub area_key : ℕ × Area → ℕ
area_key a = a.0

abbrev pub area_in : Row → ℕ × Area
area_in r = (
  number_in (column r 0),
  record {
    division = number_in (column r 1);
    rect = record {
      west = number_in (column r 2);
      south = number_in (column r 3);
      east = number_in (column r 4);
      north = number_in (column r 5);
    };
  },
)

abbrev pub is_area_row : Row → Bool
is_area_row r =
    length r == 6 && is_word (column r 0) && is_word (column r 1)
    && is_word (column r 2) && is_word (column r 3) && is_word (column r 4) && is_word (column r 5)
