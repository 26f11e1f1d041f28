-- The columns of the version and the zone, in the order of its table, and which columns a reader
-- takes.
use Rattle.std.specs.Prelude.{ℕ, List, [], ◌∷◌, ◌==◌, Bool, length, ◌&&◌}
use Rattle.sqlite_value.specs.declared.value.Value.TheVariants.{Text}
use Rattle.sqlite_value.specs.Order.{Row, column}
use Rattle.room_tables_schema.specs.TypedRows.{number}
use Rattle.room_tables_rows.specs.ColumnValues.{text_in}
use Rattle.std.specs.Str.{is_utf8}
use Rattle.room_tables_rows.specs.ReadableColumns.{is_number, is_text}

-- the one row of its table in a version, known by its zone
abbrev pub version_row : ℕ → List ℕ → Row
version_row version zone = number 1 ∷ number version ∷ Text zone ∷ []

-- and in this one
abbrev pub meta_row : List ℕ → Row
meta_row = version_row 2

abbrev pub meta_key : List ℕ → ℕ
meta_key zone = 1

abbrev pub zone_in : Row → List ℕ
zone_in r = text_in (column r 2)

abbrev pub is_meta_row : ℕ → Row → Bool
is_meta_row version r = length r == 3 && is_number 1 1 (column r 0)
    && is_number version version (column r 1) && is_text is_utf8 (column r 2)
