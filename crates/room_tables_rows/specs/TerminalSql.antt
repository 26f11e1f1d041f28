-- The columns of a terminal, in the order of its table, and which columns a reader takes.
use Rattle.std.specs.Prelude.{ℕ, List, [], ◌∷◌, Option, Some, None, if◌then◌else◌, ◌==◌, Bool}
use Rattle.std.specs.Prelude.{length, ◌&&◌}
use Rattle.sqlite_value.specs.declared.value.Value.TheVariants.{Text}
use Rattle.sqlite_value.specs.Order.{Row, column}
use Rattle.sqlite.specs.Values.{or_null}
use Rattle.room_tables_schema.specs.TypedRows.{number}
use Rattle.room_types.specs.Texts.{Callsign, is_token}
use Rattle.room_types.specs.declared.asks.Who.{Who}
use Rattle.room_types.specs.declared.asks.Who.TheVariants.{Desk, Crew, Position}
use Rattle.room_types.specs.declared.fleet.Terminal.{Terminal}
use Rattle.room_tables_rows.specs.ColumnValues.{number_in, text_in}
use Rattle.room_tables_rows.specs.ReadableColumns.{is_text, is_who}

-- 0 a desk, 1 a position, 2 a crew
abbrev pub role_of : Who → ℕ
role_of (Desk d) = 0
role_of (Position p) = 1
role_of (Crew c) = 2

-- the number of the desk's division, or of the position
abbrev pub number_of : Who → ℕ
number_of (Desk d) = d
number_of (Position p) = p
number_of (Crew c) = 0

abbrev pub crew_of : Who → Option Callsign
crew_of (Desk d) = None
crew_of (Position p) = None
crew_of (Crew c) = Some c

abbrev pub who_in : ℕ → ℕ → List ℕ → Who
who_in role n callsign =
    if role == 0 then Desk n else (if role == 1 then Position n else Crew callsign)

abbrev pub terminal_row : Terminal → Row
terminal_row t = Text t.token ∷ number (role_of t.who) ∷ number (number_of t.who)
    ∷ or_null Text (crew_of t.who) ∷ []

abbrev pub terminal_in : Row → Terminal
terminal_in r = record {
  token = text_in (column r 0);
  who = who_in (number_in (column r 1)) (number_in (column r 2)) (text_in (column r 3));
}

abbrev pub is_terminal_row : Row → Bool
is_terminal_row r =
    length r == 4 && is_text is_token (column r 0) && is_who (column r 1) (column r 2) (column r 3)
