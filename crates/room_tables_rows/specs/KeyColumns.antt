-- The columns of a key, in the order of its table.
use Rattle.std.specs.Prelude.{ℕ, List, [], ◌∷◌}
use Rattle.sqlite_value.specs.declared.value.Value.TheVariants.{Text}
use Rattle.sqlite_value.specs.Order.{Row}
use Rattle.room_tables_schema.specs.TypedRows.{number}
use Rattle.room_types.specs.Texts.{Callsign}

-- a key of one number
abbrev pub number_cells : ℕ → Row
number_cells k = number k ∷ []

-- a key of one text
abbrev pub text_cells : List ℕ → Row
text_cells k = Text k ∷ []

-- a key of two numbers
abbrev pub pair_cells : ℕ × ℕ → Row
pair_cells k = number k.0 ∷ number k.1 ∷ []

-- a key of a callsign and a number
abbrev pub numbered_cells : Callsign × ℕ → Row
numbered_cells k = Text k.0 ∷ number k.1 ∷ []
