-- The fields of a row, and the numbers that they write.
use Rattle.std.specs.Prelude.{ℕ, List, [], length, Bool, not, nat_lt, ◌^◌, ◌==◌, ◌&&◌}
use Rattle.std.specs.Prelude.{if◌then◌else◌, unwrap_or, Option, Some, None, option_and_then}
use Rattle.std.specs.Str.Parse.{digits_value}
use Rattle.csv.specs.Records.{field_at}
use Rattle.room_types.specs.Numerals.{are_digits, within}
use Rattle.room_types.specs.Texts.{Token, is_token}
use Rattle.dispatch_room_csv.specs.Records.{Fields}

-- the text of a field, empty where the row has none there
abbrev pub text_at : Fields → ℕ → List ℕ
text_at row at = unwrap_or (field_at row at) []

-- one digit or more, and nothing else
abbrev pub is_numeral : List ℕ → Bool
is_numeral text = not (length text == 0) && are_digits text

-- the number of 32 bits that a text of digits only writes
abbrev pub number_of : List ℕ → Option ℕ
number_of text = if is_numeral text
    && nat_lt (digits_value 10 text) (2 ^ 32) then Some (digits_value 10 text) else None

-- the number of a range that a text of digits only writes
abbrev pub whole_of : ℕ → ℕ → List ℕ → Option ℕ
whole_of least greatest text = option_and_then (within least greatest) (number_of text)

-- the token that a text is
abbrev pub token_of : List ℕ → Option Token
token_of text = if is_token text then Some text else None
