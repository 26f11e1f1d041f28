-- Texts of digits, and numbers of a range.
use Rattle.std.specs.Char.{is_ascii_digit}
use Rattle.std.specs.List.{list_all}
use Rattle.std.specs.Prelude.{ℕ, List, Bool, nat_le, ◌&&◌, if◌then◌else◌, Option, Some, None}

-- only digits
abbrev pub are_digits : List ℕ → Bool
are_digits text = list_all is_ascii_digit text

-- the number, if it is in the range
abbrev pub within : ℕ → ℕ → ℕ → Option ℕ
within least greatest n = if nat_le least n && nat_le n greatest then Some n else None
