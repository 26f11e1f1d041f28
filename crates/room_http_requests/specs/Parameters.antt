-- The parameters in a target: its segments, and the numbers and places that they write.
use Rattle.std.specs.Prelude.{ℕ, List, [], Bool, nat_le, nat_lt, ◌==◌, ◌&&◌, if◌then◌else◌}
use Rattle.std.specs.Prelude.{slice_index, unwrap_or, Option, Some, None}
use Rattle.std.specs.List.{list_all, slice_get, slice_split}
use Rattle.std.specs.Result.{result_ok}
use Rattle.std.specs.Str.Parse.{digits_value}
use Rattle.room_place.specs.References.{parse}
use Rattle.room_place.specs.declared.places.Place.{Place}
use Rattle.room_types.specs.Numerals.{are_digits, within}

-- the byte is of ASCII
abbrev pub is_ascii : ℕ → Bool
is_ascii byte = nat_lt byte 128

-- all bytes are of ASCII
abbrev pub are_ascii : List ℕ → Bool
are_ascii bytes = list_all is_ascii bytes

-- the text of a target, if all its bytes are of ASCII
abbrev pub text_of : List ℕ → Option (List ℕ)
text_of bytes = if are_ascii bytes then Some bytes else None

-- the byte is a slash
abbrev pub is_slash : ℕ → Bool
is_slash byte = byte == 47

-- a segment of a target, counted from what stands before its first slash
abbrev pub segment_at : ℕ → List ℕ → List ℕ
segment_at i target = unwrap_or (slice_get (slice_split is_slash target) i) []

-- only digits, the first of them no zero (49 is the code of 1)
abbrev pub is_plain_numeral : List ℕ → Bool
is_plain_numeral text = nat_le 49 (slice_index text 0) && are_digits text

-- the number of a range that a text writes in decimal, without a leading zero
abbrev pub whole_of : ℕ → ℕ → List ℕ → Option ℕ
whole_of least greatest text =
    if is_plain_numeral text then within least greatest (digits_value 10 text) else None

-- the number of an incident or of a report
abbrev pub number_of : List ℕ → Option ℕ
number_of text = whole_of 1 2147483647 text

-- how many metres away
abbrev pub metres_of : List ℕ → Option ℕ
metres_of text = whole_of 1 99999 text

-- the place that a grid reference names
abbrev pub place_of : List ℕ → Option Place
place_of text = result_ok (parse text)

-- the number of a standby point
abbrev pub point_number_of : List ℕ → Option ℕ
point_number_of text = whole_of 1 99 text
