-- Which columns stand for a value of the room: a reader refuses all else.
use Rattle.std.specs.Prelude.{ℕ, List, [], ◌∷◌, ◌+◌, pos, Bool, true, false, length, nat_le, ◌&&◌}
use Rattle.std.specs.Prelude.{◌||◌}
use Rattle.sqlite_value.specs.declared.value.Value.TheVariants.{Text, Blob, Null, Int}
use Rattle.sqlite_value.specs.Order.{Row, column}
use Rattle.room_tables_rows.specs.ColumnValues.{number_in}
use Rattle.std.specs.Str.{is_utf8}
use Rattle.sqlite_value.specs.declared.value.Value.{Value}
use Rattle.room_types.specs.Needs.{is_some_need}
use Rattle.room_types.specs.Texts.{is_callsign}

-- ---- a column

-- a whole number from the least to the greatest
abbrev pub is_number : ℕ → ℕ → Value → Bool
is_number least greatest (Int (pos n)) = nat_le least n && nat_le n greatest
is_number least greatest v = false

abbrev pub is_null : Value → Bool
is_null Null = true
is_null v = false

abbrev pub is_or_null : (Value → Bool) → Value → Bool
is_or_null test Null = true
is_or_null test v = test v

abbrev pub is_text : (List ℕ → Bool) → Value → Bool
is_text test (Text t) = test t
is_text test v = false

-- UTF-8 of at most 120 bytes
abbrev pub is_note : Value → Bool
is_note (Blob b) = is_utf8 b && nat_le (length b) 120
is_note v = false

abbrev pub is_word : Value → Bool
is_word v = is_number 0 4294967295 v

abbrev pub is_truth : Value → Bool
is_truth v = is_number 0 1 v

abbrev pub is_division : Value → Bool
is_division v = is_number 1 9 v

-- a call taker's position
abbrev pub is_position : Value → Bool
is_position v = is_number 1 99 v

-- a standby point of a division, or the one where a vehicle is posted
abbrev pub is_point : Value → Bool
is_point v = is_number 1 99 v

abbrev pub is_class : Value → Bool
is_class v = is_number 1 3 v

-- how many vehicles of one kind are needed, or wanted at a point
abbrev pub is_count : Value → Bool
is_count v = is_number 0 9 v

-- a number that counts calls, reports, incidents or orders, and the one that was given last
abbrev pub is_serial : Value → Bool
is_serial v = is_number 1 2147483647 v

abbrev pub is_last : Value → Bool
is_last v = is_number 0 2147483647 v

abbrev pub is_moment : Value → Bool
is_moment v = is_number 0 4102444799 v

abbrev pub is_name : Value → Bool
is_name v = is_text is_callsign v

abbrev pub is_kind : Value → Bool
is_kind v = is_number 1 3 v

abbrev pub is_status : Value → Bool
is_status v = is_number 0 7 v

abbrev pub is_button : Value → Bool
is_button v = is_number 0 6 v

abbrev pub is_outcome : Value → Bool
is_outcome v = is_number 0 4 v

-- ---- columns that stand for one value together

abbrev pub is_place : Value → Value → Bool
is_place east north = is_number 400000 599999 east && is_number 100000 299999 north

-- at least one vehicle in all
abbrev pub is_needs : Value → Value → Value → Bool
is_needs ambulances cars support =
    is_count ambulances && is_count cars && is_count support
    && is_some_need (record {
      ambulances = number_in ambulances;
      cars = number_in cars;
      support =
          number_in support;
    })

-- active or closed; or merged, into an incident
abbrev pub is_state : Value → Value → Bool
is_state state into =
    (is_number 0 1 state && is_null into) || (is_number 2 2 state && is_serial into)

-- a desk with its division, a position with its number, a crew with its callsign
abbrev pub is_who : Value → Value → Value → Bool
is_who role n callsign =
    (is_number 0 0 role && is_division n && is_null callsign)
    || (is_number 1 1 role && is_position n && is_null callsign)
    || (is_number 2 2 role && is_number 0 0 n && is_name callsign)

-- whether what stands before them does, and the columns from one on stand for values, each for one
-- of its own type
abbrev pub all_stand : Bool → List (Value → Bool) → Row → ℕ → Bool
all_stand before [] row at = before
all_stand before (stands ∷ more) row at =
    all_stand (before && stands (column row at)) more row (at + 1)
