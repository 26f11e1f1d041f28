-- The fields of a body: an object of JSON, and the values under its names.
use Rattle.std.specs.Prelude.{ℕ, List, [], ◌∷◌, length, Bool, false, bytes_eq, nat_le, is_some}
use Rattle.std.specs.Prelude.{◌==◌, ◌+◌, if◌then◌else◌, Option, Some, None, option_map}
use Rattle.std.specs.Prelude.{option_and_then}
use Rattle.std.specs.Result.{result_ok}
use Rattle.std.specs.List.{find}
use Rattle.std.specs.Str.Lossy.{utf8_valid_len}
use Rattle.serde_json.specs.Data.{Data, object, Items, no_items, item, Members, no_members, member}
use Rattle.serde_json.specs.Find.{as_array, as_null, as_number, as_object, as_str, as_u64, get}
use Rattle.serde_json.specs.Read.{read}
use Rattle.room_place.specs.References.{parse}
use Rattle.room_place.specs.declared.places.Place.{Place}
use Rattle.room_types.specs.Codes.{button_name}
use Rattle.room_types.specs.Needs.{is_some_need}
use Rattle.room_types.specs.Numerals.{within}
use Rattle.room_types.specs.Texts.{Callsign, Note, callsign_of}
use Rattle.room_types.specs.declared.codes.Button.{Button}
use Rattle.room_types.specs.declared.codes.Button.TheVariants.{Position, Mobile, Scene, Leave}
use Rattle.room_types.specs.declared.codes.Button.TheVariants.{Hospital, Return, Home}
use Rattle.room_types.specs.declared.needs.Counts.{Counts}

-- the bytes are UTF-8
abbrev pub is_utf8 : List ℕ → Bool
is_utf8 bytes = utf8_valid_len bytes == length bytes

-- the fields that a body has: an empty one has none, another is read as JSON, where of equal names
-- the last stays
unfoldable pub fields_of : List ℕ → Option Data
fields_of [] = Some (object no_members)
fields_of (b ∷ bs) = if is_utf8 (b ∷ bs) then read (b ∷ bs) else None

-- how many members there are
abbrev pub members_count : Members → ℕ
members_count no_members = 0
members_count (member name value more) = 1 + members_count more

-- there are so many members, if any can be there
abbrev pub are_so_many : ℕ → Option Members → Bool
are_so_many count None = false
are_so_many count (Some members) = members_count members == count

-- the value is an object of so many members
abbrev pub has_members : ℕ → Data → Bool
has_members count fields = are_so_many count (as_object fields)

-- the whole number of a range that a value is, written without point or exponent
abbrev pub number_in : ℕ → ℕ → Data → Option ℕ
number_in least greatest value =
    option_and_then (within least greatest) (option_and_then as_u64 (as_number value))

-- the whole number of a range under a name
unfoldable pub number_at : ℕ → ℕ → List ℕ → Data → Option ℕ
number_at least greatest name fields = option_and_then (number_in least greatest) (get name fields)

-- the text under a name
unfoldable pub text_at : List ℕ → Data → Option (List ℕ)
text_at name fields = option_and_then as_str (get name fields)

-- the place that a reference under a name names
unfoldable pub place_at : List ℕ → Data → Option Place
place_at name fields = option_and_then (λ text. result_ok (parse text)) (text_at name fields)

-- the callsign under a name
unfoldable pub callsign_at : List ℕ → Data → Option Callsign
callsign_at name fields = option_and_then callsign_of (text_at name fields)

-- a note has at most 120 bytes
abbrev pub note_of : List ℕ → Option Note
note_of text = if nat_le (length text) 120 then Some text else None

-- the note under a name
unfoldable pub note_at : List ℕ → Data → Option Note
note_at name fields = option_and_then note_of (text_at name fields)

abbrev pub buttons : List Button
buttons = Position ∷ Mobile ∷ Scene ∷ Leave ∷ Hospital ∷ Return ∷ Home ∷ []

-- the button of a name
unfoldable pub button_of : List ℕ → Option Button
button_of name = find (λ button. bytes_eq (button_name button) name) buttons

-- the button whose name stands under a name
unfoldable pub button_at : List ℕ → Data → Option Button
button_at name fields = option_and_then button_of (text_at name fields)

-- needs are for at least one vehicle
abbrev pub some_needs : ℕ → ℕ → ℕ → Option Counts
some_needs ambulances cars support =
    if is_some_need (record { ambulances = ambulances; cars = cars; support = support })
    then Some (record { ambulances = ambulances; cars = cars; support = support }) else None

-- the needs that an array says: three numbers of 0 to 9
unfoldable pub needs_of : Items → Option Counts
needs_of no_items = None
needs_of (item a no_items) = None
needs_of (item a (item b no_items)) = None
needs_of (item a (item b (item c no_items))) =
    option_and_then (λ x. option_and_then
    (λ y. option_and_then (λ z. some_needs x y z) (number_in 0 9 c)) (number_in 0 9 b))
    (number_in 0 9 a)
needs_of (item a (item b (item c (item d more)))) = None

-- the needs under a name
unfoldable pub needs_at : List ℕ → Data → Option Counts
needs_at name fields = option_and_then needs_of (option_and_then as_array (get name fields))

-- the standby point that a value is, or none where it is null
abbrev pub point_of : Data → Option (Option ℕ)
point_of value =
    if is_some (as_null value) then Some None else option_map Some (number_in 1 99 value)

-- the standby point under a name
unfoldable pub point_at : List ℕ → Data → Option (Option ℕ)
point_at name fields = option_and_then point_of (get name fields)

-- the incident that a value is the number of, or none where it is null
abbrev pub incident_of : Data → Option (Option ℕ)
incident_of value =
    if is_some (as_null value) then Some None else option_map Some (number_in 1 2147483647 value)

-- the incident under a name
unfoldable pub incident_at : List ℕ → Data → Option (Option ℕ)
incident_at name fields = option_and_then incident_of (get name fields)

-- how many items there are
abbrev pub items_count : Items → ℕ
items_count no_items = 0
items_count (item value more) = 1 + items_count more

-- the array under a name, of at most so many items
unfoldable pub few_at : ℕ → List ℕ → Data → Option Items
few_at most name fields =
    option_and_then (λ items. if nat_le (items_count items) most then Some items else None)
    (option_and_then as_array (get name fields))
