-- The shapes of JSON that answers are made of.
use Rattle.std.specs.Prelude.{ℕ, List, [], ◌∷◌, Option, None, Some, map}
use Rattle.serde_json.specs.Data.{Data, null, number, unsigned, array, object, Members, no_members}
use Rattle.serde_json.specs.Data.{member}
use Rattle.serde_json.specs.View.{items_of}

-- a whole number
abbrev pub whole : ℕ → Data
whole n = number (unsigned n)

-- null where there is none
abbrev pub or_null : {T : Type 0} → (T → Data) → Option T → Data
or_null json None = null
or_null json (Some x) = json x

-- a list, item by item
abbrev pub list_of : {T : Type 0} → (T → Data) → List T → Data
list_of json xs = array (items_of (map json xs))

abbrev pub members_of : List (List ℕ × Data) → Members
members_of [] = no_members
members_of (m ∷ ms) = member m.0 m.1 (members_of ms)

-- an object with these members, in this order
abbrev pub object_of : List (List ℕ × Data) → Data
object_of ms = object (members_of ms)
