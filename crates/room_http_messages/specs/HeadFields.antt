-- The fields of a head, as names and values.
use Rattle.std.specs.Prelude.{◌≡◌, ℕ, ◌≤◌, List, [], ◌∷◌, length, map, Bool, true, false, bytes_eq}
use Rattle.std.specs.Prelude.{All, Option, Some, None}
use Rattle.std.specs.List.{filter}
use Rattle.std.specs.Char.{to_ascii_lowercase}
use Rattle.httparse.specs.declared.spans.Span.{Span}
use Rattle.httparse.specs.declared.spans.HeaderSpan.{HeaderSpan}
use Rattle.httparse.specs.Spans.{span_bytes, IsWithin, IsHeaderWithin}
use Rattle.room_http_messages.specs.declared.head_fields.Found.{Found}
use Rattle.room_http_messages.specs.declared.head_fields.Found.TheVariants.{Nowhere, Once, Repeated}

-- names with their values, in the order of the head
abbrev pub Fields : Type 0
Fields = List (List ℕ × List ℕ)

-- the text in lower case
abbrev pub lower : List ℕ → List ℕ
lower text = map to_ascii_lowercase text

-- the field has this name, in any case
unfoldable pub is_named : List ℕ → List ℕ × List ℕ → Bool
is_named name field = bytes_eq (lower field.0) (lower name)

-- the values of the fields of a name, in order
unfoldable pub values_of : List ℕ → Fields → List (List ℕ)
values_of name fields = map (λ f. f.1) (filter (is_named name) fields)

-- there is a field
abbrev pub is_there : List (List ℕ) → Bool
is_there [] = false
is_there (value ∷ more) = true

-- the value, if there is exactly one
abbrev pub only_value : List (List ℕ) → Option (List ℕ)
only_value [] = None
only_value (value ∷ []) = Some value
only_value (value ∷ other ∷ more) = None

-- the spans lie in the buffer
abbrev pub AreWithin : List ℕ → List HeaderSpan → Type 0
AreWithin buf headers = All (IsHeaderWithin (length buf)) headers

-- the values are none, the one that the span covers, or more
abbrev pub FoundIs : List ℕ → List (List ℕ) → Found → Type 0
FoundIs buf values Nowhere = values ≡ []
FoundIs buf values (Once span) = IsWithin (length buf) span × (values ≡ span_bytes buf span ∷ [])
FoundIs buf values Repeated = 2 ≤ length values

-- what is found with one value more
abbrev pub found_with : Found → Span → Found
found_with Nowhere value = Once value
found_with (Once first) value = Repeated
found_with Repeated value = Repeated
