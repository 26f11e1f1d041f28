-- The options of the Connection fields.
use Rattle.std.specs.Prelude.{ℕ, List, Bool, ◌&&◌, ◌||◌, ◌==◌, bytes_eq, codes}
use Rattle.std.specs.List.{list_any, slice_split}
use Rattle.httparse.specs.Grammar.{trim_ows}
use Rattle.room_http_messages.specs.HeadFields.{Fields, lower, is_named}

-- the byte is a comma
abbrev pub is_comma : ℕ → Bool
is_comma byte = byte == 44

-- the member, without the spaces and tabs around it, is the option in any case
unfoldable pub is_option : List ℕ → List ℕ → Bool
is_option option member = bytes_eq (lower (trim_ows member)) (lower option)

-- a part of the list between its commas is the option
unfoldable pub has_option : List ℕ → List ℕ → Bool
has_option option value = list_any (is_option option) (slice_split is_comma value)

-- the field is a Connection field, and has the option close
unfoldable pub is_close_field : List ℕ × List ℕ → Bool
is_close_field field = is_named (codes "connection") field && has_option (codes "close") field.1

-- a Connection field has the option close
abbrev pub asks_for_close : Fields → Bool
asks_for_close fields = list_any is_close_field fields

-- the connection closes after the answer: to a request of HTTP/1.0, and where the client asks for
-- it
abbrev pub is_closing : ℕ → Fields → Bool
is_closing minor fields = (minor == 0) || asks_for_close fields
