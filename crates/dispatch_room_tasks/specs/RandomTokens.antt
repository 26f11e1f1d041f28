-- The letters of random bytes, and the token that they make.
use Rattle.std.specs.Prelude.{List, None, Option, Some, filter_map, if◌then◌else◌, length, nat_lt}
use Rattle.std.specs.Prelude.{take, ℕ, ◌%◌, ◌+◌, ◌-◌, ◌≤◌}
use Rattle.room_types.specs.Texts.{Token}

-- the 26 capitals, the 26 small letters and the 10 digits, in the order of their numbers
abbrev pub letter : ℕ → ℕ
letter n = if nat_lt n 26 then 65 + n else (if nat_lt n 52 then 97 + (n - 26) else 48 + (n - 52))

-- Each has as many bytes of the first 248 as any other; the last eight bytes have none.
abbrev pub letter_of : ℕ → Option ℕ
letter_of byte = if nat_lt byte 248 then Some (letter (byte % 62)) else None

-- the letters of random bytes, in their order
abbrev pub letters_of : List ℕ → List ℕ
letters_of random = filter_map letter_of random

-- at least as many of the bytes have a letter as a new token has letters
abbrev pub AreEnough : List ℕ → Type 0
AreEnough random = 24 ≤ length (letters_of random)

-- the token of random bytes that are enough
abbrev pub first_letters : List ℕ → Token
first_letters random = take 24 (letters_of random)
