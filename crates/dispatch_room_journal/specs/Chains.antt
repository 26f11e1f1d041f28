-- A chain: records, one after another, each of which has a check of itself and of all before it.
use Rattle.std.specs.Prelude.{◌≤◌, ℕ, ◌+◌, ◌/◌, ◌%◌, List, [], ◌∷◌, ◌++◌, length, replicate, codes}
use Rattle.std.specs.Prelude.{Bool, false, ◌||◌, ◌&&◌, ◌==◌, take, drop, if◌then◌else◌}
use Rattle.std.specs.Str.{bytes_eq}
use Rattle.hex.specs.Hex.{encode_lower}
use Rattle.sha2.specs.Sha256.{sha256}
use Rattle.dispatch_room_journal.specs.declared.journal_inbox.TheConstants.{ENTRY_ROOM}

-- the hash of bytes, in digits
unfoldable pub sha256_digits : List ℕ → List ℕ
sha256_digits bytes = encode_lower (sha256 bytes)

-- the check before the first record
abbrev pub first_check : List ℕ
first_check = replicate 64 48

-- the line with which a list begins that is a chain
abbrev pub opening : List ℕ
opening = codes "list 2\n"

-- the record of a list that ended well
abbrev pub end_body : List ℕ
end_body = codes "end\n"

abbrev pub is_end : List ℕ → Bool
is_end body = bytes_eq body end_body

-- the word with which a record begins that is a row of a file which changes the room
abbrev pub row_word : List ℕ
row_word = codes "row "

-- a line with its end: a line end is its last byte, and no other
abbrev pub is_whole_line : List ℕ → Bool
is_whole_line [] = false
is_whole_line (byte ∷ more) = if byte == 10 then length more == 0 else is_whole_line more

-- a row: that word, and a line with its end
abbrev pub is_row : List ℕ → Bool
is_row body = bytes_eq row_word (take 4 body) && is_whole_line (drop 4 body)

-- the record of a line of that file, which is given without its end
abbrev pub row_body : List ℕ → List ℕ
row_body line = row_word ++ line ++ 10 ∷ []

-- the line in the record of a row, with its end
abbrev pub row_line : List ℕ → List ℕ
row_line body = drop 4 body

-- a record that is no entry: one that says that the list ended well, and a row
abbrev pub is_no_entry : List ℕ → Bool
is_no_entry body = is_end body || is_row body

-- what a record says among the entries
abbrev pub said_by : List ℕ → List ℕ
said_by body = if is_no_entry body then [] else body

-- what a record holds in plain: an entry or a row, itself
abbrev pub shown_by : List ℕ → List ℕ
shown_by body = if is_end body then [] else body

-- a record is not empty, and not longer than an entry
abbrev pub IsBody : List ℕ → Type 0
IsBody body = (1 ≤ length body) × (length body ≤ ENTRY_ROOM)

-- a number of bytes in five digits
abbrev pub size_text : ℕ → List ℕ
size_text n =
    (48 + n / 10000 % 10) ∷ (48 + n / 1000 % 10) ∷ (48 + n / 100 % 10) ∷ (48 + n / 10 % 10)
    ∷ (48 + n % 10) ∷ []

-- the line before a record: the number of its bytes, and its check
abbrev pub header : ℕ → List ℕ → List ℕ
header size check = size_text size ++ 32 ∷ (check ++ 10 ∷ [])

module _ (hash : List ℕ → List ℕ) where
  -- the check of a record: a hash of the check before it, and of its bytes
  abbrev pub next_check : List ℕ → List ℕ → List ℕ
  next_check check body = hash (check ++ body)

  -- a record after this check, with its line
  abbrev pub record_text : List ℕ → List ℕ → List ℕ
  record_text check body = header (length body) (next_check check body) ++ body

  -- the text of records after this check
  abbrev pub chain_text : List ℕ → List (List ℕ) → List ℕ
  chain_text check [] = []
  chain_text check (body ∷ more) =
      record_text check body ++ chain_text (next_check check body) more

  -- the check of the last of them
  abbrev pub last_check : List ℕ → List (List ℕ) → List ℕ
  last_check check [] = check
  last_check check (body ∷ more) = last_check (next_check check body) more
