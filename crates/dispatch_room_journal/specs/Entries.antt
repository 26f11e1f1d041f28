-- What a journal says, and the text in which it says it.
use Rattle.std.specs.Prelude.{◌≡◌, ℕ, ◌+◌, ◌<◌, ◌≤◌, nat_le, List, [], ◌∷◌, ◌++◌, length, codes}
use Rattle.std.specs.Prelude.{decimal, Bool, true, ◌&&◌, ◌||◌, All}
use Rattle.std.specs.List.{flat_map}
use Rattle.room_http_messages.specs.declared.limits.TheConstants.{INBOX_ROOM}
use Rattle.room_model.specs.declared.digests.StartDigest.{StartDigest}
use Rattle.room_model.specs.declared.digests.Version.{Version}
use Rattle.room_model.specs.declared.digests.Version.TheVariants.{First, Second}
use Rattle.dispatch_room_journal.specs.declared.entry_lines.EntryLine.{EntryLine}
use Rattle.dispatch_room_journal.specs.declared.entry_lines.EntryLine.TheVariants.{Room, Message}
use Rattle.dispatch_room_journal.specs.declared.entry_lines.EntryLine.TheVariants.{Answer}
use Rattle.dispatch_room_journal.specs.declared.entry_lines.TheConstants.{LEAST_STATUS}
use Rattle.dispatch_room_journal.specs.declared.entry_lines.TheConstants.{GREATEST_STATUS}
use Rattle.room_types.specs.declared.numbers.TheConstants.{LAST_MOMENT}
use Rattle.dispatch_room_journal.specs.declared.entry_lines.TheConstants.{DIGEST_DIGITS}

-- A part begins, and its head gives the digest of the room's rows as it began; a message was
-- answered, which came at a moment; its answer's status.
pub data Entry : Type 0 where
  room : StartDigest → Entry
  message : ℕ → List ℕ → Entry
  answer : ℕ → Entry

-- the byte is one of 0 to 9 and a to f
abbrev pub is_digest_digit : ℕ → Bool
is_digest_digit byte = (nat_le 48 byte && nat_le byte 57) || (nat_le 97 byte && nat_le byte 102)

-- a digest, written: 64 digits
abbrev pub IsDigest : List ℕ → Type 0
IsDigest digits = (length digits ≡ DIGEST_DIGITS) × All (λ byte. is_digest_digit byte ≡ true) digits

-- what the line says is in its range
abbrev pub IsLine : EntryLine → Type 0
IsLine (Room head) = IsDigest head.digits
IsLine (Message at size) = (at ≤ LAST_MOMENT) × (1 ≤ size) × (size ≤ INBOX_ROOM)
IsLine (Answer status) = (LEAST_STATUS ≤ status) × (status ≤ GREATEST_STATUS)

-- the words before a digest of this version
abbrev pub head_words : Version → List ℕ
head_words First = codes "room 1 "
head_words Second = codes "room 2 "

-- the text of a line, without the line end
abbrev pub line_text : EntryLine → List ℕ
line_text (Room head) = head_words head.version ++ head.digits
line_text (Message at size) = codes "message " ++ (decimal at ++ 32 ∷ decimal size)
line_text (Answer status) = codes "answer " ++ decimal status

-- an entry's line
abbrev pub line_of : Entry → EntryLine
line_of (room head) = Room head
line_of (message at bytes) = Message at (length bytes)
line_of (answer status) = Answer status

-- what follows an entry's line and its end: a message's bytes as they came, and a line end
abbrev pub rest_of : Entry → List ℕ
rest_of (room head) = []
rest_of (message at bytes) = bytes ++ 10 ∷ []
rest_of (answer status) = []

-- a message's bytes
abbrev pub bytes_of : Entry → List ℕ
bytes_of (room head) = []
bytes_of (message at bytes) = bytes
bytes_of (answer status) = []

-- what is said is in its range
abbrev pub IsEntry : Entry → Type 0
IsEntry e = IsLine (line_of e)

-- the text of an entry
abbrev pub text_of : Entry → List ℕ
text_of e = line_text (line_of e) ++ 10 ∷ rest_of e

-- the text of a journal of these entries
abbrev pub texts_of : List Entry → List ℕ
texts_of entries = flat_map text_of entries

-- the text begins with an entry, and rest follows
abbrev pub Begins : List ℕ → Entry → List ℕ → Type 0
Begins text e rest = IsEntry e × (text ≡ text_of e ++ rest)

-- the text is cut short: an entry's text goes on where it ends
abbrev pub IsPart : List ℕ → Type 0
IsPart text =
    (e : Entry) × (more : List ℕ) × IsEntry e × (text_of e ≡ text ++ more) × (0 < length more)

-- the text begins with no entry, whatever follows it: neither is an entry's text a first part of
-- it, nor it of one
abbrev pub IsForeign : List ℕ → Type 0
IsForeign text = (more : List ℕ) (e : Entry) (rest : List ℕ) → ¬ (Begins (text ++ more) e rest)
