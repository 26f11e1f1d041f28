-- Texts of some kind, and first parts of them.
use Rattle.std.specs.Prelude.{◌≡◌, ◌≢◌, ℕ, ◌≤◌, List, ◌++◌, ◌∷◌, decimal, All}
use Rattle.room_http_messages.specs.declared.limits.TheConstants.{INBOX_ROOM}
use Rattle.dispatch_room_journal.specs.declared.entry_lines.EntryLine.{EntryLine}
use Rattle.room_types.specs.declared.numbers.TheConstants.{LAST_MOMENT}
use Rattle.dispatch_room_journal.specs.Entries.{IsLine, line_text}

-- the byte is not among these
abbrev pub Lacks : ℕ → List ℕ → Type 0
Lacks mark bytes = All (λ byte. byte ≢ mark) bytes

-- the text is the first part of one of this kind, or all of it
abbrev pub BeginsOne : (List ℕ → Type 0) → List ℕ → Type 0
BeginsOne Kind text = (whole more : List ℕ) × Kind whole × (whole ≡ text ++ more)

-- a word, and then a text of this kind
abbrev pub After : List ℕ → (List ℕ → Type 0) → List ℕ → Type 0
After word Kind text = (rest : List ℕ) × Kind rest × (text ≡ word ++ rest)

-- the digits of a number in this range
abbrev pub IsNumber : ℕ → ℕ → List ℕ → Type 0
IsNumber least greatest text = (n : ℕ) × (least ≤ n) × (n ≤ greatest) × (text ≡ decimal n)

-- a moment and a number of bytes, with a space between
abbrev pub AreNumbers : List ℕ → Type 0
AreNumbers text =
    (at size : ℕ) × (at ≤ LAST_MOMENT) × (1 ≤ size) × (size ≤ INBOX_ROOM)
    × (text ≡ decimal at ++ 32 ∷ decimal size)

-- the text of a line
abbrev pub IsLineText : List ℕ → Type 0
IsLineText text = (l : EntryLine) × IsLine l × (text ≡ line_text l)
