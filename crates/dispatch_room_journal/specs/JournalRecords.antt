-- What a journal keeps of what is served.
use Rattle.std.specs.Prelude.{ℕ, List, [], ◌∷◌, ◌++◌, take, drop, codes}
use Rattle.room_model.specs.declared.digests.StartDigest.{StartDigest}
use Rattle.dispatch_room_journal.specs.Entries.{room, message, text_of}
use Rattle.dispatch_room_journal.specs.TextParts.{IsNumber}
use Rattle.dispatch_room_journal.specs.declared.entry_lines.TheConstants.{GREATEST_STATUS}
use Rattle.dispatch_room_journal.specs.declared.entry_lines.TheConstants.{LEAST_STATUS}

-- the three digits that follow the version in an answer's first line
abbrev pub status_in : List ℕ → List ℕ
status_in bytes = take 3 (drop 9 bytes)

-- no number from 100 to 999 stands there
abbrev pub LacksStatus : List ℕ → Type 0
LacksStatus bytes = ¬ (IsNumber LEAST_STATUS GREATEST_STATUS (status_in bytes))

-- what is kept where a part begins: the head, which gives the digest of the room's rows
abbrev pub room_text : StartDigest → List ℕ
room_text head = text_of (room head)

-- what is kept of a message: its moment and its bytes
abbrev pub message_text : ℕ → List ℕ → List ℕ
message_text at bytes = text_of (message at bytes)

-- what is kept of an answer: its status, as it stands in its first line
abbrev pub answer_text : List ℕ → List ℕ
answer_text bytes = (codes "answer " ++ status_in bytes) ++ 10 ∷ []
