-- What a stop leaves of a record that it left half written: the beginning of one.
use Rattle.std.specs.Prelude.{◌≡◌, ◌⊎◌, ◌<◌, ◌≤◌, ◌==◌, ℕ, List, [], ◌∷◌, ◌++◌, length, take, drop}
use Rattle.std.specs.Prelude.{All, Bool, true, if◌then◌else◌, nat_lt}
use Rattle.std.specs.Char.{is_ascii_digit}
use Rattle.dispatch_room_journal.specs.declared.record_headers.TheConstants.{HEADER}
use Rattle.dispatch_room_journal.specs.Chains.{is_no_entry}
use Rattle.dispatch_room_journal.specs.Entries.{Entry, IsDigest, IsEntry, is_digest_digit, text_of}
use Rattle.dispatch_room_journal.specs.RecordFronts.{number_in}
use Rattle.dispatch_room_journal.specs.TextParts.{Lacks}

-- a record is an entry, or says none
abbrev pub SaysEntry : List ℕ → Type 0
SaysEntry body = (is_no_entry body ≡ true) ⊎ ((e : Entry) × IsEntry e × (body ≡ text_of e))

-- The line before a record: the digits of its size, a space, those of its check, and a line end.
pub record IsRecordLine (line : List ℕ) : Type 0 where
  pub size : List ℕ
  pub five : length size ≡ 5
  pub digits : All (λ byte. is_ascii_digit byte ≡ true) size
  pub check : List ℕ
  pub is_check : IsDigest check
  pub is : line ≡ size ++ 32 ∷ (check ++ 10 ∷ [])

-- some first bytes of such a line, or all of it
abbrev pub BeginsLine : List ℕ → Type 0
BeginsLine line = (more : List ℕ) × IsRecordLine (line ++ more)

-- a byte may stand at this place of such a line
abbrev pub may_stand : ℕ → ℕ → Bool
may_stand at byte = if nat_lt at 5 then is_ascii_digit byte else (if at == 5 then byte == 32
    else (if at == 70 then byte == 10 else is_digest_digit byte))

-- These bytes are the beginning of one record, and not all of it. Where its own first line is
-- whole, as only that of a message can be, it has the size that is said of it.
pub record IsCutBody (size : ℕ) (part : List ℕ) : Type 0 where
  pub body : List ℕ
  pub more : List ℕ
  pub says : SaysEntry body
  pub is : body ≡ part ++ more
  pub some : 0 < length more
  pub fits : ¬ (Lacks 10 part) → length body ≡ size

-- a text is the beginning of one record: some first bytes of its line, or its line and the
-- beginning of the record
abbrev pub IsCutRecord : List ℕ → Type 0
IsCutRecord text = BeginsLine (take HEADER text)
    × (HEADER ≤ length text → IsCutBody (number_in text) (drop HEADER text))

-- A text begins with the line of a record, all of it. So does what is left of a chain that was
-- truncated to nothing while it was written: what was appended then stands where its own first line
-- was, and follows records that are lost. No list begins so.
abbrev pub IsTruncated : List ℕ → Type 0
IsTruncated text = (HEADER ≤ length text) × BeginsLine (take HEADER text)

-- Whatever the line says that stands before it, a whole record is no beginning of one, and no more
-- is what follows it: none is taken for cut off, whichever bytes of that line were changed.
abbrev pub IsNeverCut : Type 0
IsNeverCut =
    (line body more : List ℕ) → length line ≡ HEADER → SaysEntry body
    → ¬ (IsCutRecord (line ++ (body ++ more)))
