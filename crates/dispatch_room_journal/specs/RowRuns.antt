-- The rows of a file in a list, and what stands behind them.
use Rattle.std.specs.Prelude.{◌≡◌, ◌≢◌, ℕ, List, [], ◌++◌, Bool, true, false, Option, Some, Result}
use Rattle.std.specs.Prelude.{Ok, Err}
use Rattle.std.specs.List.{flat_map}
use Rattle.std.specs.Io.KnownBytes.{Appends}
use Rattle.room_model.specs.declared.digests.StartDigest.{StartDigest}
use Rattle.dispatch_room_journal.specs.declared.list_ends.ListEnd.{ListEnd}
use Rattle.dispatch_room_journal.specs.declared.list_ends.ListEnd.TheVariants.{Chain, Plain}
use Rattle.dispatch_room_journal.specs.declared.record_fronts.Link.{Link}
use Rattle.dispatch_room_journal.specs.declared.row_runs.Behind.{Behind}
use Rattle.dispatch_room_journal.specs.declared.row_runs.Behind.TheVariants.{End, Other, Room}
use Rattle.dispatch_room_journal.specs.declared.row_runs.Behind.TheVariants.{Unread}
use Rattle.dispatch_room_journal.specs.declared.row_runs.RowsFault.{RowsFault}
use Rattle.dispatch_room_journal.specs.declared.row_runs.RowsFault.TheVariants.{Memory, Read}
use Rattle.dispatch_room_journal.specs.Entries.{IsEntry, room, text_of}
use Rattle.dispatch_room_journal.specs.Chains.{IsBody, end_body, is_end, is_row, next_check}
use Rattle.dispatch_room_journal.specs.Chains.{record_text, row_body, row_line, sha256_digits}
use Rattle.dispatch_room_journal.specs.RecordFronts.{comes_next}
use Rattle.dispatch_room_journal.specs.RecordRuns.{Runs}

abbrev pub IsRow : List ℕ → Type 0
IsRow body = is_row body ≡ true

-- the text that follows a record begins with this one, which comes next
abbrev pub GoesOnWith : Link → List ℕ → List ℕ → Type 0
GoesOnWith link body text = IsBody body × (comes_next link.has_ended body ≡ true)
    × ((rest : List ℕ) × (text ≡ record_text sha256_digits link.check body ++ rest))

-- a record is this head, or none
abbrev pub HeadIs : List ℕ → Behind → Type 0
HeadIs body Unread = ⊥
HeadIs body End = ⊥
HeadIs body (Room head) = IsEntry (room head) × (body ≡ text_of (room head))
HeadIs body Other = (head : StartDigest) → IsEntry (room head) → body ≢ text_of (room head)

-- What stands behind rows: nothing; a head; or anything else, which is no row.
abbrev pub BehindIs : Link → List ℕ → Behind → Type 0
BehindIs link text Unread = ⊥
BehindIs link text End = text ≡ []
BehindIs link text (Room head) = IsEntry (room head) × GoesOnWith link (text_of (room head)) text
BehindIs link text Other = (text ≢ [])
    × ((head : StartDigest) → IsEntry (room head) → ¬ (GoesOnWith link (text_of (room head)) text))
    × ((body : List ℕ) → IsRow body → ¬ (GoesOnWith link body text))

-- the text that follows a record begins with rows, all that stand there, which have these lines
pub record TakesRows (link : Link) (text lines rest : List ℕ) (now : Link) (behind : Behind)
    : Type 0 where
  pub bodies : List (List ℕ)
  pub rows : Runs IsRow link text bodies rest now
  pub have : lines ≡ flat_map row_line bodies
  pub stands : BehindIs now rest behind

-- the rows that stand next were taken, and their lines put behind others
abbrev pub TakesKnown : Link → Link → Option (List ℕ) → Option (List ℕ) → List ℕ → List ℕ → Behind
    → Type 0
TakesKnown link now before after old new behind =
    (text : List ℕ) → before ≡ Some text
    → (lines : List ℕ) × (rest : List ℕ) × TakesRows link text lines rest now behind
    × (new ≡ old ++ lines) × (after ≡ Some rest)

-- whether reading failed
abbrev pub is_read : Result Behind RowsFault → Bool
is_read (Ok behind) = false
is_read (Err Read) = true
is_read (Err Memory) = false

-- a record was put behind a chain
abbrev pub PutsBody : ListEnd → ListEnd → Option (List ℕ) → Option (List ℕ) → List ℕ → Type 0
PutsBody Plain now before after body = ⊥
PutsBody (Chain link) now before after body =
    Appends before after (record_text sha256_digits link.check body)
    × (now ≡ Chain (record {
      check = next_check sha256_digits link.check body;
      has_ended = is_end body;
    }))

-- an entry was put behind a list: as it is, or as a record where it is a chain
abbrev pub PutsEntry : ListEnd → ListEnd → Option (List ℕ) → Option (List ℕ) → List ℕ → Type 0
PutsEntry Plain now before after entry = (now ≡ Plain) × Appends before after entry
PutsEntry (Chain link) now before after entry = PutsBody (Chain link) now before after entry

-- That a list ended well was put behind it, where it is a chain that does not end so; else it is
-- as it was.
abbrev pub PutsEnd : ListEnd → ListEnd → Option (List ℕ) → Option (List ℕ) → Type 0
PutsEnd Plain now before after = (now ≡ Plain) × (after ≡ before)
PutsEnd (Chain link) now before after =
    (link.has_ended ≡ false → PutsBody (Chain link) now before after end_body)
    × (link.has_ended ≡ true → (now ≡ Chain link) × (after ≡ before))

-- a line was put behind a chain, as a row
abbrev pub PutsRow : ListEnd → ListEnd → Option (List ℕ) → Option (List ℕ) → List ℕ → Type 0
PutsRow end now before after line = PutsBody end now before after (row_body line)
