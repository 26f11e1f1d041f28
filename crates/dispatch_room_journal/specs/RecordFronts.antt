-- What is at the front of a text of records, and what the records of a text say.
use Rattle.std.specs.Prelude.{◌≡◌, ◌<◌, ◌≤◌, ℕ, zero, suc, ◌+◌, ◌-◌, ◌*◌, List, [], ◌∷◌, ◌++◌}
use Rattle.std.specs.Prelude.{length, take, drop, slice_index, Bool, true, false, not, ◌&&◌, nat_lt}
use Rattle.std.specs.Prelude.{if◌then◌else◌}
use Rattle.std.specs.Str.{bytes_eq}
use Rattle.dispatch_room_journal.specs.declared.journal_inbox.TheConstants.{ENTRY_ROOM}
use Rattle.dispatch_room_journal.specs.declared.record_inbox.TheConstants.{RECORD_ROOM}
use Rattle.dispatch_room_journal.specs.declared.record_headers.TheConstants.{HEADER}
use Rattle.dispatch_room_journal.specs.declared.record_fronts.Front.{Front}
use Rattle.dispatch_room_journal.specs.declared.record_fronts.Front.TheVariants.{Empty, Short}
use Rattle.dispatch_room_journal.specs.declared.record_fronts.Front.TheVariants.{Wrong, Whole}
use Rattle.dispatch_room_journal.specs.Chains.{first_check, header, is_end, is_row, next_check}
use Rattle.dispatch_room_journal.specs.Chains.{opening, said_by}
use Rattle.dispatch_room_journal.specs.declared.read_progress.Reach.{Reach}
use Rattle.dispatch_room_journal.specs.declared.read_progress.Reach.TheVariants.{Full, Segment}

-- the number whose five digits a text begins with
abbrev pub number_in : List ℕ → ℕ
number_in text =
    (slice_index text 0 - 48) * 10000 + (slice_index text 1 - 48) * 1000
    + (slice_index text 2 - 48) * 100 + (slice_index text 3 - 48) * 10 + (slice_index text 4 - 48)

-- the bytes of a record of this size, after its line
abbrev pub body_in : ℕ → List ℕ → List ℕ
body_in size text = take size (drop HEADER text)

-- what follows it
abbrev pub after : ℕ → List ℕ → List ℕ
after size text = drop (HEADER + size) text

-- a list ends well once before it goes on
abbrev pub comes_next : Bool → List ℕ → Bool
comes_next has_ended body = not (has_ended && is_end body)

-- the record with this check stands there, if its line is the one that it has
abbrev pub whole_front : Bool → List ℕ → ℕ → List ℕ → Front
whole_front has_ended text size check =
    if comes_next has_ended (body_in size text)
    then (if bytes_eq (take HEADER text) (header size check) then Whole size check else Wrong)
    else Wrong

module _ (hash : List ℕ → List ℕ) where
  -- what a line says of the number of the bytes that follow it, and of them
  abbrev pub sized_front : List ℕ → Bool → List ℕ → ℕ → Front
  sized_front check has_ended text size =
      if nat_lt size 1 then Wrong
      else (if nat_lt ENTRY_ROOM size then Wrong
      else (if nat_lt (length text) (HEADER + size) then Short
      else whole_front has_ended text size (next_check hash check (body_in size text))))

  -- what is at the front of a text, after a record with this check: nothing, or what is too short
  -- to say, or no record that comes next, or one
  abbrev pub front_of : List ℕ → Bool → List ℕ → Front
  front_of check has_ended text =
      if nat_lt (length text) 1 then Empty
      else (if nat_lt (length text) HEADER then Short
      else sized_front check has_ended text (number_in text))

-- What a look at the first bytes of a text gives stays so, whatever follows them. Where they are
-- too few to say, there is room for more of them.
abbrev pub Stays : (List ℕ → Front) → Bool → List ℕ → Front → Type 0
Stays look has_ended text Empty = length text < 1
Stays look has_ended text Short =
    (1 ≤ length text) × (length text < RECORD_ROOM) × (look text ≡ Short)
Stays look has_ended text Wrong = (more : List ℕ) → look (text ++ more) ≡ Wrong
Stays look has_ended text (Whole size check) =
    (HEADER + size ≤ length text) × (1 ≤ size)
    × (comes_next has_ended (body_in size text) ≡ true)
    × ((more : List ℕ) → look (text ++ more) ≡ Whole size check)

-- a segment of a list ends where a row stands
abbrev pub stops_at : Reach → List ℕ → Bool
stops_at Full body = false
stops_at Segment body = is_row body

-- what is at the front of a text says, and then what the rest does, so far as it is read; where
-- there is anything that is no record, a byte with which no entry begins
abbrev pub said_with : Reach → (List ℕ → Bool → List ℕ → List ℕ) → List ℕ → Front → List ℕ
said_with reach rest text Empty = []
said_with reach rest text Short = 0 ∷ []
said_with reach rest text Wrong = 0 ∷ []
said_with reach rest text (Whole size check) =
    if stops_at reach (body_in size text) then []
    else said_by (body_in size text) ++ rest check (is_end (body_in size text)) (after size text)

module _ (hash : List ℕ → List ℕ) (reach : Reach) where
  -- what so many records at most say
  abbrev pub said_in : ℕ → List ℕ → Bool → List ℕ → List ℕ
  said_in zero check has_ended text = []
  said_in (suc more) check has_ended text =
      said_with reach (λ c e t. said_in more c e t) text (front_of hash check has_ended text)

  -- what the records of a text say, each of which comes next after the one before: all of them, or
  -- those before the first row
  unfoldable pub says : List ℕ → Bool → List ℕ → List ℕ
  says check has_ended text = said_in (length text) check has_ended text

  -- what a list says: one that is no chain, itself
  unfoldable pub list_says : List ℕ → List ℕ
  list_says text =
      if bytes_eq (take 7 text) opening then says first_check false (drop 7 text) else text
