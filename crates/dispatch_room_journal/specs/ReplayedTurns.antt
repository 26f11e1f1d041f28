-- Which messages of a journal are played when it is replayed.
use Rattle.std.specs.Prelude.{◌≡◌, ℕ, ◌<◌, ◌≤◌, ◌⊎◌, ⊤, List, [], ◌∷◌, ◌++◌, map, decimal, All}
use Rattle.std.specs.Prelude.{Bool, true, false, Option, Some, None}
use Rattle.std.specs.List.{flat_map}
use Rattle.room_model.specs.declared.digests.StartDigest.{StartDigest}
use Rattle.dispatch_room_journal.specs.Entries.{Entry, room, message, answer, IsEntry, texts_of}
use Rattle.dispatch_room_journal.specs.Entries.{Begins}
use Rattle.dispatch_room_journal.specs.JournalRecords.{status_in}
use Rattle.room_http_messages.specs.Messages.{WholeMessage, HasMessage}
use Rattle.room_http.specs.Arrivals.{message as arrived}
use Rattle.room_http.specs.Dialogues.{Timed}

-- an open message, which has no status: its moment, and its bytes
abbrev pub Open : Type 0
Open = ℕ × List ℕ

-- a message that is played: its moment, its bytes, the message that they are, and the bytes of its
-- answer
pub record Play : Type 0 where
  pub at : ℕ
  pub sent : List ℕ
  pub whole : WholeMessage
  pub response : List ℕ

-- What is done with the next entry, or with the next two. A head is compared with the room. A
-- message that has a status after it is played, and its status compared. An open one, which has
-- none, is played before a head to which the room has not come, and comes by it (`caught_up`), or
-- without a look at what follows it (`tried`), or it is left out.
pub data Turn : Type 0 where
  compared : StartDigest → Turn
  answered : Play → ℕ → Turn
  caught_up : Play → StartDigest → Turn
  tried : Play → Turn
  left_out : ℕ → List ℕ → Turn

-- the entries of a turn
abbrev pub entries_in : Turn → List Entry
entries_in (compared head) = room head ∷ []
entries_in (answered p status) = message p.at p.sent ∷ answer status ∷ []
entries_in (caught_up p head) = message p.at p.sent ∷ room head ∷ []
entries_in (tried p) = message p.at p.sent ∷ []
entries_in (left_out at sent) = message at sent ∷ []

-- the message of a turn that is played
abbrev pub plays_in : Turn → List Play
plays_in (compared head) = []
plays_in (answered p status) = p ∷ []
plays_in (caught_up p head) = p ∷ []
plays_in (tried p) = p ∷ []
plays_in (left_out at sent) = []

-- the turn has a message
abbrev pub has_message : Turn → Bool
has_message (compared head) = false
has_message (answered p status) = true
has_message (caught_up p head) = true
has_message (tried p) = true
has_message (left_out at sent) = true

-- the turn leaves a message out
abbrev pub is_left_out : Turn → Bool
is_left_out (compared head) = false
is_left_out (answered p status) = false
is_left_out (caught_up p head) = false
is_left_out (tried p) = false
is_left_out (left_out at sent) = true

-- the turn has a message, and no entry after it
abbrev pub is_unanswered : Turn → Bool
is_unanswered (compared head) = false
is_unanswered (answered p status) = false
is_unanswered (caught_up p head) = false
is_unanswered (tried p) = true
is_unanswered (left_out at sent) = true

-- the entries of turns, one after another
abbrev pub entries_of : List Turn → List Entry
entries_of ts = flat_map entries_in ts

-- the messages of turns that are played
abbrev pub plays_of : List Turn → List Play
plays_of ts = flat_map plays_in ts

-- a message that is played, as it arrives
abbrev pub timed : Play → Timed
timed p = (arrived p.whole, p.at)

-- the messages that are played, as they arrive
abbrev pub arrivals_of : List Turn → List Timed
arrivals_of ts = map timed (plays_of ts)

-- the answers, each by itself
abbrev pub answers_of : List Turn → List (List ℕ)
answers_of ts = map (λ p. p.response) (plays_of ts)

-- the same, one after another
abbrev pub bytes_of : List Turn → List ℕ
bytes_of ts = flat_map (λ p. p.response) (plays_of ts)

-- the bytes of what is played are one message and nothing else
abbrev pub IsPlay : Play → Type 0
IsPlay p = HasMessage p.sent p.whole []

-- what is played is a message, and the status that was recorded is that of the answer
abbrev pub IsTurn : Turn → Type 0
IsTurn (compared head) = ⊤
IsTurn (answered p status) = IsPlay p × (status_in p.response ≡ decimal status)
IsTurn (caught_up p head) = IsPlay p
IsTurn (tried p) = IsPlay p
IsTurn (left_out at sent) = ⊤

-- a turn of a replay: an open message is played only before a head to which the room has not come
abbrev pub IsReplayed : Turn → Type 0
IsReplayed (compared head) = ⊤
IsReplayed (answered p status) = ⊤
IsReplayed (caught_up p head) = ⊤
IsReplayed (tried p) = ⊥
IsReplayed (left_out at sent) = ⊤

-- a turn in which each message is played as soon as it is whole
abbrev pub IsPlayed : Turn → Type 0
IsPlayed (compared head) = ⊤
IsPlayed (answered p status) = ⊤
IsPlayed (caught_up p head) = ⊥
IsPlayed (tried p) = ⊤
IsPlayed (left_out at sent) = ⊥

-- a message's moment is not after this one, if there is one
abbrev pub IsBy : Option ℕ → Entry → Type 0
IsBy None e = ⊤
IsBy (Some until) (room head) = ⊤
IsBy (Some until) (message at sent) = at ≤ until
IsBy (Some until) (answer status) = ⊤

-- a message's moment is after this one
abbrev pub IsAfter : Option ℕ → ℕ → Type 0
IsAfter None at = ⊥
IsAfter (Some until) at = until < at

-- the first turn is a head
abbrev pub IsBegun : List Turn → Type 0
IsBegun ts = (head : StartDigest) × (more : List Turn) × (ts ≡ compared head ∷ more)

-- a head came, and then it was the first; or nothing came
abbrev pub StartsBy : Bool → List Turn → Type 0
StartsBy true ts = IsBegun ts
StartsBy false ts = ts ≡ []

-- the text, where it is known, begins with these entries, and something is said of what follows
abbrev pub BeginsWith : Option (List ℕ) → List Entry → (List ℕ → Type 0) → Type 0
BeginsWith left entries follows =
    (text : List ℕ) → left ≡ Some text
    → (rest : List ℕ) × (text ≡ texts_of entries ++ rest) × follows rest

-- nothing follows, or a message whose moment is after this one
abbrev pub EndsAt : Option ℕ → List ℕ → Type 0
EndsAt until rest = (rest ≡ []) ⊎ ((at : ℕ) × (sent : List ℕ) × (after : List ℕ)
    × Begins rest (message at sent) after × IsAfter until at)

-- the last turn leaves a message out
abbrev pub ends_open : List Turn → Bool
ends_open [] = false
ends_open (t ∷ []) = is_left_out t
ends_open (t ∷ u ∷ ts) = ends_open (u ∷ ts)

-- the last turn has a message, and no entry after it
abbrev pub ends_unanswered : List Turn → Bool
ends_unanswered [] = false
ends_unanswered (t ∷ []) = is_unanswered t
ends_unanswered (t ∷ u ∷ ts) = ends_unanswered (u ∷ ts)

-- no status stands next
abbrev pub HasNoStatus : List ℕ → Type 0
HasNoStatus rest = (status : ℕ) (more : List ℕ) → ¬ (Begins rest (answer status) more)

-- the entries are in their ranges, and no message is after this moment
abbrev pub AreBy : Option ℕ → List Entry → Type 0
AreBy until entries = All (λ e. IsEntry e × IsBy until e) entries

-- The turns are of the first entries of the text, of which the first is a head, and none is of a
-- message after this moment.
pub record AreTurns (left : Option (List ℕ)) (until : Option ℕ) (ts : List Turn)
    (follows : List ℕ → Type 0) : Type 0 where
  pub turns : All IsTurn ts
  pub entries : AreBy until (entries_of ts)
  pub begins : BeginsWith left (entries_of ts) follows
  pub begun : (ts ≡ []) ⊎ IsBegun ts
