-- Why a replay stops: what follows the turns that were done with, and what has failed.
use Rattle.std.specs.Prelude.{◌≡◌, ◌⊎◌, ⊤, ℕ, ◌<◌, List, [], ◌∷◌, length, decimal, Bool, true}
use Rattle.std.specs.Prelude.{false, Option, Some, None}
use Rattle.room_types.specs.declared.refusal_statuses.Refusal.{Refusal}
use Rattle.room_http_messages.specs.Messages.{WholeMessage, HasMessage}
use Rattle.room_model.specs.Rooms.{IsUnavailable}
use Rattle.room_model.specs.declared.digests.DigestMismatch.{DigestMismatch}
use Rattle.room_model.specs.declared.digests.DigestMismatch.TheVariants as miss
use Rattle.room_model.specs.declared.digests.StartDigest.{StartDigest}
use Rattle.dispatch_room_journal.specs.declared.entry_reader.EntryFault.{EntryFault}
use Rattle.dispatch_room_journal.specs.declared.entry_reader.EntryFault.TheVariants.{Cut, Foreign}
use Rattle.dispatch_room_journal.specs.declared.entry_reader.EntryFault.TheVariants.{Read}
use Rattle.dispatch_room_journal.specs.Entries.{room, message, answer, Begins, IsPart, IsForeign}
use Rattle.dispatch_room_journal.specs.declared.replay_faults.ReplayFault.{ReplayFault}
use Rattle.dispatch_room_journal.specs.declared.replay_faults.ReplayFault.TheVariants.{Bad, Differs}
use Rattle.dispatch_room_journal.specs.declared.replay_faults.ReplayFault.TheVariants.{OtherRoom}
use Rattle.dispatch_room_journal.specs.declared.replay_faults.ReplayFault.TheVariants.{ReadFailed}
use Rattle.dispatch_room_journal.specs.declared.replay_faults.ReplayFault.TheVariants.{WriteFailed}
use Rattle.dispatch_room_journal.specs.declared.replay_faults.ReplayFault.TheVariants.{Unavailable}
use Rattle.dispatch_room_journal.specs.JournalRecords.{status_in}
use Rattle.dispatch_room_journal.specs.ReplayedTurns.{Open, Play, Turn, tried}

-- the fault of a read of the journal
abbrev pub read_fault : EntryFault → ReplayFault
read_fault Cut = Bad
read_fault Foreign = Bad
read_fault Read = ReadFailed

-- the text is cut within an entry, or begins with none
abbrev pub IsBroken : List ℕ → Type 0
IsBroken text = ((0 < length text) × IsPart text) ⊎ IsForeign text

-- the bytes are not one whole message
abbrev pub IsNoMessage : List ℕ → Type 0
IsNoMessage sent = (m : WholeMessage) → ¬ (HasMessage sent m [])

-- memory or storage fails
abbrev pub IsUnavailableFault : ReplayFault → Type 0
IsUnavailableFault fault = (r : Refusal) × (fault ≡ Unavailable r) × IsUnavailable r

-- what stands after a message is what it is played for: a status, or a head of another room than
-- the one before the message (`Elsewhere`)
abbrev pub IsPlayedFor : (Option Open → StartDigest → Type 0) → List ℕ → Type 0
IsPlayedFor Elsewhere rest =
    ((status : ℕ) × (more : List ℕ) × Begins rest (answer status) more)
    ⊎ ((head : StartDigest) × (more : List ℕ) × Begins rest (room head) more
    × Elsewhere None head)

-- Why what stands after the turns is bad. It is no journal; or it is a status that no message
-- stands before; or a message that no head stands before, where nothing came before it (`none`); or
-- a message that is none. Or no more turns are taken (`full`). Where a message waits for what
-- stands after it (`waits`), it is not played where that is no journal, and nothing is said of its
-- bytes where it is left out.
pub data IsBad (waits : Bool) (none full : Type 0) (Elsewhere : Option Open → StartDigest → Type 0)
    (last : List Turn) (rest : List ℕ) : Type 0 where
  broken : (waits ≡ true → last ≡ []) → IsBroken rest → IsBad waits none full Elsewhere last rest
  broken_after : (at : ℕ) (sent more : List ℕ) → waits ≡ true → last ≡ []
      → Begins rest (message at sent) more → IsBroken more
      → IsBad waits none full Elsewhere last rest
  unasked : (status : ℕ) (more : List ℕ) → last ≡ [] → Begins rest (answer status) more
      → IsBad waits none full Elsewhere last rest
  headless : (at : ℕ) (sent more : List ℕ) → last ≡ [] → Begins rest (message at sent) more → none
      → IsBad waits none full Elsewhere last rest
  no_message : (at : ℕ) (sent more : List ℕ) → last ≡ [] → Begins rest (message at sent) more
      → IsNoMessage sent → (waits ≡ true → IsPlayedFor Elsewhere more)
      → IsBad waits none full Elsewhere last rest
  too_many : full → IsBad waits none full Elsewhere last rest

-- A head stands next; or an open message, which waits for what stands after it, and then a head.
abbrev pub IsHead : Bool → List ℕ → Option Open → StartDigest → Type 0
IsHead waits rest None head = (more : List ℕ) × Begins rest (room head) more
IsHead waits rest (Some open_) head =
    (waits ≡ true) × (mid : List ℕ) × (more : List ℕ)
    × Begins rest (message open_.0 open_.1) mid × Begins mid (room head) more

-- What stands after the turns, by the reported fault: a status that is not that of the message
-- that was played last; or a head of another room than the turns lead to, or than they would lead
-- to by an open message before it (`Elsewhere`). Then no message was played that was not compared,
-- and the open one neither.
module _ (waits : Bool) (none full : Type 0) (Elsewhere : Option Open → StartDigest → Type 0)
    (last : List Turn) where
  abbrev pub Explains : ReplayFault → List ℕ → Type 0
  Explains Bad rest = IsBad waits none full Elsewhere last rest
  Explains Differs rest =
      (p : Play) × (status : ℕ) × (more : List ℕ) × (last ≡ tried p ∷ [])
      × Begins rest (answer status) more × (¬ (status_in p.response ≡ decimal status))
  Explains OtherRoom rest =
      (last ≡ []) × (open_ : Option Open) × (head : StartDigest) × IsHead waits rest open_ head
      × Elsewhere open_ head
  Explains ReadFailed rest = ⊤
  Explains WriteFailed rest = ⊤
  Explains (Unavailable r) rest = ⊤

-- What has failed, by the reported fault: just what it says.
module _ (read_failed write_failed : Bool) where
  abbrev pub IsDueTo : ReplayFault → Type 0
  IsDueTo Bad = (read_failed ≡ false) × (write_failed ≡ false)
  IsDueTo Differs = (read_failed ≡ false) × (write_failed ≡ false)
  IsDueTo OtherRoom = (read_failed ≡ false) × (write_failed ≡ false)
  IsDueTo ReadFailed = (read_failed ≡ true) × (write_failed ≡ false)
  IsDueTo WriteFailed = (read_failed ≡ false) × (write_failed ≡ true)
  IsDueTo (Unavailable r) = (read_failed ≡ false) × (write_failed ≡ false) × IsUnavailable r

-- the fault that reports that a room did not come to a digest
abbrev pub miss_fault : DigestMismatch → ReplayFault
miss_fault miss.OtherDigest = OtherRoom
miss_fault (miss.Unavailable r) = Unavailable r

-- why a message is not played: its bytes are none, or memory or storage fails
abbrev pub Refuses : List ℕ → ReplayFault → Type 0
Refuses sent fault = ((fault ≡ Bad) × IsNoMessage sent) ⊎ IsUnavailableFault fault
