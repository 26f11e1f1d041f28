-- The digest of a room that is printed, or why it is not.
use Rattle.std.specs.Prelude.{Err, List, Ok, Option, Result, codes, ℕ, ◌++◌, ◌≡◌, ◌⊎◌}
use Rattle.std.specs.Io.KnownBytes.{Appends}
use Rattle.sqlite.specs.Held.{Held}
use Rattle.sqlite_trees.specs.declared.store.Store.{Ghosts}
use Rattle.room_types.specs.declared.fleet.Terminal.{Terminal}
use Rattle.room_model.specs.Digests.{digits_of}
use Rattle.room_model.specs.Room.{Room}
use Rattle.room_model.specs.declared.digests.Version.TheVariants.{Second}
use Rattle.room_store.specs.StoredRoom.{IsReady, IsRoom}
use Rattle.room_store.specs.declared.store.Store.{Store}
use Rattle.room_store_file.specs.DigestTexts.{digest_of}
use Rattle.dispatch_room_exit.specs.declared.exit_status.Done.{Done}
use Rattle.dispatch_room_exit.specs.declared.exit_status.Done.TheVariants.{Whole}
use Rattle.dispatch_room_exit.specs.declared.exit_status.Failure.{Failure}
use Rattle.dispatch_room_exit.specs.declared.exit_status.Failure.TheVariants.{Memory, Network}
use Rattle.dispatch_room_exit.specs.declared.exit_status.Failure.TheVariants.{Storage}
use Rattle.dispatch_room_journal.specs.Entries.{IsDigest}
use Rattle.dispatch_room_tasks.specs.OpenedRoom.{OpensRoom}
use Rattle.room_tables_schema.specs.FileConnections.{IsClean}

-- ---- what is printed
-- the line of a digest
abbrev pub digest_line : List ℕ → List ℕ
digest_line digits = codes "digest " ++ (digits ++ codes "\n")

-- the line of a digest is printed, or the output fails
abbrev pub PrintsDigits : Option (List ℕ) → Option (List ℕ) → List ℕ → Result Done Failure → Type 0
PrintsDigits before after digits (Ok done) =
    (done ≡ Whole) × Appends before after (digest_line digits)
PrintsDigits before after digits (Err fault) = fault ≡ Network

-- the room can't be read, for memory or storage, and nothing is printed
abbrev pub PrintsNothing : Option (List ℕ) → Option (List ℕ) → Result Done Failure → Type 0
PrintsNothing before after done = (fault : Failure) × (done ≡ Err fault)
    × ((fault ≡ Memory) ⊎ (fault ≡ Storage)) × (after ≡ before)

-- ---- of which room
-- the digest of all rows of a room, in digits, with the zone of its days and its terminals
abbrev pub room_digits : List ℕ → List Terminal → Room → List ℕ
room_digits zone terminals room = digits_of digest_of zone Second terminals room

-- these are the digits of the digest of a store's room
abbrev pub AreDigits : {S : Type 0} → Ghosts S → Store S → Store S → List ℕ → Type 0
AreDigits g old new digits = IsClean g new.conn → (terminals : List Terminal) (room : Room)
    → IsRoom g old terminals room → digits ≡ room_digits old.plan.zone terminals room

-- The digest of a store's room is printed, unless the output fails; or the room can't be read. The
-- room stays as it was, and the store may be called again.
pub record PrintsDigest {S : Type 0} (g : Ghosts S) (old new : Store S)
    (before after : Option (List ℕ)) (done : Result Done Failure) : Type 0 where
  pub ready : IsReady g new
  pub clean : IsClean g new.conn → IsClean g old.conn
  pub same : IsClean g new.conn → (terminals : List Terminal) (room : Room)
      → IsRoom g old terminals room → IsRoom g new terminals room
  pub printed : PrintsNothing before after done
      ⊎ ((digits : List ℕ) × IsDigest digits × AreDigits g old new digits
      × PrintsDigits before after digits done)

-- a room of a database was opened, and its digest printed
pub record HasDigest {S : Type 0} (g : Ghosts S) (old new : Held S)
    (before after : Option (List ℕ)) (done : Result Done Failure) : Type 0 where
  pub opened : Store S
  pub last : Store S
  pub opens : IsClean g opened.conn → OpensRoom g old opened
  pub prints : PrintsDigest g opened last before after done
  pub closed : new ≡ last.conn
