-- What a command does with its machine: one effect after another.
use Rattle.std.specs.Global.{Global}
use Rattle.std.specs.Prelude.{Bool, Err, List, MatchResult, Ok, Option, Result, Vec, [], ⊤, ℕ, ◌≡◌}
use Rattle.std.specs.Prelude.{◌⊎◌, ◌∷◌}
use Rattle.sqlite.specs.Files.{over_files}
use Rattle.sqlite.specs.Held.{Held, state}
use Rattle.sqlite_disk.specs.declared.Disk.{Ghosts as Disk}
use Rattle.sqlite_store.specs.declared.store.FileStore.{FileStore}
use Rattle.sqlite_trees.specs.Tree.{Trees}
use Rattle.dispatch_room_exit.specs.declared.exit_status.Failure.{Failure}
use Rattle.dispatch_room_exit.specs.declared.exit_status.Failure.TheVariants as failure
use Rattle.dispatch_room_disk.specs.CommandSteps.{Stand, Step, Then, Tries}
use Rattle.dispatch_room_disk.specs.FileSteps.{Does}
use Rattle.dispatch_room_disk.specs.ReplacingSteps.{Step as Call}
use Rattle.dispatch_room_disk.specs.RoomFiles.{Closes, Doing, IsConnected, IsUnfound, Place}
use Rattle.dispatch_room_journal.specs.declared.list_ends.ListEnd.{ListEnd}

-- What was done with a machine, and what came of it. Lists are kept in such files.
pub data Effect (F : Type 0) : Type 0 where
  -- the file of a room was opened, and showed these tables; or it was closed again, or given up
  opened : Place → Result Trees Failure → Effect F
  closed : Place → Effect F
  -- the text of a file was read
  read : List ℕ → Result (Vec ℕ Global) Failure → Effect F
  -- the list of a journal was opened, by its file and how it goes on there
  listed : List ℕ → Result (F × ListEnd) Failure → Effect F
  -- a list was opened to be read, of whose bytes this is known; and it was left: whether a read of
  -- it failed, and whether the last record that was read says that it ended well
  found : List ℕ → Result (Option (List ℕ)) Failure → Effect F
  left : List ℕ → Bool → Bool → Effect F
  -- a step was done by which a copy is put in the place of a file
  replaced : Call → Effect F
  -- random bytes were drawn
  drawn : Result (List ℕ) Failure → Effect F
  -- standard input was taken, of whose bytes this is known
  taken : Option (List ℕ) → Effect F
  -- it was asked whether standard output is a terminal
  asked : Bool → Effect F
  -- an address was called, for a connection that lasts so many nanoseconds
  called : List ℕ → ℕ → Effect F

-- what is known of what came
abbrev pub known : {T U : Type 0} → (T → U) → Result T Failure → Result U Failure
known says (Ok it) = Ok (says it)
known says (Err fault) = Err fault

-- a file can't be read, or there is no memory for it
abbrev pub IsUnread : Failure → Type 0
IsUnread fault = (fault ≡ failure.Memory) ⊎ (fault ≡ failure.Input)

-- the list of a journal can't be opened, or there is no memory for it
abbrev pub IsUnlisted : Failure → Type 0
IsUnlisted fault = (fault ≡ failure.Memory) ⊎ (fault ≡ failure.Journal)

-- what is said of what a command does, by what came of it
abbrev pub Command : Type 0 → Type 0 → Type 1
Command F = Step (Stand (Effect F))

-- what is said of work in an open database, by where the command stood before and after, and by
-- what came of it and the database as it is then, or of why it can't be done
abbrev pub Working : {D : Type 0} → Disk D → Type 0 → Type 0 → Type 1
Working {D} g F T = Stand (Effect F) → Stand (Effect F)
    → Result (Result T Failure × Held (FileStore D g)) Failure → Type 0

-- a file's text is read, or not, for this
abbrev pub Reads : {F : Type 0} → List ℕ → Command F (Vec ℕ Global)
Reads path = Tries (read path) (λ came. MatchResult came (λ text. ⊤) IsUnread)

-- the list of a journal is opened, or not, for this
abbrev pub OpensList : {F : Type 0} → List ℕ → Command F (F × ListEnd)
OpensList path = Tries (listed path) (λ came. MatchResult came (λ list. ⊤) IsUnlisted)

-- the tables that a database shows
abbrev pub tables_of : {D : Type 0} {g : Disk D} → Held (FileStore D g) → Trees
tables_of conn = (state over_files conn).now.trees

-- on such a disk
module _ {D F : Type 0} (g : Disk D) where
  -- a room's file is opened, and shows the database that its files hold; or none was found
  abbrev pub Opens : Place → Command F (Held (FileStore D g))
  Opens place = Tries (λ came. opened place (known tables_of came))
      (λ came. MatchResult came IsConnected IsUnfound)

  -- the work was done, and its file was closed behind it
  pub record Ends {T : Type 0} (place : Place) (works : Working g F T) (before after : Stand (Effect F))
      (came : Result T Failure) : Type 0 where
    pub at : Stand (Effect F)
    pub worked : Result (Result T Failure × Held (FileStore D g)) Failure
    pub did : works before at worked
    pub closes : Closes worked came
    pub done : Does (closed place ∷ []) at.done after.done
    pub printed : after.printed ≡ at.printed

  -- work that would be the same over any storage, and does nothing with the machine
  abbrev pub In : {T : Type 0} → Doing T → Held (FileStore D g) → Working g F T
  In does conn before after worked =
      does (FileStore D g) over_files conn before.printed after.printed worked
      × (after.done ≡ before.done)

  -- Work in the database of a room's file, which is opened before and closed behind it; or no
  -- database was found.
  abbrev pub Works : {T : Type 0} → Place → Doing T → Command F T
  Works place does = Then (Opens place) (λ conn. Ends place (In does conn))
