-- An import that is kept in a list: the room's digest, and the fleet, before it is enrolled, and
-- then the digest after it.
use Rattle.std.specs.List.{flat_map}
use Rattle.std.specs.Prelude.{All, Err, IfOk, List, [], MatchResult, Ok, Option, Result, length}
use Rattle.std.specs.Prelude.{true, ℕ, ◌++◌, ◌<◌, ◌∷◌, ◌≡◌, ◌⊎◌}
use Rattle.sqlite.specs.Held.{Held}
use Rattle.sqlite_trees.specs.declared.store.Store.{Ghosts}
use Rattle.room_types.specs.declared.fleet.Terminal.{Terminal}
use Rattle.room_model.specs.Digests.{IsHeadOf}
use Rattle.room_model.specs.Room.{Room}
use Rattle.room_http_messages.specs.declared.sinks.WriteFailed.{WriteFailed}
use Rattle.room_model.specs.declared.digests.StartDigest.{StartDigest}
use Rattle.room_store.specs.StoredRoom.{IsKept, IsRoom}
use Rattle.room_store.specs.declared.store.Store.{Store}
use Rattle.dispatch_room_csv.specs.declared.fleet_file.FleetLine.{FleetLine}
use Rattle.dispatch_room_exit.specs.declared.exit_status.Done.{Done}
use Rattle.dispatch_room_exit.specs.declared.exit_status.Failure.{Failure}
use Rattle.dispatch_room_exit.specs.declared.exit_status.Failure.TheVariants.{Journal, Memory}
use Rattle.dispatch_room_exit.specs.declared.exit_status.Failure.TheVariants.{Storage}
use Rattle.dispatch_room_journal.specs.JournalRecords.{room_text}
use Rattle.dispatch_room_journal.specs.PlainTexts.{PutsKnown}
use Rattle.dispatch_room_journal.specs.RowRuns.{PutsEntry, PutsRow}
use Rattle.dispatch_room_journal.specs.TextParts.{Lacks}
use Rattle.dispatch_room_journal.specs.declared.list_ends.ListEnd.{ListEnd}
use Rattle.dispatch_room_journal.specs.declared.list_ends.ListEnd.TheVariants.{Plain}
use Rattle.dispatch_room_journal.specs.declared.row_runs.TheConstants.{ROW_ROOM}
use Rattle.dispatch_room_changes.specs.declared.change_lists.ChangeList.{ChangeList}
use Rattle.dispatch_room_tasks.specs.Enrolment.{HasImported, PrintsFates}
use Rattle.dispatch_room_tasks.specs.OpenedRoom.{OpensRoom}
use Rattle.dispatch_room_lists.specs.StoodRooms.{Stays, digits_in}
use Rattle.dispatch_room_serving.specs.OpenedLists.{IsMarked}
use Rattle.room_tables_schema.specs.FileConnections.{IsClean}

-- a text is these lines, one after another; the last one may have no line end
pub record AreLinesOf (text : List ℕ) (lines : List (List ℕ)) : Type 0 where
  pub are : All (Lacks 10) lines
  pub is : (flat_map (λ line. line ++ 10 ∷ []) lines ≡ text)
      ⊎ (flat_map (λ line. line ++ 10 ∷ []) lines ≡ text ++ 10 ∷ [])

-- lines were put behind a list, one after another, each as a row
abbrev pub PutsRows : ListEnd → ListEnd → Option (List ℕ) → Option (List ℕ) → List (List ℕ) → Type 0
PutsRows end now before after [] = (now ≡ end) × (after ≡ before)
PutsRows end now before after (line ∷ lines) =
    (next : ListEnd) × (between : Option (List ℕ)) × PutsRow end next before between line
    × PutsRows next now between after lines

-- ---- why something is not kept
-- a line of a text is longer than a row has room for
pub record HasLongLine (text : List ℕ) : Type 0 where
  pub front : List ℕ
  pub line : List ℕ
  pub rest : List ℕ
  pub is : text ≡ front ++ (line ++ rest)
  pub one : Lacks 10 line
  pub long : ROW_ROOM < length line

module _ {F : Type 0} where
  -- a line was not kept as a row: the list failed, or it is no chain, or the line is too long
  abbrev pub LacksRow : ChangeList F → List ℕ → Type 0
  LacksRow list line = (list.out.failed ≡ true) ⊎ (list.end ≡ Plain) ⊎ (ROW_ROOM < length line)

  -- the lines of a text were not all kept as rows: the same, or one of them is too long
  abbrev pub LacksRows : ChangeList F → List ℕ → Type 0
  LacksRows list text = (list.out.failed ≡ true) ⊎ (list.end ≡ Plain) ⊎ HasLongLine text

  -- the room can't be read, for memory or storage, and the list stays as it is
  abbrev pub IsUnshown : ChangeList F → ChangeList F → Failure → Type 0
  IsUnshown from to fault = ((fault ≡ Memory) ⊎ (fault ≡ Storage)) × (to ≡ from)

  -- why the digest of a room was not kept: it can't be read, or the list failed
  abbrev pub IsUnplaced : ChangeList F → ChangeList F → Failure → Type 0
  IsUnplaced from to fault =
      IsUnshown from to fault ⊎ ((fault ≡ Journal) × (to.out.failed ≡ true))

  -- why a text was not kept behind the digest of a room
  abbrev pub IsUnkept : ChangeList F → ChangeList F → List ℕ → Failure → Type 0
  IsUnkept from to text fault = IsUnshown from to fault ⊎ ((fault ≡ Journal) × LacksRows to text)

-- How a change ends that came to this, once the room's digest was kept, or was not: a change that
-- was made fails if it was not.
abbrev pub ended : {T : Type 0} → Result T Failure → Result (Unit {0}) Failure → Result T Failure
ended came (Ok kept) = came
ended (Ok it) (Err fault) = Err fault
ended (Err first) (Err fault) = Err first

-- ---- what is kept, by what a file holds, and what of that lasts
module _ {F : Type 0} (contents lasting : F → Option (List ℕ)) where
  -- a head was put behind it, and nothing else
  abbrev pub PutsHead : ChangeList F → ChangeList F → StartDigest → Type 0
  PutsHead old new head = PutsKnown {E = WriteFailed} old.end new.end (contents old.out.file)
      (contents new.out.file) (room_text head) (Ok tt)
      × PutsEntry old.end new.end (contents old.out.file) (contents new.out.file) (room_text head)

  -- all that it holds lasts
  abbrev pub IsLasting : ChangeList F → Type 0
  IsLasting list = lasting list.out.file ≡ contents list.out.file

  -- A head was put behind it, and then the lines of a text as rows, and all of it lasts.
  pub record KeepsLines (old new : ChangeList F) (head : StartDigest) (text : List ℕ) : Type 0 where
    pub headed : ChangeList F
    pub begins : PutsHead old headed head
    pub lines : List (List ℕ)
    pub are : AreLinesOf text lines
    pub rows : PutsRows headed.end new.end (contents headed.out.file) (contents new.out.file) lines
    pub lasts : IsLasting new

  -- a head was put behind it, and lasts
  pub record KeepsHead (old new : ChangeList F) (head : StartDigest) : Type 0 where
    pub begins : PutsHead old new head
    pub lasts : IsLasting new

-- a mark stood beside the file of a list before anything was appended to what that held
abbrev pub BeginsMarked : {F : Type 0} → (F → Option (List ℕ)) → (F → Option ℕ → Type 0)
    → ChangeList F → Type 0
BeginsMarked {F} contents marks list =
    (file : F) × (contents file ≡ contents list.out.file) × IsMarked contents marks file

module _ {S : Type 0} (g : Ghosts S) where
  -- The head is that of the room, which stays as it is and is kept as it was.
  pub record ShowsHead (old new : Store S) (head : StartDigest) : Type 0 where
    pub stays : Stays g old new
    pub kept : IsClean g new.conn → IsKept g old → IsKept g new
    pub is : IsClean g new.conn → (terminals : List Terminal) (room : Room)
        → IsRoom g old terminals room → IsHeadOf (digits_in old) head terminals room

  -- the lines were imported in a store
  pub record Imports (old new : Store S) (lines : List FleetLine) (before after : Option (List ℕ))
      (came : Result Done Failure) : Type 0 where
    pub clean : IsClean g new.conn → IsClean g old.conn
    pub imported : IsClean g new.conn → (terminals : List Terminal) (room : Room)
        → IsRoom g old terminals room
        → HasImported g old new lines before after came terminals room
    pub printed : IfOk came (PrintsFates lines before after)

  module _ {F : Type 0} (contents lasting : F → Option (List ℕ)) where
    -- nothing was enrolled: memory, storage or the list fails
    pub record EnrolsNothing (old new : Store S) (from to : ChangeList F) (text : List ℕ)
        (before after : Option (List ℕ)) (done : Result Done Failure) : Type 0 where
      pub stays : Stays g old new
      pub unprinted : after ≡ before
      pub fault : Failure
      pub done_is : done ≡ Err fault
      pub why : IsUnkept from to text fault

    -- the room's digest is kept, or not for this
    abbrev pub PlacesRoom : Store S → Store S → ChangeList F → ChangeList F
        → Result (Unit {0}) Failure → Type 0
    PlacesRoom old new from to kept = MatchResult kept
        (λ _. (head : StartDigest) × ShowsHead old new head × KeepsHead contents lasting from to head)
        (IsUnplaced from to)

    -- The room's digest is kept after a change that ended so, whether it was made or not.
    pub record EndsKept {T : Type 0} (old new : Store S) (from to : ChangeList F)
        (came done : Result T Failure) : Type 0 where
      pub stays : Stays g old new
      pub kept : Result (Unit {0}) Failure
      pub place : PlacesRoom old new from to kept
      pub is : done ≡ ended came kept

    -- The fleet was kept, and then it was enrolled.
    pub record KeepsAndEnrols (old new : Store S) (from to : ChangeList F) (lines : List FleetLine)
        (text : List ℕ) (before after : Option (List ℕ)) (done : Result Done Failure) : Type 0 where
      pub begun : Store S
      pub head : StartDigest
      pub shows : ShowsHead old begun head
      pub kept : ChangeList F
      pub keeps : KeepsLines contents lasting from kept head text
      pub enrolled : Store S
      pub came : Result Done Failure
      pub imports : Imports begun enrolled lines before after came
      pub ends : EndsKept enrolled new kept to came done

    -- Nothing was enrolled; or the fleet was, once it lasted in the list.
    abbrev pub ImportsKept : Store S → Store S → ChangeList F → ChangeList F → List FleetLine → List ℕ
        → Option (List ℕ) → Option (List ℕ) → Result Done Failure → Type 0
    ImportsKept old new from to lines text before after done =
        EnrolsNothing old new from to text before after done
        ⊎ KeepsAndEnrols old new from to lines text before after done

    -- the same in the room of a database
    pub record ImportsKeptIn (old new : Held S) (from to : ChangeList F) (lines : List FleetLine)
        (text : List ℕ) (before after : Option (List ℕ)) (done : Result Done Failure) : Type 0 where
      pub opened : Store S
      pub closed : Store S
      pub opens : IsClean g opened.conn → OpensRoom g old opened
      pub is : ImportsKept opened closed from to lines text before after done
      pub conn : closed.conn ≡ new
