-- A change of a room that is kept in a list: the room's digest, and the change, before it is made,
-- and then the digest after it.
use Rattle.std.specs.Prelude.{Err, List, Option, Result, ℕ, ◌≡◌, ◌⊎◌}
use Rattle.sqlite.specs.Held.{Held}
use Rattle.sqlite_trees.specs.declared.store.Store.{Ghosts}
use Rattle.room_model.specs.declared.digests.StartDigest.{StartDigest}
use Rattle.room_store.specs.declared.store.Store.{Store}
use Rattle.dispatch_room_exit.specs.declared.exit_status.Failure.{Failure}
use Rattle.dispatch_room_tasks.specs.OpenedRoom.{IsUnopened, OpensRoom}
use Rattle.dispatch_room_changes.specs.KeptImports.{EndsKept, IsUnkept, KeepsLines, ShowsHead}
use Rattle.dispatch_room_lists.specs.RoomChanges.{LosesRoom, Remakes}
use Rattle.dispatch_room_lists.specs.StoodRooms.{Stays}
use Rattle.dispatch_room_changes.specs.declared.change_lists.ChangeList.{ChangeList}
use Rattle.dispatch_room_lists.specs.declared.room_changes.RoomChange.{RoomChange}
use Rattle.room_tables_schema.specs.FileConnections.{IsClean}

module _ {S : Type 0} (g : Ghosts S) where
  -- the room stays as it is: memory, storage or the list fails
  pub record MakesNothing {F : Type 0} (old new : Store S) (from to : ChangeList F) (text : List ℕ)
      (done : Result (Unit {0}) Failure) : Type 0 where
    pub stays : Stays g old new
    pub fault : Failure
    pub failed : done ≡ Err fault
    pub why : IsUnkept from to text fault

  module _ {F : Type 0} (contents lasting : F → Option (List ℕ)) where
    -- The room's digest was kept, and then this text.
    pub record KeepsText (old new : Store S) (from to : ChangeList F) (text : List ℕ) : Type 0 where
      pub head : StartDigest
      pub shows : ShowsHead g old new head
      pub keeps : KeepsLines contents lasting from to head text

    -- the room's digest was kept after a change that ended so, and the room was closed
    pub record EndsMade (old : Store S) (new : Held S) (from to : ChangeList F)
        (came done : Result (Unit {0}) Failure) : Type 0 where
      pub closed : Store S
      pub ends : EndsKept g contents lasting old closed from to came done
      pub conn : closed.conn ≡ new

    -- The text of a change was kept; once it lasted, the change was made, or not for this; and then
    -- the room's digest was kept.
    pub record KeepsAndMakes (old new : Store S) (from to : ChangeList F) (change : RoomChange)
        (text : List ℕ) (done : Result (Unit {0}) Failure) : Type 0 where
      pub begun : Store S
      pub kept : ChangeList F
      pub keeps : KeepsText old begun from kept text
      pub again : Store S
      pub came : Result (Unit {0}) Failure
      pub remakes : Remakes g begun again change came
      pub ends : EndsKept g contents lasting again new kept to came done

    -- the same in the room of a database; or not all of the text was kept, and nothing changed
    pub record MakesKeptIn (old new : Held S) (from to : ChangeList F) (change : RoomChange)
        (text : List ℕ) (done : Result (Unit {0}) Failure) : Type 0 where
      pub opened : Store S
      pub closed : Store S
      pub opens : IsClean g opened.conn → OpensRoom g old opened
      pub is : MakesNothing opened closed from to text done
          ⊎ KeepsAndMakes opened closed from to change text done
      pub conn : closed.conn ≡ new

    -- the text was kept, and then no room was opened again
    pub record LosesKept (old : Held S) (from : ChangeList F) (change : RoomChange) (text : List ℕ)
        (fault : Failure) : Type 0 where
      pub opened : Store S
      pub begun : Store S
      pub opens : IsClean g opened.conn → OpensRoom g old opened
      pub to : ChangeList F
      pub keeps : KeepsText opened begun from to text
      pub loses : LosesRoom g begun change fault

    -- or no room was opened, or, once the text was kept, none was opened again
    abbrev pub OpensNoneKept : Held S → ChangeList F → RoomChange → List ℕ → Failure → Type 0
    OpensNoneKept old from change text fault =
        IsUnopened g old fault ⊎ LosesKept old from change text fault
