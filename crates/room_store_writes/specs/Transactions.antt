-- What a transaction makes of the tables: all of its changes, or nothing.
use Rattle.std.specs.Prelude.{IsTrue, List, ◌≡◌, Result, OnErr}
use Rattle.sqlite.specs.State.{State}
use Rattle.room_types.specs.declared.changes.Change.{Change}
use Rattle.room_model.specs.Room.{Room, apply}
use Rattle.room_tables_schema.specs.Schema.{room_schema}
use Rattle.room_tables.specs.RoomsInTables.{Configuration, Stands}
use Rattle.sqlite_trees.specs.declared.store.Store.{Ghosts}
use Rattle.sqlite.specs.Held.{Held, state}
use Rattle.room_tables_schema.specs.FileConnections.{IsClean}

-- In a transaction, which goes on, all these changes are made.
pub record MakesAll (old new : State) (changes : List Change) : Type 0 where
  pub inside : IsTrue new.in_transaction
  pub schema : new.now.schema ≡ room_schema
  pub stands : (config : Configuration) (room : Room) → Stands old.now.trees config room
      → Stands new.now.trees config (apply room changes)

-- The tables of a connection that is open and in no transaction are as they were committed.
pub record IsSettled (at : State) : Type 0 where
  pub is_open : IsTrue at.is_open
  pub committed : at.committed ≡ at.now

-- From the tables of certain rooms came those of the rooms after, and this is committed.
pub record Commits (old new : State) (IsOld : Configuration → Room → Type 0)
    (room_after : Room → Room) : Type 0 where
  pub was_open : IsTrue old.is_open
  pub settled : IsSettled new
  pub schema : new.now.schema ≡ room_schema
  pub stands : (config : Configuration) (room : Room) → IsOld config room
      → Stands new.now.trees config (room_after room)

-- All is as it was, unless the connection is shut.
pub record Leaves (old new : State) : Type 0 where
  pub was_open : IsTrue new.is_open → IsTrue old.is_open
  pub now_is : IsTrue new.is_open → new.now ≡ old.now
  pub committed_is : IsTrue new.is_open → new.committed ≡ old.committed

-- of a connection whose disk is clean: it is open and in no transaction, and its tables are
-- committed
abbrev pub StandsSettled : {S : Type 0} → Ghosts S → Held S → Type 0
StandsSettled g held = IsClean g held → IsSettled (state g held)

-- what an open connection holds is committed
abbrev pub IsCommitted : {S : Type 0} → Ghosts S → Held S → Type 0
IsCommitted g held = IsTrue (state g held).is_open → (state g held).now ≡ (state g held).committed

-- a call that failed has left all as it was
abbrev pub LeavesOnErr : {S T E : Type 0} → Ghosts S → Held S → Held S → Result T E → Type 0
LeavesOnErr g old new result = IsClean g new → OnErr result (Leaves (state g old) (state g new))
