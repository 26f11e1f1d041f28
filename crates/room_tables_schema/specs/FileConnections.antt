-- What is known of a connection to a room's file.
use Rattle.std.specs.Prelude.{IsTrue, ◌≡◌}
use Rattle.sqlite.specs.Held.{Held, state}
use Rattle.sqlite_trees.specs.declared.store.Store.{Ghosts}
use Rattle.room_tables_schema.specs.Schema.{room_schema}
use Rattle.sqlite.specs.State.{HasCleanDisk}

-- The disk gave back what was written to it: else nothing is known of what the connection holds.
abbrev pub IsClean : {S : Type 0} → Ghosts S → Held S → Type 0
IsClean g held = HasCleanDisk (state g held)

-- then it is open
abbrev pub StandsOpen : {S : Type 0} → Ghosts S → Held S → Type 0
StandsOpen g held = IsClean g held → IsTrue (state g held).is_open

-- then it is in a transaction
abbrev pub StandsInTransaction : {S : Type 0} → Ghosts S → Held S → Type 0
StandsInTransaction g held = IsClean g held → IsTrue (state g held).in_transaction

-- unless its disk has failed, it sees a room's schema
abbrev pub HasRoomSchema : {S : Type 0} → Ghosts S → Held S → Type 0
HasRoomSchema g held = IsClean g held → (state g held).now.schema ≡ room_schema

-- unless its disk has failed, it is in a transaction on a room's tables
pub record MayWrite {S : Type 0} (g : Ghosts S) (held : Held S) : Type 0 where
  pub room : HasRoomSchema g held
  pub inside : IsClean g held → IsTrue (state g held).in_transaction
