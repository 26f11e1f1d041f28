-- What a store keeps true between calls, and which room it stands for.
use Rattle.std.specs.Prelude.{List, [], false, IsTrue, ◌∷◌, ◌≡◌, ◌≢◌, ◌⊎◌}
use Rattle.sqlite.specs.Held.{Held, state}
use Rattle.sqlite.specs.State.{FailsToQuery, State}
use Rattle.sqlite.specs.declared.error.Error.{Error}
use Rattle.sqlite_trees.specs.Tree.{Trees}
use Rattle.sqlite_trees.specs.declared.store.Store.{Ghosts}
use Rattle.room_types.specs.declared.fleet.Terminal.{Terminal}
use Rattle.room_model.specs.FleetRows.{AreTerminals}
use Rattle.room_model.specs.Room.{Room}
use Rattle.room_model.specs.RoomAgreements.{IsWellFormed}
use Rattle.room_tables_rows.specs.declared.meta_sql.TheConstants.{ALL_META}
use Rattle.room_tables_schema.specs.Schema.{room_schema}
use Rattle.room_tables.specs.RoomsInTables.{Configuration, Stands}
use Rattle.room_store_writes.specs.Configurations.{config_of}
use Rattle.room_store_writes.specs.Transactions.{IsSettled}
use Rattle.room_store_cache.specs.Cache.{IsCacheOf, KnowsNothing}
use Rattle.room_store_cache.specs.KnownTerminals.{AreTerminalsOf}
use Rattle.room_store.specs.declared.store.Store.{Store}
use Rattle.room_tables_schema.specs.FileConnections.{IsClean}

-- The connection shows a room: it is open, its tables are a room's, and they are as they were
-- committed.
pub record ShowsRoom (at : State) : Type 0 where
  pub schema : at.now.schema ≡ room_schema
  pub settled : IsSettled at

-- A query failed on this connection: it is shut, or memory or the disk failed.
abbrev pub HasFailedToRead : {S : Type 0} → Ghosts S → Held S → Type 0
HasFailedToRead {S} g held = (before : Held S) × (e : Error)
    × FailsToQuery ALL_META.now [] (state g before) (state g held) e

-- why a store is not sound
abbrev pub IsUnreadable : {S : Type 0} → Ghosts S → Held S → Type 0
IsUnreadable g held =
    ((state g held).now.schema ≢ room_schema) ⊎ HasFailedToRead g held

-- It may be called: no transaction is open, a sound store's connection shows a room, and an unsound
-- store knows nothing, and its connection shows no room's schema or has failed to read.
pub record IsReady {S : Type 0} (g : Ghosts S) (held : Store S) : Type 0 where
  pub outside : held.conn.in_transaction ≡ false
  pub sound : IsTrue held.is_sound → IsClean g held.conn
      → ShowsRoom (state g held.conn)
  pub unsound : held.is_sound ≡ false → KnowsNothing held.cache
  pub cause : held.is_sound ≡ false → IsClean g held.conn → IsUnreadable g held.conn

-- It stands for this well-formed room with these terminals, those that it knows are of these, and
-- what else it knows is so in the room. Of a connection that a fault has shut, the tables say
-- nothing.
pub record IsRoom {S : Type 0} (g : Ghosts S) (held : Store S) (terminals : List Terminal)
    (room : Room) : Type 0 where
  pub formed : IsWellFormed room
  pub fits : AreTerminals room terminals
  pub plan : room.plan ≡ held.plan.areas
  pub known : AreTerminalsOf held.terminals.kept.items terminals
  pub cache : IsCacheOf held.cache room
  pub tables : IsTrue (state g held.conn).is_open
      → Stands (state g held.conn).now.trees (config_of held.plan terminals) room

-- What its tables hold is kept: the connection is open, and a stop leaves only these tables.
pub record IsKept {S : Type 0} (g : Ghosts S) (held : Store S) : Type 0 where
  pub is_open : IsTrue (state g held.conn).is_open
  pub only_left : (db : Trees) → (state g held.conn).may_leave db
      → db ≡ (state g held.conn).now.trees

-- the tables stand for one of these rooms
abbrev pub StandForOne : Trees → Configuration → List Room → Type 0
StandForOne trees config [] = ⊥
StandForOne trees config (room ∷ rooms) = Stands trees config room ⊎ StandForOne trees config rooms

-- Whatever tables a stop leaves, they stand for one of these rooms with these terminals.
abbrev pub LeavesOneOf : {S : Type 0} → Ghosts S → Store S → List Terminal → List Room → Type 0
LeavesOneOf g held terminals rooms = (db : Trees) → (state g held.conn).may_leave db
    → StandForOne db (config_of held.plan terminals) rooms
