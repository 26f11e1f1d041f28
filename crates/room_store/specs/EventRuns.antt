-- What acting on a list of events makes of a store.
use Rattle.std.specs.Prelude.{IsTrue, List, Result, length, take, ℕ, ◌+◌, ◌++◌, ◌≡◌, ◌≤◌, ◌⊎◌}
use Rattle.sqlite.specs.Held.{state}
use Rattle.sqlite_trees.specs.Tree.{Trees}
use Rattle.sqlite_trees.specs.declared.store.Store.{Ghosts}
use Rattle.room_place.specs.Plans.{Layout}
use Rattle.room_types.specs.declared.answers.Answer.{Answer}
use Rattle.room_types.specs.declared.asks.Event.{Event}
use Rattle.room_types.specs.declared.fleet.Terminal.{Terminal}
use Rattle.room_types.specs.declared.refusal_statuses.Refusal.{Refusal}
use Rattle.room_model.specs.Events.{AreAddressed}
use Rattle.room_model.specs.Room.{Room}
use Rattle.room_model.specs.Run.{answers, room_run}
use Rattle.room_tables.specs.RoomsInTables.{Stands}
use Rattle.room_store.specs.StoredRoom.{IsKept, IsRoom}
use Rattle.room_store_writes.specs.Configurations.{config_of}
use Rattle.room_store.specs.declared.store.Store.{Store}

-- the tables stand for the room after so many of the events
abbrev pub StandsAfterEvents : Trees → Layout → List Event → List Terminal → Room → ℕ → Type 0
StandsAfterEvents trees layout events terminals room count =
    Stands trees (config_of layout terminals) (room_run (take count events) room)

-- So many of the events, the first ones, were acted on: the machine's answers were added, and the
-- store stands for the room after them. Where what it held was kept, a stop leaves what is there
-- after these events, or after one more.
pub record HasRun {S : Type 0} (g : Ghosts S) (old new : Store S) (events : List Event)
    (was is : List (Result Answer Refusal)) (terminals : List Terminal)
    (room : Room) : Type 0 where
  pub count : ℕ
  pub within : count ≤ length events
  pub added : is ≡ was ++ answers (take count events) room
  pub stands : IsRoom g new terminals (room_run (take count events) room)
  pub left : IsKept g old → (db : Trees) → (state g new.conn).may_leave db
      → StandsAfterEvents db old.plan events terminals room count
      ⊎ StandsAfterEvents db old.plan events terminals room (count + 1)

-- What a stop may leave of a run, beside what it could before: the room after some of the events,
-- the first ones.
abbrev pub MayBeRun : {S : Type 0} → Ghosts S → Store S → List Event → Trees → Type 0
MayBeRun g old events trees = IsTrue (state g old.conn).is_open
    → (terminals : List Terminal) (room : Room) → IsRoom g old terminals room
    → AreAddressed events room
    → (count : ℕ) × StandsAfterEvents trees old.plan events terminals room count
