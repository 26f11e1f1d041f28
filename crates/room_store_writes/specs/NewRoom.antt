-- A room that begins: what its tables stand for.
use Rattle.std.specs.List.{fold}
use Rattle.std.specs.Prelude.{List, [], filter, map, ℕ, ◌≡◌, ◌∷◌}
use Rattle.sqlite.specs.Held.{Held, state}
use Rattle.sqlite_trees.specs.Tree.{Trees}
use Rattle.sqlite_trees.specs.declared.store.Store.{Ghosts}
use Rattle.room_place.specs.Plans.{Layout, has_division}
use Rattle.room_place.specs.declared.plans.Area.{Area}
use Rattle.room_types.specs.KeyedRows.{put_row}
use Rattle.room_types.specs.declared.changes.Change.{Change}
use Rattle.room_types.specs.declared.fleet.Terminal.{Terminal}
use Rattle.room_types.specs.declared.tables.Division.{Division}
use Rattle.room_model.specs.FleetRows.{terminal_key, token_cmp}
use Rattle.room_model.specs.Room.{Room, apply}
use Rattle.room_tables_schema.specs.Schema.{room_schema}
use Rattle.room_tables_schema.specs.declared.database_faults.Fault.TheVariants as fault
use Rattle.room_tables.specs.RoomsInTables.{Stands, empty_room}
use Rattle.room_store_writes.specs.Transactions.{IsSettled}
use Rattle.room_store_writes.specs.Configurations.{config_of}

-- the numbers that a division may have
abbrev pub division_numbers : List ℕ
division_numbers = 1 ∷ 2 ∷ 3 ∷ 4 ∷ 5 ∷ 6 ∷ 7 ∷ 8 ∷ 9 ∷ []

-- a division that has had no incident
abbrev pub new_division : ℕ → Division
new_division d = record { number = d; last_incident = 0 }

-- a row for each division of the plan, in the order of their numbers
unfoldable pub new_divisions : List Area → List Division
new_divisions areas = map new_division (filter (has_division areas) division_numbers)

-- a new room has the plan and its divisions, and no other rows
abbrev pub new_room : Layout → Room
new_room plan = record empty_room { plan = plan.areas; divisions = new_divisions plan.areas }

-- terminals put among others by their tokens
abbrev pub put_all : List Terminal → List Terminal → List Terminal
put_all among ts = fold (put_row token_cmp terminal_key) among ts

-- terminals in the order of their tokens
abbrev pub in_order : List Terminal → List Terminal
in_order ts = put_all [] ts

-- the tables stand for the new room with these terminals
abbrev pub StandsNew : Layout → List Terminal → Trees → Type 0
StandsNew plan ts trees = Stands trees (config_of plan (in_order ts)) (new_room plan)

-- The tables of an open connection are the new room's, and this is committed.
pub record Begins {S : Type 0} (g : Ghosts S) (conn : Held S) (plan : Layout)
    (ts : List Terminal) : Type 0 where
  pub settled : IsSettled (state g conn)
  pub schema : (state g conn).now.schema ≡ room_schema
  pub stands : StandsNew plan ts (state g conn).now.trees

-- the tables stand for the room that changes make of the new one, with these terminals
abbrev pub StandsWith : Layout → List Terminal → List Change → Trees → Type 0
StandsWith plan ts changes trees =
    Stands trees (config_of plan (in_order ts)) (apply (new_room plan) changes)

-- The tables of an open connection are that room's, and this is committed.
pub record BeginsWith {S : Type 0} (g : Ghosts S) (conn : Held S) (plan : Layout)
    (ts : List Terminal) (changes : List Change) : Type 0 where
  pub settled : IsSettled (state g conn)
  pub schema : (state g conn).now.schema ≡ room_schema
  pub stands : StandsWith plan ts changes (state g conn).now.trees
