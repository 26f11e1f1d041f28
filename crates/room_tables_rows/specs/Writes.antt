-- What a write in a transaction leaves.
use Rattle.std.specs.Prelude.{◌≡◌, ◌++◌, ℕ, suc, List, [], ◌∷◌, length}
use Rattle.sqlite.specs.State.{State}
use Rattle.room_tables_schema.specs.Outcomes.{Inside, Only}
use Rattle.room_place.specs.declared.plans.Area.{Area}
use Rattle.room_types.specs.declared.changes.Change.{Change}
use Rattle.room_model.specs.Room.{Room, apply_one}
use Rattle.room_tables_schema.specs.Schema.{meta_table, room_schema}
use Rattle.room_tables_rows.specs.MetaSql.{meta_row, version_row}
use Rattle.room_tables_rows.specs.RoomsInTables.{Configuration, Stands, StandsFor}

-- The tables stand for another configuration and room than before, and nothing is committed.
pub record Changes (old new : State) (config_after : Configuration → Configuration)
    (room_after : Room → Room) : Type 0 where
  pub inside : Inside old new
  pub schema : new.now.schema ≡ room_schema
  pub stands : (config : Configuration) (room : Room) → Stands old.now.trees config room
      → Stands new.now.trees (config_after config) (room_after room)

-- One change of rows is made.
abbrev pub Makes : State → State → Change → Type 0
Makes old new change = Changes old new (λ config. config) (λ room. apply_one room change)

-- The next area of the plan is there.
pub record AppendsArea (old new : State) (at : ℕ) (area : Area) : Type 0 where
  pub inside : Inside old new
  pub schema : new.now.schema ≡ room_schema
  pub stands : (config : Configuration) (room : Room) → Stands old.now.trees config room
      → at ≡ suc (length room.plan) → Stands new.now.trees config
      (record room { plan = room.plan ++ area ∷ [] })

-- The tables gave the first version, and give this one. No other table changed.
pub record RaisesVersion (old new : State) : Type 0 where
  pub inside : Inside old new
  pub schema : new.now.schema ≡ room_schema
  pub only : Only room_schema meta_table.tree old.now new.now
  pub zone : List ℕ
  pub was : StandsFor old.now.trees meta_table (version_row 1) (zone ∷ [])
  pub is : StandsFor new.now.trees meta_table meta_row (zone ∷ [])
