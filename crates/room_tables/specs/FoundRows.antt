-- What is found in the tables of a room.
use Rattle.std.specs.Prelude.{IfOk, Result}
use Rattle.sqlite.specs.Held.{Held, state}
use Rattle.sqlite_trees.specs.declared.store.Store.{Ghosts}
use Rattle.room_model.specs.Room.{Room}
use Rattle.room_tables_rows.specs.RoomsInTables.{Configuration, Stands}
use Rattle.room_tables_schema.specs.FileConnections.{IsClean}

-- of whichever room the tables stand for, and of what was read, this is so
abbrev pub Finds : {S T E : Type 0} → Ghosts S → Held S → Held S → Result T E → (Room → T → Type 0)
    → Type 0
Finds g old new result IsFound =
    IsClean g new → IfOk result
    (λ x. (config : Configuration) (room : Room) → Stands (state g old).now.trees config room
    → IsFound room x)

-- of whichever configuration the tables stand for, and of what was read, this is so
abbrev pub FindsInConfiguration : {S T E : Type 0} → Ghosts S → Held S → Held S → Result T E
    → (Configuration → T → Type 0) → Type 0
FindsInConfiguration g old new result IsFound =
    IsClean g new → IfOk result
    (λ x. (config : Configuration) (room : Room) → Stands (state g old).now.trees config room
    → IsFound config x)
