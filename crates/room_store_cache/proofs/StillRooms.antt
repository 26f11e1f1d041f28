-- What reads one after another leave: an open connection, the room's schema, and the room.
use Rattle.std.proofs.Common.{ap, ◌∙◌}
use Rattle.sqlite.specs.Effect.{Database}
use Rattle.sqlite.specs.Held.{Held, state}
use Rattle.sqlite_trees.specs.declared.store.Store.{Ghosts}
use Rattle.room_model.specs.Room.{Room}
use Rattle.room_tables.proofs.RoomReads.{kept, was_clean}
use Rattle.room_tables.specs.RoomsInTables.{Configuration, Stands}
use Rattle.room_tables_schema.proofs.ReadLaws.{Looked}
use Rattle.room_tables_schema.specs.FileConnections.{HasRoomSchema, IsClean, StandsOpen}

module _ {S : Type 0} {g : Ghosts S} {a b : Held S} (read : Looked g a b) where
  pub still_room : HasRoomSchema g a → HasRoomSchema g b
  still_room room clean =
      ap (λ (db : Database). db.schema) (read.ok clean).0.now_is ∙ room (was_clean read.survives clean)

  pub still_open : StandsOpen g b
  still_open clean = (read.ok clean).0.is_open

  pub still_stands : IsClean g b → (config : Configuration) (room : Room)
      → Stands (state g a).now.trees config room → Stands (state g b).now.trees config room
  still_stands clean config room h = kept (state g a) (state g b) (read.ok clean) config room h
