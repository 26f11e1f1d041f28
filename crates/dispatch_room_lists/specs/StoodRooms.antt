-- The room that a store stands for: its digest in digits, that a store goes on, and that its room
-- stays as it is.
use Rattle.std.specs.Prelude.{Bool, List, ◌≡◌}
use Rattle.sqlite_trees.specs.declared.store.Store.{Ghosts}
use Rattle.room_types.specs.declared.fleet.Terminal.{Terminal}
use Rattle.room_model.specs.Digests.{DigitsOf, digits_of}
use Rattle.room_model.specs.Room.{Room}
use Rattle.room_http.specs.Settings.{IsSetting}
use Rattle.room_store.specs.StoredRoom.{IsReady, IsRoom}
use Rattle.room_store.specs.declared.store.Store.{Store}
use Rattle.room_store_file.specs.DigestTexts.{digest_of}
use Rattle.dispatch_room_lists.specs.declared.followed_rows.Stage.{Stage}
use Rattle.room_tables_schema.specs.FileConnections.{IsClean}

-- the digests of rooms of a store's plan, in digits
abbrev pub digits_in : {S : Type 0} → Store S → DigitsOf
digits_in store = digits_of digest_of store.plan.zone

-- a store that was worked in is ready again, and has the zone that it had
pub record GoesOn {S : Type 0} (g : Ghosts S) (old new : Store S) : Type 0 where
  pub ready : IsReady g new
  pub zone : new.plan.zone ≡ old.plan.zone
  pub trusted : IsClean g new.conn → IsClean g old.conn

-- a stage that was worked on is ready again, and its setting is that of the zone which its room has
pub record StageGoesOn {S : Type 0} (g : Ghosts S) (old new : Stage S) : Type 0 where
  pub ready : IsReady g new.room
  pub set : (serves : Bool) → IsSetting old.room.plan.zone serves old.setting
      → IsSetting new.room.plan.zone serves new.setting
  pub trusted : IsClean g new.room.conn → IsClean g old.room.conn

-- a store that is looked at stands for what it stood for
pub record Stays {S : Type 0} (g : Ghosts S) (old new : Store S) : Type 0 where
  pub clean : IsClean g new.conn → IsClean g old.conn
  pub same : IsClean g new.conn → (terminals : List Terminal) (room : Room)
      → IsRoom g old terminals room → IsRoom g new terminals room
