-- What acting on an event makes of the tables.
use Rattle.std.specs.Prelude.{◌≡◌}
use Rattle.sqlite_trees.specs.Tree.{Trees}
use Rattle.room_place.specs.Plans.{Layout}
use Rattle.room_types.specs.declared.asks.Event.{Event}
use Rattle.room_model.specs.Room.{Room}
use Rattle.room_model.specs.Step.{IsAddressed}
use Rattle.room_model.specs.RoomAgreements.{IsWellFormed}
use Rattle.room_tables.specs.RoomsInTables.{Configuration, Stands}
use Rattle.room_store_cache.specs.Cache.{IsCacheOf}
use Rattle.room_store_cache.specs.declared.cache.Cache.{Cache}

-- The tables stand for this well-formed room of the plan, what is known of it is so, and the event
-- is addressed in it.
pub record IsFor (trees : Trees) (layout : Layout) (known : Cache) (event : Event)
    (config : Configuration)
    (room : Room) : Type 0 where
  pub stands : Stands trees config room
  pub formed : IsWellFormed room
  pub plan : room.plan ≡ layout.areas
  pub cache : IsCacheOf known room
  pub addressed : IsAddressed event room
