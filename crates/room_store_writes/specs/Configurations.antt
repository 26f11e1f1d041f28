-- What the tables keep beside the room.
use Rattle.std.specs.Prelude.{List}
use Rattle.room_place.specs.Plans.{Layout}
use Rattle.room_types.specs.declared.fleet.Terminal.{Terminal}
use Rattle.room_tables.specs.RoomsInTables.{Configuration}

-- the configuration of these terminals in a plan
abbrev pub config_of : Layout → List Terminal → Configuration
config_of plan terminals = record { zone = plan.zone; terminals = terminals }
