-- What the enrolment of a fleet row makes of the tables.
use Rattle.std.specs.Prelude.{IsTrue, ◌≡◌}
use Rattle.sqlite.specs.State.{State}
use Rattle.sqlite_trees.specs.Tree.{Trees}
use Rattle.room_types.specs.declared.fleet.FleetRow.{FleetRow}
use Rattle.room_types.specs.declared.fleet.RowFate.{RowFate}
use Rattle.room_model.specs.FleetRows.{room_by, terminals_by}
use Rattle.room_model.specs.Room.{Room}
use Rattle.room_tables_schema.specs.Schema.{room_schema}
use Rattle.room_tables.specs.RoomsInTables.{Configuration, Stands}
use Rattle.room_store_writes.specs.Transactions.{IsSettled}

-- the configuration after a row of this fate
abbrev pub config_by : RowFate → FleetRow → Configuration → Configuration
config_by fate row config = record config { terminals = terminals_by fate row config.terminals }

-- The tables stand for the configuration and the room as they are after a row of this fate.
abbrev pub StandsAfter : RowFate → FleetRow → Configuration → Room → Trees → Type 0
StandsAfter fate row config room trees =
    Stands trees (config_by fate row config) (room_by fate row room)

-- From the tables of certain configurations and rooms came those after the row's fate there, and
-- this is committed.
pub record Enrols (old new : State) (row : FleetRow) (IsOld : Configuration → Room → Type 0)
    (fate_at : Configuration → Room → RowFate) : Type 0 where
  pub was_open : IsTrue old.is_open
  pub settled : IsSettled new
  pub schema : new.now.schema ≡ room_schema
  pub stands : (config : Configuration) (room : Room) → IsOld config room
      → StandsAfter (fate_at config room) row config room new.now.trees
