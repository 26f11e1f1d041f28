-- What a request reads beside the fleet.
use Rattle.std.specs.Prelude.{ℕ, ◌≡◌}
use Rattle.room_types.specs.declared.asks.Ask.{Ask}
use Rattle.room_model.specs.Room.{Room}
use Rattle.room_model.specs.WorkingRows.{working}
use Rattle.room_store_cache.specs.declared.history_rows.HistoryRows.{HistoryRows}

-- beside the fleet's, the rows are those that a request of a division reads of the room at a moment
pub record AreHistoryRows (d : ℕ) (a : Ask) (at : ℕ) (room : Room) (x : HistoryRows) : Type 0 where
  pub incidents : x.incidents ≡ (working d a at room).incidents
  pub calls : x.calls ≡ (working d a at room).calls
  pub turns : x.turns ≡ (working d a at room).turns
  pub reports : x.reports ≡ (working d a at room).reports
