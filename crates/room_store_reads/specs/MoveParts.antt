-- What moves read of a room.
use Rattle.std.specs.Prelude.{None, Some, filter, true, ℕ, ◌&&◌, ◌==◌, ◌≡◌}
use Rattle.room_types.specs.Codes.{is_mobilised}
use Rattle.room_types.specs.KeyedRows.{listed}
use Rattle.room_types.specs.declared.asks.Move.{Move}
use Rattle.room_types.specs.declared.tables.Vehicle.{Vehicle}
use Rattle.room_model.specs.Queries.{held, incident_of}
use Rattle.room_model.specs.Room.{Room}
use Rattle.room_model.specs.WorkingRows.{is_last_turn}
use Rattle.room_store_cache.specs.Cache.{HasFleetOf, IsCacheOf}
use Rattle.room_store_cache.specs.declared.cache.Cache.{Cache}
use Rattle.room_store_reads.specs.declared.move_rows.Beside.{Beside}

-- the fleet is known, and all that is known is so in the room
pub record IsFilled (known : Cache) (room : Room) : Type 0 where
  pub fleet : HasFleetOf known.fleet room
  pub all : IsCacheOf known room

-- the division's incident of the number, if there is one, and its turns
pub record HasIncident (d n : ℕ) (room : Room) (x : Beside) : Type 0 where
  pub incidents : x.incidents ≡ listed (incident_of d n room)
  pub turns : x.turns ≡ filter (λ t. t.incident == n && t.division == d) room.turns

-- the incident that a move names, or the turn of a vehicle's last order that is on its way
pub record HasBeside (d : ℕ) (m : Move) (room : Room) (x : Beside) : Type 0 where
  pub incident : (n : ℕ) → m.incident ≡ Some n → HasIncident d n room x
  pub turn : (v : Vehicle) → m.incident ≡ None → held d m.callsign room ≡ Some v
      → is_mobilised v.status ≡ true
      → x.turns ≡ filter (λ t. t.division == d && is_last_turn (Some v) t) room.turns
