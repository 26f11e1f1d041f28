-- A vehicle that was found in the room, and what the room has of it.
use Rattle.std.specs.Prelude.{Option, Some, is_none, ◌≡◌}
use Rattle.room_types.specs.KeyedRows.{keep, row_at}
use Rattle.room_types.specs.Keys.{callsign_cmp, numbered_cmp, turn_key, vehicle_key}
use Rattle.room_types.specs.declared.tables.Turn.{Turn}
use Rattle.room_types.specs.declared.tables.Vehicle.{Vehicle}
use Rattle.room_model.specs.Room.{Room}

-- the room has just this row of the vehicle
abbrev pub HasVehicle : Vehicle → Room → Type 0
HasVehicle v room = row_at callsign_cmp vehicle_key room.vehicles v.callsign ≡ Some v

-- the turn of the vehicle's last order, where it is not ended
abbrev pub last_open_turn : Vehicle → Room → Option Turn
last_open_turn v room =
    keep (λ t. is_none t.ended)
    (row_at numbered_cmp turn_key room.turns (v.callsign, v.last_order))
