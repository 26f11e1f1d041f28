-- A vehicle that was found, and the turn of its last order.
use Rattle.std.proofs.Common.{Option, Some, ap, is_none, sym, ℕ, ◌∙◌, ◌≡◌}
use Rattle.room_types.specs.KeyedRows.{keep, row_at}
use Rattle.room_types.specs.Keys.{callsign_cmp, numbered_cmp, turn_key, vehicle_key}
use Rattle.room_types.specs.KeyLemmas.{callsigns_total, exact_callsigns}
use Rattle.room_types.specs.Texts.{Callsign}
use Rattle.room_types.specs.declared.tables.Turn.{Turn}
use Rattle.room_types.specs.declared.tables.Vehicle.{Vehicle}
use Rattle.room_model.proofs.Tests.{row_key}
use Rattle.room_model.specs.Room.{Room}
use Rattle.room_store_reads.specs.CrewParts.{HasVehicle}

-- a row that was found at a key is the vehicle's of that callsign
pub found_here : (c : Callsign) (v : Vehicle) (room : Room)
    → row_at callsign_cmp vehicle_key room.vehicles c ≡ Some v
    → (v.callsign ≡ c) × HasVehicle v room
found_here c v room there =
    let same : v.callsign
    ≡ c = sym (row_key callsign_cmp vehicle_key callsigns_total exact_callsigns room.vehicles c v there) in
    (same, rw (sym same) at there)

pub turn_of_order : (c : Callsign) (room : Room) {n m : ℕ} {found : Option Turn} → n ≡ m
    → found ≡ row_at numbered_cmp turn_key room.turns (c, n)
    → keep (λ t. is_none t.ended) (row_at numbered_cmp turn_key room.turns (c, m))
    ≡ keep (λ t. is_none t.ended) found
turn_of_order c room e f =
    ap (keep (λ t. is_none t.ended)) (ap (λ k. row_at numbered_cmp turn_key room.turns (c, k)) (sym e) ∙ sym f)
