-- The incidents that are found are those of what a search reads.
use Rattle.std.proofs.Common.{ap, ◌∙◌}
use Rattle.std.specs.List.{list_any}
use Rattle.std.specs.Prelude.{filter, nat_le, refl, true, ℕ, ℤ, ◌==◌, ◌≡◌}
use Rattle.room_place.specs.Places.{distance}
use Rattle.room_types.specs.declared.asks.Sought.{Sought}
use Rattle.room_types.specs.declared.asks.Sought.TheVariants.{All, Near, Sent}
use Rattle.room_types.specs.Texts.{Callsign}
use Rattle.room_model.specs.ClosedIncidents.{incidents_found}
use Rattle.room_model.specs.Queries.{incidents_over, turns_by}
use Rattle.room_model.specs.Room.{Room}

pub found_alike : (d : ℕ) (s r : Room) (from to : ℤ) (x : Sought)
    → incidents_over d from to s ≡ incidents_over d from to r
    → ((c : Callsign) → x ≡ Sent c → turns_by d c s ≡ turns_by d c r)
    → incidents_found d from to x s ≡ incidents_found d from to x r
unfolding incidents_found
found_alike d s r from to All over turns = ap (filter (λ i. true)) over
found_alike d s r from to (Near p m) over turns =
    ap (filter (λ i. nat_le (distance i.place p) m)) over
found_alike d s r from to (Sent c) over turns =
    ap (λ ts. filter (λ i. list_any (λ t. t.incident == i.number) ts) (incidents_over d from to s)) (turns c refl)
    ∙ ap (filter (λ i. list_any (λ t. t.incident == i.number) (turns_by d c r))) over
