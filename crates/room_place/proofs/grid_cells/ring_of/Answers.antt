use Rattle.std.proofs.Common.{◌≡◌, ◌≤◌, subst, sym, ℕ}
use Rattle.room_place.specs.Places.{cell_of, distance, ring_floor, ring_of}
use Rattle.room_place.proofs.CellLaws.{ring_floor-le}
use Rattle.room_place.proofs.grid_cells.ring_of.Goals as goal

pub returns-clause-floor : goal.returns-clause-floor
returns-clause-floor c a b a_inside b_inside one other =
    let value : c.from.result ≡ ring_of (cell_of a) (cell_of b) = cc in
    subst (λ (k : ℕ). ring_floor k ≤ distance a b) (sym value) (ring_floor-le a b a_inside b_inside)
