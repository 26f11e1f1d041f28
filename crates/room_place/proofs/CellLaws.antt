-- A place is no nearer than the floor of its ring.
use Rattle.std.proofs.Common.{◌≡◌, ℕ, zero, suc, ◌+◌, ◌*◌, ◌/◌, ◌≤◌, max, inl, inr, refl, sym}
use Rattle.std.proofs.Common.{arith}
use Rattle.std.proofs.Math.Nat.{mul-le-mul, max-eq_left, max-eq_right}
use Rattle.std.proofs.lemmas.Bool.{cases_lt}
use Rattle.std.specs.Int.{abs_diff}
use Rattle.room_place.specs.Places.{IsInSquares, IsRoot, cell_of, distance, ring_floor, ring_of}
use Rattle.room_place.specs.Places.{square_between}
use Rattle.room_place.specs.declared.places.Place.{Place}
use Rattle.room_place.proofs.PlaceLaws.{distance_is_root}

-- k cells apart is more than k - 1 kilometres
apart : (a b k : ℕ) → abs_diff (a / 1000) (b / 1000) ≡ k → ring_floor k ≤ abs_diff a b
apart a b zero h = omega arith
apart a b (suc k) h = omega (arith, h)

-- what is at most one side of a way is at most its root
below_root : (n m f x y : ℕ) → IsRoot n m → n ≡ x * x + y * y → f ≤ x → f ≤ m
below_root n m f x y h e g = (elim (cases_lt m f) [
  | inl past ↦
      absurd (let s : (m + 1) * (m + 1) ≤ x * x = mul-le-mul (omega arith) (omega arith) in omega (arith, s, e, h.1))
  | inr within ↦ within
])

-- no place is nearer than the floor of its cell's ring
pub ring_floor-le : (a b : Place) → IsInSquares a → IsInSquares b
    → ring_floor (ring_of (cell_of a) (cell_of b)) ≤ distance a b
ring_floor-le a b a_inside b_inside =
    let root = distance_is_root a b a_inside b_inside in
    let east = abs_diff (a.east / 1000) (b.east / 1000) in
    let north = abs_diff (a.north / 1000) (b.north / 1000) in
    let x = abs_diff a.east b.east in
    let y = abs_diff a.north b.north in
    (elim (cases_lt east north) [
      | inl less ↦
          below_root (square_between a b) (distance a b) (ring_floor (max east north)) y x root (omega arith)
          (apart a.north b.north (max east north) (sym (max-eq_right (omega arith))))
      | inr more ↦
          below_root (square_between a b) (distance a b) (ring_floor (max east north)) x y root refl
          (apart a.east b.east (max east north) (sym (max-eq_left more)))
    ])
