-- Places of equal coordinates are one; the distance of two is a root.
use Rattle.std.proofs.Common.{ap, arith, true, eq-eqb, ◌≡◌, ◌≤◌, ℕ}
use Rattle.std.proofs.lemmas.Bool.{and_from, and_parts, eqb-true, le-leb, leb-true}
use Rattle.std.specs.Int.{abs_diff}
use Rattle.std.proofs.Math.Nat.{mul-le-mul}
use Rattle.room_place.specs.Squares.{east_edge, is_in_squares, north_edge, south_edge, west_edge}
use Rattle.room_place.specs.Places.{IsInSquares, IsRoot, distance, same_place, square_between}
use Rattle.room_place.specs.declared.places.Place.{Place}
use Rattle.room_place.proofs.Roots.{root_is_root}

-- a point in the squares is within their outer edges
pub record IsWithinEdges (east north : ℕ) : Type 0 where
  pub from_west : west_edge ≤ east
  pub to_east : east ≤ east_edge
  pub from_south : south_edge ≤ north
  pub to_north : north ≤ north_edge

pub within_edges : (east north : ℕ) → is_in_squares east north ≡ true → IsWithinEdges east north
within_edges east north inside =
    let west = and_parts _ _ inside in
    let east = and_parts _ _ west.1 in
    let south = and_parts _ _ east.1 in
    record {
      from_west = leb-true _ _ west.0;
      to_east = leb-true _ _ east.0;
      from_south = leb-true _ _ south.0;
      to_north = leb-true _ _ south.1;
    }

pub same_place-true : (a b : Place) → same_place a b ≡ true → a ≡ b
same_place-true a b same =
    let parts = and_parts _ _ same in
    λ i. record { east = eqb-true a.east b.east parts.0 i; north = eqb-true a.north b.north parts.1 i }

pub same_place-same : (a b : Place) → a ≡ b → same_place a b ≡ true
same_place-same a b same =
    and_from _ _ (eq-eqb _ _ (ap (λ (p : Place). p.east) same)) (eq-eqb _ _ (ap (λ (p : Place). p.north) same))

-- the distance is the root of the square of the way
pub distance_is_root : (a b : Place) → IsInSquares a → IsInSquares b
    → IsRoot (square_between a b) (distance a b)
unfolding distance
distance_is_root a b a_inside b_inside =
    let here = within_edges a.east a.north a_inside in
    let there = within_edges b.east b.north b_inside in
    let east : abs_diff a.east b.east ≤ 199999 = omega arith in
    let north : abs_diff a.north b.north ≤ 199999 = omega arith in
    root_is_root (square_between a b) (omega (arith, mul-le-mul east east, mul-le-mul north north))

-- a place within the outer edges is in the squares
pub in_squares : (p : Place) → 400000 ≤ p.east → p.east ≤ 599999 → 100000 ≤ p.north
    → p.north ≤ 299999 → IsInSquares p
in_squares p from_west to_east from_south to_north =
    and_from _ _ (le-leb _ _ from_west)
    (and_from _ _ (le-leb _ _ to_east) (and_from _ _ (le-leb _ _ from_south) (le-leb _ _ to_north)))
