-- Places, the distances between them, and the cells that they lie in.
use Rattle.std.specs.Int.{abs_diff}
use Rattle.std.specs.Prelude.{Bool, cond, max, nat_le, suc, true, zero, ℕ, ◌&&◌, ◌*◌, ◌+◌, ◌/◌, ◌<◌}
use Rattle.std.specs.Prelude.{◌==◌, ◌^◌, ◌≡◌, ◌≤◌}
use Rattle.room_place.specs.Squares.{is_in_squares}
use Rattle.room_place.specs.declared.grid_cells.Cell.{Cell}
use Rattle.room_place.specs.declared.places.Place.{Place}

-- within the squares, as each place that the program makes is
abbrev pub IsInSquares : Place → Type 0
IsInSquares p = is_in_squares p.east p.north ≡ true

-- of equal coordinates
abbrev pub same_place : Place → Place → Bool
same_place a b = a.east == b.east && a.north == b.north

-- the greatest m with m * m at most n, where it is below m + 2 ^ k: bit by bit from the highest
abbrev pub root_from : ℕ → ℕ → ℕ → ℕ
root_from n zero m = m
root_from n (suc k) m = root_from n k (cond (nat_le ((m + 2 ^ k) * (m + 2 ^ k)) n) (m + 2 ^ k) m)

-- the whole root of a number below 2 ^ 40
abbrev pub root : ℕ → ℕ
root n = root_from n 20 0

-- m is the greatest number whose square is at most n
abbrev pub IsRoot : ℕ → ℕ → Type 0
IsRoot n m = (m * m ≤ n) × (n < (m + 1) * (m + 1))

-- the square of the way from one place to another
abbrev pub square_between : Place → Place → ℕ
square_between a b = abs_diff a.east b.east * abs_diff a.east b.east + abs_diff a.north b.north *
    abs_diff a.north b.north

-- whole metres, rounded down
unfoldable pub distance : Place → Place → ℕ
distance a b = root (square_between a b)

-- the square kilometre that a place lies in
abbrev pub cell_of : Place → Cell
cell_of p = record { x = p.east / 1000; y = p.north / 1000 }

-- how many rings of cells one cell lies away from another
abbrev pub ring_of : Cell → Cell → ℕ
ring_of a b = max (abs_diff a.x b.x) (abs_diff a.y b.y)

-- no place in the k-th ring round a place's cell is nearer to it than this
abbrev pub ring_floor : ℕ → ℕ
ring_floor zero = 0
ring_floor (suc k) = k * 1000 + 1
