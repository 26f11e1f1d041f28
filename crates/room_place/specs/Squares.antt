-- The four squares of 100 km that references are read in, as ranges of metres.
use Rattle.std.specs.Prelude.{Bool, nat_le, ℕ, ◌&&◌}

-- the outer edges of the squares, all within them
abbrev pub west_edge : ℕ
west_edge = 400000

abbrev pub east_edge : ℕ
east_edge = 599999

abbrev pub south_edge : ℕ
south_edge = 100000

abbrev pub north_edge : ℕ
north_edge = 299999

-- whether a point lies in the squares
abbrev pub is_in_squares : ℕ → ℕ → Bool
is_in_squares east north = nat_le west_edge east
    && (nat_le east east_edge && (nat_le south_edge north && nat_le north north_edge))
