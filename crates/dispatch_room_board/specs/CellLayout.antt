-- The columns of a table.
use Rattle.std.specs.Prelude.{ℕ, ◌+◌, ◌-◌, List, [], ◌∷◌, ◌++◌, length, take, replicate}
use Rattle.dispatch_room_board.specs.declared.cell_layout.Column.{Column}
use Rattle.dispatch_room_board.specs.declared.cell_layout.Column.TheVariants.{Left, Right}

-- how many places a column has
abbrev pub places_of : Column → ℕ
places_of (Left places) = places
places_of (Right places) = places

-- spaces for the places that a text leaves; 32 is a space
abbrev pub gap_of : ℕ → List ℕ → List ℕ
gap_of places shown = replicate (places - length shown) 32

-- a text on its side of a column
abbrev pub filled : Column → List ℕ → List ℕ
filled (Left places) shown = shown ++ gap_of places shown
filled (Right places) shown = gap_of places shown ++ shown

-- a space, and a text in its column, cut where it has not the places
unfoldable pub in_column : Column → List ℕ → List ℕ
in_column column text = 32 ∷ filled column (take (places_of column) text)

-- the texts of a row, each in its column
abbrev pub row_of : List Column → List (List ℕ) → List ℕ
row_of [] texts = []
row_of (column ∷ columns) [] = []
row_of (column ∷ columns) (text ∷ texts) = in_column column text ++ row_of columns texts

-- how many places a row takes
abbrev pub width_of : List Column → ℕ
width_of [] = 0
width_of (column ∷ columns) = 1 + places_of column + width_of columns
