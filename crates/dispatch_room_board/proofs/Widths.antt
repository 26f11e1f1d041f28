-- No row is wider than its columns.
use Rattle.std.proofs.Common.{◌≡◌, ℕ, ◌+◌, ◌-◌, ◌≤◌, List, [], ◌∷◌, length, take, replicate}
use Rattle.std.proofs.Common.{length-append, length-take, arith}
use Rattle.std.proofs.lemmas.List.{length-replicate}
use Rattle.dispatch_room_board.specs.declared.cell_layout.Column.{Column}
use Rattle.dispatch_room_board.specs.declared.cell_layout.Column.TheVariants.{Left, Right}
use Rattle.dispatch_room_board.specs.CellLayout.{filled, in_column, places_of, row_of, width_of}

length-filled : (column : Column) (shown : List ℕ)
    → length (filled column shown) ≡ places_of column - length shown + length shown
length-filled (Left n) shown =
    omega (arith, length-append shown (replicate (n - length shown) 32), length-replicate {A = ℕ} (n - length shown) 32)
length-filled (Right n) shown =
    omega (arith, length-append (replicate (n - length shown) 32) shown, length-replicate {A = ℕ} (n - length shown) 32)

length-in_column : (column : Column) (text : List ℕ)
    → length (in_column column text) ≡ 1 + places_of column
unfolding in_column
length-in_column column text =
    omega (arith, length-filled column (take (places_of column) text), length-take (places_of column) text)

pub row_fits : (columns : List Column) (texts : List (List ℕ))
    → length (row_of columns texts) ≤ width_of columns
row_fits [] texts = omega arith
row_fits (column ∷ columns) [] = omega arith
row_fits (column ∷ columns) (text ∷ texts) =
    omega (
      arith,
      length-append (in_column column text) (row_of columns texts),
      length-in_column column text,
      row_fits columns texts,
    )
