use Rattle.std.proofs.Common.{◌≡◌, [], take}
use Rattle.room_tables.specs.RowStreams.{AreTaken}
use Rattle.room_tables.proofs.loaded_rows.rows_of.Given as goal

abbrev pub invariant-loop-columns : goal.invariant-loop-columns
invariant-loop-columns g l =
    AreTaken g.X.Stored.is_row g.X.Key.Ord.cmp g.X.Row.key_of g.X.Stored.cells
    (λ first rows now. first ≡ [] → now ≡ rows) [] (take l.columns-index l.shown) l.reader.taker l.reader.last
    l.reader.taken
