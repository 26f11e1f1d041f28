use Rattle.std.proofs.Common.{subst, sym, ◌∙◌}
use Rattle.room_tables.specs.RowStreams.{AreTaken}
use Rattle.room_tables.proofs.Streams.{stays_failed, well}
use Rattle.room_tables.proofs.row_streams.ReaderRowSink.take.Goals as goal

pub returns-then-is_ok : goal.returns-then-is_ok
returns-then-is_ok g c first rows so_far none done =
    let now = c.args.self.now in
    let Taken = AreTaken g.T.Row.Stored.is_row g.T.Row.Key.Ord.cmp g.T.Row.Row.key_of g.T.Row.Stored.cells
    g.T.TypedRowSink.takes in
    c.take_next-self.ensures first.taker rows (subst (Taken first.taker rows now.taker now.last)
    (well now.taken (sym c.is_ok.ensures.value ∙ c.if-is_ok.true)) (so_far none done))

pub returns-else-is_ok : goal.returns-else-is_ok
returns-else-is_ok g c first rows so_far none done =
    let now = c.args.self.now in
    stays_failed g.T.Row.Stored.is_row g.T.Row.Key.Ord.cmp g.T.Row.Row.key_of g.T.Row.Stored.cells
    g.T.TypedRowSink.takes first.taker now.taker rows c.args.columns.now now.last now.taken
    (sym c.is_ok.ensures.value ∙ c.if-is_ok.false) (so_far none done)
