use Rattle.std.proofs.Common.{ap, ◌∙◌}
use Rattle.room_types.specs.KeyedRows.{put_row}
use Rattle.room_tables.proofs.Streams.{put_end}
use Rattle.room_tables.proofs.row_streams.RowsTypedRowSink.take.Goals as goal

pub returns-in-Ok-clause-taken : goal.returns-in-Ok-clause-taken
returns-in-Ok-clause-taken g c first rows keyed so_far none =
    c.in-Ok.ensures.ok ∙ ap (λ before. put_row g.X.Key.Ord.cmp g.X.Row.key_of before c.args.row) (so_far none)
    ∙ put_end g.X.Key.Ord.cmp g.X.Row.key_of g.met.X.Key.Ord.total rows c.args.row keyed
