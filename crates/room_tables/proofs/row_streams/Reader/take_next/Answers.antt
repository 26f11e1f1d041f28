use Rattle.std.proofs.Common.{◌∙◌, subst}
use Rattle.room_types.specs.KeyedRows.{IsKeyed}
use Rattle.room_types.proofs.KeyedLaws.{keyed_put}
use Rattle.room_tables.proofs.Streams.{by_result, taken_next}
use Rattle.room_tables.proofs.row_streams.Reader.take_next.Goals as goal

pub returns : goal.returns
returns g c first shown (rows, are, keyed, last, taken) =
    let order = g.T.Row.Key.Ord.cmp in
    let key = g.T.Row.Row.key_of in
    let total = g.met.T.Row.Key.Ord.total in
    let row = c.in-Some.row in
    let put = c.is_next.ensures.next rows keyed (c.as_ref.ensures.value ∙ last) c.if-not-is_next.false in
    let next = subst (IsKeyed order key) put (keyed_put order key total rows row keyed) in
    by_result g.T.Row.Stored.is_row order key g.T.Row.Stored.cells g.T.TypedRowSink.takes first c.take.new.self _ _ _
    c.take.result c.take.ensures.taken
    (λ takes.
    taken_next g.T.Row.Stored.is_row order key g.T.Row.Stored.cells g.T.TypedRowSink.takes total first c.take.new.self
    shown c.args.columns.now row rows are c.in-Some.ensures.row keyed put (takes first rows next taken))
    c.take.ensures.memory
