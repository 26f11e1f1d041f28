use Rattle.std.proofs.Common.{◌≡◌}
use Rattle.room_tables_schema.proofs.Streams.{Reads}
use Rattle.room_tables_schema.proofs.query_streams.read_out.Given as goal

abbrev pub invariant-shown : goal.invariant-shown
invariant-shown g l = record {
  reads : Reads g.S.Store (λ rows. g.T.RowSink.takes l.fn.taker rows l.taker) l.fn.shown.conn.now l.shown.conn.now;
  same_reference : l.shown.conn.ghost_name ≡ l.fn.shown.conn.ghost_name;
}
