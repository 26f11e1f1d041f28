use Rattle.std.proofs.Common.{◌≡◌, None, refl, sym}
use Rattle.sqlite.specs.Given.{row_if}
use Rattle.room_tables_schema.proofs.Streams.{begins, ends, fails}
use Rattle.room_tables_schema.proofs.query_streams.read_out.Goals as goal

pub shown-init : goal.shown-init
shown-init g c = record { reads = begins (g.met.T.RowSink.begins c.args.taker.now); same_reference = refl }

pub returns-in_err-advance-clause-read : goal.returns-in_err-advance-clause-read
returns-in_err-advance-clause-read g c =
    fails c.advance.new.self.conn.now c.shown.invariant.reads c.advance.ensures.survives c.advance.ensures.mode _
    c.from_residual.result c.from_residual.ensures.1 c.in_err-advance.ensures.err c.in_err-advance.ensures.kept

pub returns-in_default-clause-read : goal.returns-in_default-clause-read
returns-in_default-clause-read g c =
    let past : row_if c.advance.new.self.has_row c.advance.new.self.conn.now
    ≡ None = rw c.in_default.is at (sym c.get.ensures) in
    ends c.advance.new.self.conn.now c.shown.invariant.reads c.advance.ensures.survives c.advance.ensures.mode
    (λ clean. rw past at (c.in_ok-advance.ensures.ok clean))
