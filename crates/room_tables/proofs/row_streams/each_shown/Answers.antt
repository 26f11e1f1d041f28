use Rattle.std.proofs.Common.{subst, sym}
use Rattle.sqlite.specs.Held.{state}
use Rattle.sqlite.specs.State.{Shown}
use Rattle.sqlite.specs.Values.{bound}
use Rattle.room_tables.specs.Failures.{AreNoRows, FailsToRead, IfStorage}
use Rattle.room_tables.specs.RowStreams.{AreShown}
use Rattle.room_tables.proofs.Streams.{all_of, fault_of_all}
use Rattle.room_tables.proofs.ReadFailures.{shown_fails}
use Rattle.room_tables.proofs.row_streams.each_shown.Goals as goal

pub returns-clause-taken : goal.returns-clause-taken
returns-clause-taken g c clean =
    let old = state g.S.Store c.args.conn.now in
    let new = state g.S.Store c.stream.new.conn in
    let stated = c.in_ok-stream.ensures.shown clean in
    let read = rw c.new-reader.ensures.taker at
    (c.end.ensures c.new-reader.result.taker stated.0 (stated.2 c.new-reader.ensures.none c.new-reader.ensures.well)) in
    let cells = g.T.Row.Stored.cells in
    let text = c.args.text.now in
    let params = bound c.args.params.now in
    all_of g.T.Row.Stored.is_row g.T.Row.Key.Ord.cmp g.T.Row.Row.key_of cells g.T.TypedRowSink.takes c.args.taker
    stated.0
    (AreShown g.T.Row.Key.Ord.cmp g.T.Row.Row.key_of cells text params old new) c.end.result read
    (λ rows are keyed. record { keyed = keyed; shown = subst (Shown text params old new) (sym are) stated.1 })

pub returns-clause-why : goal.returns-clause-why
returns-clause-why g c clean =
    let old = state g.S.Store c.args.conn.now in
    let new = state g.S.Store c.stream.new.conn in
    let stated = c.in_ok-stream.ensures.shown clean in
    let read = rw c.new-reader.ensures.taker at
    (c.end.ensures c.new-reader.result.taker stated.0 (stated.2 c.new-reader.ensures.none c.new-reader.ensures.well)) in
    let AreNone = AreNoRows g.T.Row.Stored.is_row g.T.Row.Key.Ord.cmp g.T.Row.Row.key_of g.T.Row.Stored.cells in
    let text = c.args.text.now in
    let params = bound c.args.params.now in
    fault_of_all g.T.Row.Stored.is_row g.T.Row.Key.Ord.cmp g.T.Row.Row.key_of g.T.Row.Stored.cells
    g.T.TypedRowSink.takes c.args.taker stated.0
    (IfStorage (FailsToRead text params old new AreNone)) c.end.result read
    (shown_fails text params old new AreNone stated.0 stated.1)
