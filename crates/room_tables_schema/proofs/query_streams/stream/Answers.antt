use Rattle.std.proofs.Common.{rules}
use Rattle.sqlite.specs.Values.{bound}
use Rattle.room_tables_schema.proofs.ReadLaws.{fails}
use Rattle.room_tables_schema.proofs.Streams.{because, leaves, shows, unbegun}
use Rattle.room_tables_schema.proofs.query_streams.stream.Goals as goal

pub returns-in_err-shown-clause-reads : goal.returns-in_err-shown-clause-reads
returns-in_err-shown-clause-reads g c =
    let refused = rw c.in_err-shown.was at c.query.follows.holds-at-none in
    fails c.from_residual.ensures.0 (unbegun g.S.Store c.args.text.now (bound c.args.params.now) c.args.conn.now
    c.requires c.query.follows.lender-at-none c.in_err-shown.field-0.0 refused)

pub returns-clause-reads : goal.returns-clause-reads
returns-clause-reads g c =
    let begun = c.in_ok-shown.ensures in
    let all = leaves g.S.Store c.args.text.now (bound c.args.params.now) c.args.conn.now c.requires begun.begun
    begun.survives c.read_out.ensures.read begun.mode in
    search rules

pub returns-clause-shown : goal.returns-clause-shown
returns-clause-shown g c =
    let begun = c.in_ok-shown.ensures in
    let all = shows g.S.Store c.args.text.now (bound c.args.params.now) c.args.conn.now c.requires begun.begun
    begun.survives c.read_out.ensures.read in
    search rules

pub returns-clause-why : goal.returns-clause-why
returns-clause-why g c =
    let begun = c.in_ok-shown.ensures in
    let all = because g.S.Store c.args.text.now (bound c.args.params.now) c.args.conn.now c.requires begun.begun
    begun.survives c.read_out.ensures.read in
    search rules
