use Rattle.std.proofs.Common.{arith}
use Rattle.sqlite.specs.Held.{state}
use Rattle.sqlite.specs.State.{HasCleanDisk}
use Rattle.room_tables_schema.proofs.Openings.{rowids_shown}
use Rattle.room_tables_schema.specs.Schema.{room_schema}
use Rattle.room_tables.proofs.RowidLemmas.{rise_is}
use Rattle.room_tables.proofs.rowids.is_numbered_streamed.Goals as goal

pub returns-clause-numbered : goal.returns-clause-numbered
returns-clause-numbered g c clean tree selects =
    let old = state g.S.Store c.args.conn.now in
    let new = state g.S.Store c.stream.new.conn in
    let early : HasCleanDisk old = omega (arith, c.in_ok-stream.ensures.reads.survives.clean) in
    let stated = c.in_ok-stream.ensures.shown clean in
    let numbered = rowids_shown room_schema c.args.text.now old new tree _ _ selects (c.requires.room early) stated.1 in
    let rise = rise_is stated.0 c.stream.new.taker.rise c.stream.new.taker.last
    (stated.2 c.new-rowids.ensures.rise c.new-rowids.ensures.none) in
    (λ yes. numbered.0 (rise.0 yes), λ is. rise.1 (numbered.1 is))
