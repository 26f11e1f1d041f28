use Rattle.std.proofs.Common.{arith}
use Rattle.sqlite.specs.Held.{state}
use Rattle.sqlite.specs.State.{HasCleanDisk}
use Rattle.room_tables_schema.proofs.Refusals.{plain_here}
use Rattle.room_tables_schema.proofs.Openings.{rowids_shown}
use Rattle.room_tables_schema.specs.Schema.{room_schema}
use Rattle.room_tables_schema.proofs.ReadLaws.{ends_inside, fails_inside}
use Rattle.room_tables.proofs.rowids.is_numbered.Goals as goal

pub select_inside-requires : goal.select_inside-requires
select_inside-requires g c clean =
    plain_here room_schema _ c.args.text.now (c.requires.room clean) (c.requires.selects clean).1.plain

pub returns-clause-numbered : goal.returns-clause-numbered
returns-clause-numbered g c clean tree selects =
    let old = state g.S.Store c.args.tx.now.conn.now in
    let new = state g.S.Store c.select_inside.new.tx.conn.now in
    let early : HasCleanDisk old = omega (arith, c.select_inside.ensures.reads.survives.clean) in
    let rise_is = rowids_shown room_schema c.args.text.now old new tree _ _ selects (c.requires.room early)
    (c.in_ok-shown.ensures.shown clean) in
    let rise = rw c.as_slice.ensures.value at c.rise.ensures in
    (λ yes. rise_is.0 (rise.0 yes), λ numbered. rise.1 (rise_is.1 numbered))

pub returns-clause-reads : goal.returns-clause-reads
returns-clause-reads g c = ends_inside _ c.in_ok-shown.ensures.reads

pub returns-in_err-shown-clause-reads : goal.returns-in_err-shown-clause-reads
returns-in_err-shown-clause-reads g c = fails_inside c.from_residual.ensures.0 c.in_err-shown.ensures.reads
