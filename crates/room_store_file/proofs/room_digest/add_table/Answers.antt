use Rattle.std.proofs.Common.{arith, subst, ◌∙◌}
use Rattle.sqlite.specs.Held.{state}
use Rattle.sqlite.specs.State.{HasCleanDisk}
use Rattle.room_store_file.specs.RowHash.{Adds}
use Rattle.room_store_file.specs.DigestTexts.{table_text}
use Rattle.room_store_file.proofs.Tables.{shown_is}
use Rattle.room_store_file.proofs.room_digest.add_table.Goals as goal

pub returns-clause-rows : goal.returns-clause-rows
returns-clause-rows g c clean rows reads =
    let old = state g.S.Store c.args.tx.now.conn.now in
    let new = state g.S.Store c.select_inside.new.tx.conn.now in
    let early : HasCleanDisk old = omega (arith, c.select_inside.ensures.reads.survives.clean) in
    let same = shown_is c.args.text.now old new _ rows (c.requires.room early) (c.in_ok-shown.ensures.shown clean)
    reads in
    subst (λ r. Adds c.args.hasher.now c.add_rows.new.hasher (table_text r)) (c.as_slice.ensures.value ∙ same)
    c.add_rows.ensures
