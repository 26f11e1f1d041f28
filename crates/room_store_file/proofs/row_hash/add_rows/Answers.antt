use Rattle.std.proofs.Common.{ap, drop, sym, ◌++◌, ◌+◌, ◌∙◌}
use Rattle.std.proofs.lemmas.List.{at_drop_more}
use Rattle.std.specs.List.{flat_map}
use Rattle.room_store_file.specs.DigestTexts.{row_text}
use Rattle.room_store_file.proofs.Added.{less_left}
use Rattle.room_store_file.proofs.row_hash.add_rows.Goals as goal

pub loop-row-preserved : goal.loop-row-preserved
loop-row-preserved c =
    let more = at_drop_more (flat_map row_text) c.args.rows.now c.loop-row.row-index c.row-item.result
    c.loop-row-test.true in
    less_left
    (more
    ∙ ap (λ r. row_text r ++ flat_map row_text (drop (c.loop-row.row-index + 1) c.args.rows.now)) (sym c.row-item.is))
    c.loop-row.invariant c.add_row.ensures
