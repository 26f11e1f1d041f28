use Rattle.std.proofs.Common.{arith, map, subst, ◌∙◌}
use Rattle.std.proofs.lemmas.List.{at_drop_more}
use Rattle.std.specs.List.{AllByRecursion, flat_map}
use Rattle.sqlite.specs.Held.{state}
use Rattle.sqlite.specs.State.{HasCleanDisk}
use Rattle.room_store_file.specs.WholeTableTexts.{IsKnown}
use Rattle.room_store_file.specs.DigestTexts.{table_text}
use Rattle.room_store_file.proofs.Tables.{Left, left_next, one_more, still_room, trees_stay}
use Rattle.room_tables_schema.specs.FileConnections.{IsClean}
use Rattle.room_store_file.proofs.room_digest.add_tables.Goals as goal

pub add_table-requires-clause-room : goal.add_table-requires-clause-room
add_table-requires-clause-room g c = still_room c.requires.room c.loop-text.invariant.so_far

pub add_table-requires-clause-known : goal.add_table-requires-clause-known
add_table-requires-clause-known g c =
    let known = subst (AllByRecursion IsKnown)
    (at_drop_more (map (λ text. text.now)) c.args.texts.now c.loop-text.text-index _ c.loop-text-test.true)
    c.loop-text.invariant.known in
    known.0

pub loop-text-preserved : goal.loop-text-preserved
loop-text-preserved g c =
    let old = state g.S.Store c.args.tx.now.conn.now in
    let before = c.loop-text.invariant in
    let early = λ (clean : IsClean g.S.Store c.add_table.new.tx.conn.now).
    let e : HasCleanDisk (state g.S.Store c.loop-text.tx.conn.now) = omega
    (arith, c.add_table.ensures.reads.survives.clean) in
    e in
    let here = at_drop_more (map (λ text. text.now)) c.args.texts.now c.loop-text.text-index _ c.loop-text-test.true in
    record {
      same = c.add_table.ensures.same_reference ∙ before.same;
      so_far = one_more before.so_far c.in_ok-add_table.ensures.reads;
      known = (subst (AllByRecursion IsKnown) here before.known).1;
      added = λ clean tables reads.
          left_next old.now.trees _ _ (subst
          (λ texts. Left texts old.now.trees c.args.hasher.now c.loop-text.hasher (flat_map table_text tables)) here
          (before.added (early clean) tables reads))
          (rw (trees_stay before.so_far (early clean)) at (c.in_ok-add_table.ensures.rows clean));
    }
