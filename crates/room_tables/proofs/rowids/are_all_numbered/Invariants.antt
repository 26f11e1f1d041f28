use Rattle.std.proofs.Common.{◌≡◌, drop, map}
use Rattle.sqlite.specs.Held.{state}
use Rattle.sqlite.specs.State.{HasCleanDisk, Survives}
use Rattle.room_tables.proofs.Repeats.{Stays}
use Rattle.room_tables.proofs.RowidLemmas.{Left}
use Rattle.room_tables.proofs.rowids.are_all_numbered.Given as goal

abbrev pub invariant-loop-text : goal.invariant-loop-text
invariant-loop-text g l =
    let old = state g.S.Store l.fn.tx.conn.now in
    let now = state g.S.Store l.tx.conn.now in
    record {
      survives : Survives old now (λ _. ⊥);
      stays : HasCleanDisk now → Stays (state g.S.Store) l.fn.tx.conn.now l.text-index l.tx.conn.now;
      same_reference : l.tx.conn.ghost_name ≡ l.fn.tx.conn.ghost_name;
      left : HasCleanDisk now → Left old.now.trees (map (λ text. text.now) (drop l.text-index l.texts));
    }
