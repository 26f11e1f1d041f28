use Rattle.std.proofs.Common.{◌≡◌, drop, false, map}
use Rattle.sqlite.specs.Held.{state}
use Rattle.sqlite.specs.State.{HasCleanDisk, Survives}
use Rattle.room_tables.proofs.Repeats.{Stays}
use Rattle.room_tables.proofs.RowidLemmas.{Left}
use Rattle.room_tables.proofs.rowids.are_all_numbered_streamed.Given as goal

abbrev pub invariant-loop-text : goal.invariant-loop-text
invariant-loop-text g l =
    let old = state g.S.Store l.fn.conn in
    let now = state g.S.Store l.conn in
    record {
      survives : Survives old now (λ _. ⊥);
      stays : HasCleanDisk now → Stays (state g.S.Store) l.fn.conn l.text-index l.conn;
      mode : l.fn.conn.in_transaction ≡ false → l.conn.in_transaction ≡ false;
      left : HasCleanDisk now → Left old.now.trees (map (λ text. text.now) (drop l.text-index l.texts));
    }
