use Rattle.std.proofs.Common.{List, drop, map, ◌≡◌}
use Rattle.std.specs.List.{AllByRecursion, flat_map}
use Rattle.sqlite.specs.Held.{state}
use Rattle.sqlite_value.specs.Order.{Row}
use Rattle.room_store_file.specs.WholeTableTexts.{IsKnown, ReadEach}
use Rattle.room_store_file.specs.DigestTexts.{table_text}
use Rattle.room_store_file.proofs.Tables.{Left, SoFar}
use Rattle.room_tables_schema.specs.FileConnections.{IsClean}
use Rattle.room_store_file.proofs.room_digest.add_tables.Given as goal

abbrev pub invariant-loop-text : goal.invariant-loop-text
invariant-loop-text g l =
    let trees = (state g.S.Store l.fn.tx.conn.now).now.trees in
    record {
      same : l.tx.conn.ghost_name ≡ l.fn.tx.conn.ghost_name;
      so_far : SoFar g.S.Store l.fn.tx.conn.now l.text-index l.tx.conn.now;
      known : AllByRecursion IsKnown (map (λ text. text.now) (drop l.text-index l.texts));
      added : IsClean g.S.Store l.tx.conn.now → (tables : List (List Row))
          → ReadEach (map (λ text. text.now) l.texts) trees tables
          → Left (map (λ text. text.now) (drop l.text-index l.texts)) trees l.fn.hasher l.hasher
          (flat_map table_text tables);
    }
