use Rattle.std.proofs.Common.{◌≡◌, IsTrue, drop, map}
use Rattle.sqlite.specs.State.{HasCleanDisk}
use Rattle.sqlite.specs.Held.{state}
use Rattle.room_tables_schema.specs.Outcomes.{CommitsNothing}
use Rattle.room_tables_schema.specs.Schema.{room_schema}
use Rattle.room_tables_schema.specs.Definitions.{Lead, Grows}
use Rattle.room_tables_schema.proofs.table_creation.define_all.Given as goal

abbrev pub invariant-loop-text : goal.invariant-loop-text
invariant-loop-text g l =
    let old = state g.S.Store l.fn.tx.conn.now in
    let now = state g.S.Store l.tx.conn.now in
    record {
      same_reference : l.tx.conn.ghost_name ≡ l.fn.tx.conn.ghost_name;
      inside : HasCleanDisk now → IsTrue now.in_transaction;
      commits : CommitsNothing g.S.Store l.fn.tx.conn.now l.tx.conn.now;
      lead : HasCleanDisk now → Lead now.now.schema (map (λ t. t.now) (drop l.text-index l.texts)) room_schema;
      rows : HasCleanDisk now → Grows old.now now.now;
    }
