use Rattle.std.proofs.Common.{Bool, take, ◌≡◌, ◌||◌}
use Rattle.std.specs.Prelude.{filter}
use Rattle.sqlite.specs.Held.{state}
use Rattle.room_model.specs.Room.{Room}
use Rattle.room_tables.specs.RoomsInTables.{Configuration, Stands}
use Rattle.room_tables_schema.proofs.ReadLaws.{Looked}
use Rattle.room_types.specs.KeyedRows.{IsKeyed}
use Rattle.room_store_reads.specs.Partitions.{AreKnown, any}
use Rattle.room_tables_schema.specs.FileConnections.{IsClean}
use Rattle.room_store_reads.proofs.partitions.load_parts.Given as goal

abbrev pub invariant-loop-part : goal.invariant-loop-part
invariant-loop-part g l =
    let table = g.R.Table.rows in
    let seen = take l.part-index l.parts in
    record {
      looked : Looked g.S.Store l.fn.conn l.conn;
      rows : IsClean g.S.Store l.conn → (config : Configuration) (room : Room)
          → Stands (state g.S.Store l.fn.conn).now.trees config room
          → (first : g.row.R.Denot → Bool) → AreKnown l.known room → IsKeyed g.R.Key.Ord.cmp g.R.Row.key_of (table room)
          → l.fn.rows ≡ filter first (table room)
          → l.rows ≡ filter (λ x. first x || any (λ p. g.R.Partition.is_in l.division p x) seen) (table room);
    }
