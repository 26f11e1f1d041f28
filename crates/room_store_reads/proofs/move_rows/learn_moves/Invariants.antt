use Rattle.std.proofs.Common.{◌≡◌}
use Rattle.sqlite.specs.Held.{state}
use Rattle.room_model.specs.Room.{Room}
use Rattle.room_model.specs.RoomAgreements.{IsWellFormed}
use Rattle.room_tables.specs.RoomsInTables.{Configuration, Stands}
use Rattle.room_tables_schema.proofs.ReadLaws.{Looked}
use Rattle.room_tables_schema.specs.FileConnections.{IsClean}
use Rattle.room_store_cache.specs.Cache.{IsCacheOf}
use Rattle.room_store_reads.specs.MoveParts.{IsFilled}
use Rattle.room_store_reads.proofs.move_rows.learn_moves.Given as goal

abbrev pub invariant-loop-other : goal.invariant-loop-other
invariant-loop-other g l = record {
  looked : Looked g.S.Store l.fn.conn l.conn;
  known : IsClean g.S.Store l.conn → (config : Configuration) (room : Room)
      → Stands (state g.S.Store l.fn.conn).now.trees config room
      → IsWellFormed room → IsCacheOf l.fn.known room → IsFilled l.known room;
}
