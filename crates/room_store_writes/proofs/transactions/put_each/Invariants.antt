use Rattle.std.proofs.Common.{drop, ◌≡◌}
use Rattle.sqlite.specs.Held.{state}
use Rattle.sqlite.specs.State.{HasCleanDisk}
use Rattle.room_tables_schema.specs.Outcomes.{CommitsNothing}
use Rattle.room_model.specs.Room.{Room, apply}
use Rattle.room_tables_schema.specs.FileConnections.{MayWrite}
use Rattle.room_tables.specs.RoomsInTables.{Configuration, Stands}
use Rattle.room_store_writes.proofs.CommitLaws.{StandsBefore}
use Rattle.room_store_writes.proofs.transactions.put_each.Given as goal

abbrev pub invariant-loop-change : goal.invariant-loop-change
invariant-loop-change g l =
    let old = state g.S.Store l.fn.tx.conn.now in
    let now = state g.S.Store l.tx.conn.now in
    record {
      same : l.tx.conn.ghost_name ≡ l.fn.tx.conn.ghost_name;
      commits : CommitsNothing g.S.Store l.fn.tx.conn.now l.tx.conn.now;
      may : MayWrite g.S.Store l.tx.conn.now;
      stands : HasCleanDisk now → (config : Configuration) (room : Room) → Stands old.now.trees config room
          → StandsBefore (drop l.change-index l.changes) config now.now.trees (apply room l.changes);
    }
