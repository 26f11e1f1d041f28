use Rattle.std.proofs.Common.{take, ◌≡◌}
use Rattle.sqlite.specs.Held.{state}
use Rattle.sqlite.specs.State.{HasCleanDisk}
use Rattle.room_tables_schema.specs.Outcomes.{CommitsNothing}
use Rattle.room_model.specs.Room.{Room}
use Rattle.room_tables_schema.specs.FileConnections.{MayWrite}
use Rattle.room_tables.specs.RoomsInTables.{Configuration, Stands}
use Rattle.room_store_writes.specs.NewRoom.{put_all}
use Rattle.dispatch_room_tasks.proofs.replaced_terminals.put_listed.Given as goal

abbrev pub invariant-loop-terminal : goal.invariant-loop-terminal
invariant-loop-terminal g l =
    let old = state g.S.Store l.fn.tx.conn.now in
    let now = state g.S.Store l.tx.conn.now in
    record {
      same_reference : l.tx.conn.ghost_name ≡ l.fn.tx.conn.ghost_name;
      commits : CommitsNothing g.S.Store l.fn.tx.conn.now l.tx.conn.now;
      may : MayWrite g.S.Store l.tx.conn.now;
      stands : HasCleanDisk now → (config : Configuration) (room : Room) → Stands old.now.trees config room
          → Stands now.now.trees
          (record config { terminals = put_all config.terminals (take l.terminal-index l.listed) }) room;
    }
