use Rattle.std.proofs.Common.{[], ◌-◌, ◌≡◌}
use Rattle.sqlite.specs.Held.{state}
use Rattle.sqlite.specs.State.{HasCleanDisk}
use Rattle.room_tables_schema.specs.Outcomes.{CommitsNothing}
use Rattle.room_place.specs.Plans.{has_division}
use Rattle.room_model.specs.Room.{Room}
use Rattle.room_tables_schema.specs.FileConnections.{MayWrite}
use Rattle.room_tables.specs.RoomsInTables.{Configuration, Stands}
use Rattle.room_store_writes.proofs.CreationSteps.{divisions_to}
use Rattle.room_store_writes.proofs.new_room.put_divisions.Given as goal

abbrev pub invariant-loop-number : goal.invariant-loop-number
invariant-loop-number g l =
    let old = state g.S.Store l.fn.tx.conn.now in
    let now = state g.S.Store l.tx.conn.now in
    record {
      same_reference : l.tx.conn.ghost_name ≡ l.fn.tx.conn.ghost_name;
      commits : CommitsNothing g.S.Store l.fn.tx.conn.now l.tx.conn.now;
      may : MayWrite g.S.Store l.tx.conn.now;
      stands : HasCleanDisk now → (config : Configuration) (room : Room) → Stands old.now.trees config room
          → room.divisions ≡ []
          → Stands now.now.trees config
          (record room { divisions = divisions_to (has_division l.plan.areas) 1 (l.number - 1) });
    }
