use Rattle.std.proofs.Common.{arith}
use Rattle.room_tables.proofs.RoomReads.{kept}
use Rattle.room_tables_schema.specs.FileConnections.{IsClean}
use Rattle.room_store_writes.proofs.terminal_changes.change_inside.Goals as goal

pub returns-clause-ok : goal.returns-clause-ok
returns-clause-ok g c clean =
    let early : IsClean g.S.Store c.find_fault.new.tx.conn.now = omega
    (arith, c.replace.ensures.commits.survives.clean) in
    let made = c.in_ok-replace.ensures.ok clean in (
      record { room = λ clean. made.schema; inside = λ clean. made.inside.mode },
      λ config room h. (
        c.in_ok-find_fault.ensures.ok early config room h,
        made.stands config room (kept _ _ (c.in_ok-find_fault.ensures.reads.ok early) config room h),
      ),
    )
