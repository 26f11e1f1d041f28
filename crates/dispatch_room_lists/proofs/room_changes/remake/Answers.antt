use Rattle.std.proofs.Common.{inl, inr}
use Rattle.room_tables.proofs.ReadFailures.{holds_on}
use Rattle.dispatch_room_lists.proofs.room_changes.remake.Goals as goal

pub returns-in_err-done-clause-fault : goal.returns-in_err-done-clause-fault
returns-in_err-done-clause-fault g c =
    holds_on c.from_residual.result _ _ c.from_residual.ensures.1
    (inl (rw c.close.ensures at c.in_err-done.ensures.fault))

pub returns-in_err-room-clause-fault : goal.returns-in_err-room-clause-fault
returns-in_err-room-clause-fault g c =
    holds_on c.from_residual-in_err-room.result _ _ c.from_residual-in_err-room.ensures.1
    (inr (
      c.in_ok-done.conn,
      c.in_ok-done.done,
      rw c.close.ensures at c.in_ok-done.ensures.made,
      c.in_err-room.ensures.fault,
    ))

pub returns-clause-made : goal.returns-clause-made
returns-clause-made g c = record {
  changed = c.in_ok-done.conn;
  made = rw c.close.ensures at c.in_ok-done.ensures.made;
  opens = c.in_ok-room.ensures.room;
  clean = λ clean. (rw c.close.ensures at c.in_ok-done.ensures.trusted) (c.in_ok-room.ensures.trusted clean);
}
