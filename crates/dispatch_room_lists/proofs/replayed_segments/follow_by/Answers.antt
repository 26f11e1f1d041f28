use Rattle.std.proofs.Common.{refl}
use Rattle.room_tables.proofs.ReadFailures.{holds_on}
use Rattle.dispatch_room_lists.proofs.LegLemmas.{due_by, end_by}
use Rattle.dispatch_room_lists.proofs.replayed_segments.follow_by.Goals as goal

pub returns-in-Ok-clause-by : goal.returns-in-Ok-clause-by
returns-in-Ok-clause-by g c =
    rw c.in-Room.is
    (due_by _ _ _ c.args.rows.now _ (λ none. cc (rw none at c.if-is_empty.ensures))
    (rw c.in-Ok.is at c.in_ok-done-in-Room.ensures.followed))

pub returns-in-Err-clause-fault : goal.returns-in-Err-clause-fault
returns-in-Err-clause-fault g c = (_, c.in-Room.is, rw c.in-Err.is at c.in_ok-done-in-Room.ensures.fault)

pub returns-in_err-done-in-Room-clause-lost : goal.returns-in_err-done-in-Room-clause-lost
returns-in_err-done-in-Room-clause-lost g c =
    holds_on c.from_residual.result _ _ c.from_residual.ensures.1
    (_, c.in-Room.is, c.in_err-done-in-Room.ensures.lost)

pub returns-in-End-clause-by : goal.returns-in-End-clause-by
returns-in-End-clause-by g c =
    rw c.in-End.is (end_by g.S.Store c.args.stage.room c.args.stage.room c.args.rows.now refl)
