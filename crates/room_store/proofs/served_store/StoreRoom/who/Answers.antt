use Rattle.room_store.proofs.StoreLaws.{looked_kept, looked_left}
use Rattle.room_store_writes.proofs.CommitLaws.{ok_then}
use Rattle.room_store.proofs.served_store.StoreRoom.who.Goals as goal

pub returns-clause-kept : goal.returns-clause-kept
returns-clause-kept g c clean =
    ok_then c.who.result _ _
    (λ stays_open kept.
    looked_kept g.S.Store c.args.self.now c.who.new.self c.who.ensures.plan clean kept (c.who.ensures.leaves clean)
    c.who.ensures.survives (stays_open kept.is_open)) (c.who.ensures.stays_open clean)

pub returns-clause-left : goal.returns-clause-left
returns-clause-left g c clean kept terminals room is =
    looked_left g.S.Store c.args.self.now c.who.new.self c.who.ensures.plan clean kept terminals room is
    c.who.ensures.survives
