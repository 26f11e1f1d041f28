-- The statement chooses the terminals of a user.
use Rattle.std.proofs.lemmas.Result.{on_ok_weaker}
use Rattle.room_store_writes.proofs.DropLaws.{drops_crew, drops_desk, drops_position}
use Rattle.room_store_writes.proofs.dropped_terminals.drop_of.Goals as goal

pub returns-in-Desk-clause-ok : goal.returns-in-Desk-clause-ok
returns-in-Desk-clause-ok g c clean =
    rw c.in-Desk.is (on_ok_weaker c.drop_where.result
    (λ made. made _ (rw c.store.ensures (drops_desk c.in-Desk.division))) (c.drop_where.ensures.ok clean))

pub returns-in-Position-clause-ok : goal.returns-in-Position-clause-ok
returns-in-Position-clause-ok g c clean =
    rw c.in-Position.is (on_ok_weaker c.drop_where-in-Position.result
    (λ made. made _ (rw c.store-in-Position.ensures (drops_position c.in-Position.position)))
    (c.drop_where-in-Position.ensures.ok clean))

pub returns-in-Crew-clause-ok : goal.returns-in-Crew-clause-ok
returns-in-Crew-clause-ok g c clean =
    rw c.in-Crew.is (on_ok_weaker c.drop_where-in-Crew.result
    (λ made. made _ (rw c.store-in-Crew.ensures (drops_crew c.in-Crew.callsign)))
    (c.drop_where-in-Crew.ensures.ok clean))
