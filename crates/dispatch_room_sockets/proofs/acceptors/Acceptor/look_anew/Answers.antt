use Rattle.dispatch_room_sockets.proofs.acceptors.Acceptor.look_anew.Goals as goal

pub returns-then-self-clause-seen : goal.returns-then-self-clause-seen
returns-then-self-clause-seen g c =
    rw (c.watch.ensures.same.0, c.watch.ensures.same.1, c.watch.ensures.same.2)
    (rw c.as_mut_slice-room.ensures.value at c.look_ahead-client.ensures.seen)

pub returns-then-not-may_grow-clause-seen : goal.returns-then-not-may_grow-clause-seen
returns-then-not-may_grow-clause-seen g c =
    rw c.as_mut_slice-room.ensures.value at c.look_ahead-client.ensures.seen
