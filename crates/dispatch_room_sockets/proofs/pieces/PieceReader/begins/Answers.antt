use Rattle.dispatch_room_sockets.proofs.pieces.PieceReader.begins.Goals as goal

pub returns-clause-seen : goal.returns-clause-seen
returns-clause-seen g c = λ _ some.
    let kept = c.begins_with-2.ensures.kept in
    rw kept (c.next-ahead.ensures.seen (rw kept at some))

pub returns-clause-turn : goal.returns-clause-turn
returns-clause-turn g c = λ _ some.
    rw c.begins_with-2.ensures.same.2
    (c.next-ahead.ensures.turn (rw c.begins_with-2.ensures.kept at some))
