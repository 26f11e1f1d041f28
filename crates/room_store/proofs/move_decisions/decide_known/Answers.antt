use Rattle.room_store.proofs.Unavailable.{says, unsaid}
use Rattle.room_store.proofs.move_decisions.decide_known.Goals as goal

pub returns-in-Some : goal.returns-in-Some
returns-in-Some c =
    says c.decide_move.result _ (λ room formed is.
    (rw (c.in-Some.ensures.rows.0, c.in-Some.ensures.rows.1) at c.decide_move.ensures) room.plan room
    (c.in-Ok.ensures room formed is))

pub returns-in-Err : goal.returns-in-Err
returns-in-Err c = unsaid c.in-Err.fault c.refusal_of.ensures _
