use Rattle.room_core.proofs.MoveRows.{sent_by, stood_down_by}
use Rattle.room_core.proofs.move_decisions.decide_move.Goals as goal

pub returns-in-Some : goal.returns-in-Some
returns-in-Some c plan r has =
    sent_by c.args.slice.now.division _ r c.args.at c.args.next.now c.in-Some.number c.in-Some.is has
    (c.mobilise.ensures.decides plan)

pub returns-in-None : goal.returns-in-None
returns-in-None c plan r has =
    stood_down_by c.args.slice.now.division _ r c.args.at c.args.next.now c.in-None.is has
    (c.stand_down.ensures plan)
