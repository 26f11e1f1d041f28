use Rattle.std.proofs.lemmas.Result.{on_ok_weaker}
use Rattle.dispatch_room_board.proofs.Growing.{one_more}
use Rattle.dispatch_room_board.proofs.requests.put_incident.Goals as goal

pub returns-in_ok-put_history-in-Some : goal.returns-in_ok-put_history-in-Some
returns-in_ok-put_history-in-Some c =
    rw c.in-Some.is
    (on_ok_weaker c.put_proposals.result (λ h. one_more _ _ _ c.in_ok-put_history-in-Some.ensures h)
    c.put_proposals.ensures)
