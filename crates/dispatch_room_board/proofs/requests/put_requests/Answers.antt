use Rattle.std.proofs.lemmas.Result.{on_ok_weaker}
use Rattle.dispatch_room_board.specs.Requests.{last_get, requests_with}
use Rattle.dispatch_room_board.proofs.Growing.{one_more}
use Rattle.dispatch_room_board.proofs.requests.put_requests.Goals as goal

pub returns : goal.returns
unfolding requests_with last_get
returns c =
    let incidents = one_more _ _ _ c.in_ok-put_get.ensures c.in_ok-put_get-2.ensures in
    let incident = one_more _ _ _ incidents c.in_ok-put_incident.ensures in
    let vehicles = one_more _ _ _ incident c.in_ok-put_get-3.ensures in
    let points = one_more _ _ _ vehicles c.in_ok-put_get-4.ensures in
    let offers = one_more _ _ _ points c.in_ok-put_get-5.ensures in
    on_ok_weaker c.write.result (λ h. one_more _ _ _ offers h) c.write.ensures.bytes
