use Rattle.std.proofs.lemmas.Result.{on_ok_weaker}
use Rattle.dispatch_room_board.proofs.Exceptions.{told_more}
use Rattle.dispatch_room_board.proofs.told_reports.+put_told.Goals as goal

pub returns : goal.returns
returns t c =
    on_ok_weaker c.put_told.result
    (λ h.
    told_more c.in-Some.vehicle.now c.in-Some.others.now c.args.vehicles.now c.args.told.now c.in_ok-found.rest.now
    c.in_ok-found.found c.args.reports.now c.put_found.new.reports c.put_told.new.reports
    c.in-Some.ensures.cases.0 c.in_ok-found.ensures c.in_ok-put_found.ensures h)
    c.put_told.ensures
