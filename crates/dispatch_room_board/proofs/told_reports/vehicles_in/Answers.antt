use Rattle.std.proofs.Common.{◌∙◌, ap, sym}
use Rattle.std.proofs.lemmas.List.{drop_all}
use Rattle.dispatch_room_board.specs.ToldReports.{with_vehicles}
use Rattle.dispatch_room_board.proofs.Exceptions.{vehicle_more}
use Rattle.dispatch_room_board.proofs.told_reports.vehicles_in.Goals as goal

pub loop-line-preserved : goal.loop-line-preserved
loop-line-preserved c =
    vehicle_more _ _ _ _ _ c.loop-line-test.true c.line-item.is c.in_ok-put_vehicle.ensures
    ∙ c.loop-line.invariant

pub returns : goal.returns
returns c =
    sym (ap (with_vehicles c.loop-line.vehicles) (drop_all _ _ c.loop-line-test.false)) ∙ c.loop-line.invariant
