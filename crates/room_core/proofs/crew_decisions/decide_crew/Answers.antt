use Rattle.std.proofs.Common.{sym, ◌∙◌}
use Rattle.room_model.proofs.CrewLaws.{mine_answer}
use Rattle.room_model.specs.Queries.{assignment_at, vehicle_at}
use Rattle.room_core.proofs.crew_decisions.decide_crew.Goals as goal

pub returns-in-Order-clause-decides : goal.returns-in-Order-clause-decides
unfolding assignment_at vehicle_at
returns-in-Order-clause-decides c r formed rows unsent =
    sym (rw (c.in-Order.is, rows.vehicle, rows.assignment) (sym c.show_order.ensures))

pub returns-in-Order-clause-apart : goal.returns-in-Order-clause-apart
returns-in-Order-clause-apart c r other formed rows unsent order same =
    returns-in-Order-clause-decides c r formed rows unsent
    ∙ mine_answer c.args.slice.now.rows.vehicle.callsign c.args.ask.now c.args.at r other formed.order order same

pub returns-in-Report-clause-decides : goal.returns-in-Report-clause-decides
returns-in-Report-clause-decides c r formed rows unsent =
    rw c.in-Report.is (sym (c.take_report.ensures.crew r formed rows (rw c.in-Report.is at unsent)))

pub returns-in-Report-clause-apart : goal.returns-in-Report-clause-apart
returns-in-Report-clause-apart c r other formed rows unsent order same =
    returns-in-Report-clause-decides c r formed rows unsent
    ∙ mine_answer c.args.slice.now.rows.vehicle.callsign c.args.ask.now c.args.at r other formed.order order same

pub returns-in-Last-clause-decides : goal.returns-in-Last-clause-decides
unfolding vehicle_at
returns-in-Last-clause-decides c r formed rows unsent =
    sym (rw (c.in-Last.is, rows.vehicle) (sym c.show_last.ensures))

pub returns-in-Last-clause-apart : goal.returns-in-Last-clause-apart
returns-in-Last-clause-apart c r other formed rows unsent order same =
    returns-in-Last-clause-decides c r formed rows unsent
    ∙ mine_answer c.args.slice.now.rows.vehicle.callsign c.args.ask.now c.args.at r other formed.order order same
