use Rattle.std.proofs.Common.{FitsSigned, rules, sym, w64}
use Rattle.std.proofs.lemmas.Int.{to_z-of_z}
use Rattle.room_core.proofs.DecidedLaws.{exact, listed}
use Rattle.room_core.proofs.desk_decisions.decide.Goals as goal

pub returns-in-Incidents : goal.returns-in-Incidents
returns-in-Incidents c = rw c.in-Incidents.is (listed _ _ (c.incidents.ensures.decides c.args.plan.now.areas))

pub returns-in-Incident : goal.returns-in-Incident
returns-in-Incident c = rw c.in-Incident.is (listed _ _ (c.incident.ensures.decides c.args.plan.now.areas))

pub returns-in-Propose : goal.returns-in-Propose
returns-in-Propose c = rw c.in-Propose.is (listed _ _ (c.propose.ensures.decides c.args.plan.now.areas))

pub returns-in-Mobilise : goal.returns-in-Mobilise
returns-in-Mobilise c = rw c.in-Mobilise.is (exact _ _ (c.mobilise.ensures.decides c.args.plan.now.areas))

pub returns-in-Needs : goal.returns-in-Needs
returns-in-Needs c = rw c.in-Needs.is (exact _ _ (c.change_needs.ensures.decides c.args.plan.now.areas))

pub returns-in-Merge : goal.returns-in-Merge
returns-in-Merge c = rw c.in-Merge.is (listed _ _ (c.merge.ensures.decides c.args.plan.now.areas))

pub returns-in-Close : goal.returns-in-Close
returns-in-Close c = rw c.in-Close.is (exact _ _ (c.close.ensures.decides c.args.plan.now.areas))

pub returns-in-Vehicles : goal.returns-in-Vehicles
returns-in-Vehicles c = rw c.in-Vehicles.is (listed _ _ (c.vehicles.ensures c.args.plan.now.areas))

pub returns-in-StandDown : goal.returns-in-StandDown
returns-in-StandDown c = rw c.in-StandDown.is (exact _ _ (c.stand_down.ensures c.args.plan.now.areas))

pub returns-in-Standby : goal.returns-in-Standby
returns-in-Standby c = rw c.in-Standby.is (exact _ _ (c.post.ensures c.args.plan.now.areas))

pub returns-in-Duty : goal.returns-in-Duty
returns-in-Duty c = rw c.in-Duty.is (exact _ _ (c.on_duty.ensures c.args.plan.now.areas))

pub returns-in-Off : goal.returns-in-Off
returns-in-Off c = rw c.in-Off.is (exact _ _ (c.off_duty.ensures c.args.plan.now.areas))

pub returns-in-Lend : goal.returns-in-Lend
returns-in-Lend c = rw c.in-Lend.is (exact _ _ c.lend.ensures)

pub returns-in-Withdraw : goal.returns-in-Withdraw
returns-in-Withdraw c = rw c.in-Withdraw.is (exact _ _ (c.withdraw.ensures c.args.plan.now.areas))

pub returns-in-Decline : goal.returns-in-Decline
returns-in-Decline c = rw c.in-Decline.is (exact _ _ (c.decline.ensures c.args.plan.now.areas))

pub returns-in-Accept : goal.returns-in-Accept
returns-in-Accept c = rw c.in-Accept.is (exact _ _ (c.accept.ensures c.args.plan.now.areas))

pub returns-in-Recall : goal.returns-in-Recall
returns-in-Recall c = rw c.in-Recall.is (exact _ _ (c.recall.ensures c.args.plan.now.areas))

pub returns-in-GiveBack : goal.returns-in-GiveBack
returns-in-GiveBack c = rw c.in-GiveBack.is (exact _ _ (c.give_back.ensures c.args.plan.now.areas))

pub returns-in-Reports : goal.returns-in-Reports
returns-in-Reports c = rw c.in-Reports.is (listed _ _ (c.reports.ensures c.args.plan.now.areas))

pub returns-in-Queue : goal.returns-in-Queue
returns-in-Queue c = rw c.in-Queue.is (listed _ _ (c.queue.ensures.decides c.args.plan.now.areas))

pub returns-in-Clear : goal.returns-in-Clear
returns-in-Clear c = rw c.in-Clear.is (exact _ _ (c.clear.ensures c.args.plan.now.areas))

pub returns-in-Points : goal.returns-in-Points
returns-in-Points c = rw c.in-Points.is (listed _ _ (c.points.ensures c.args.plan.now.areas))

pub returns-in-SetPoint : goal.returns-in-SetPoint
returns-in-SetPoint c = rw c.in-SetPoint.is (exact _ _ (sym c.set_point.ensures))

pub returns-in-Loans : goal.returns-in-Loans
returns-in-Loans c = rw c.in-Loans.is (listed _ _ (c.loans.ensures c.args.plan.now.areas))

pub returns-in-Offers : goal.returns-in-Offers
returns-in-Offers c = rw c.in-Offers.is (listed _ _ (c.offers.ensures c.args.plan.now.areas))

pub returns-in-Times : goal.returns-in-Times
returns-in-Times c =
    let from : FitsSigned w64 c.in-Times.from = search rules in
    let to : FitsSigned w64 c.in-Times.to = search rules in
    rw c.in-Times.is (listed _ _ (rw (to_z-of_z w64 c.in-Times.from from, to_z-of_z w64 c.in-Times.to to) at
    c.day_times.ensures.decides c.args.plan.now.areas))

pub returns-in-ClassTimes : goal.returns-in-ClassTimes
returns-in-ClassTimes c =
    let from : FitsSigned w64 c.in-ClassTimes.from = search rules in
    let to : FitsSigned w64 c.in-ClassTimes.to = search rules in
    rw c.in-ClassTimes.is (exact _ _
    (sym (rw (to_z-of_z w64 c.in-ClassTimes.from from, to_z-of_z w64 c.in-ClassTimes.to to) at
    c.day_class_times.ensures c.args.plan.now.areas)))

pub returns-in-Closed : goal.returns-in-Closed
returns-in-Closed c =
    let from : FitsSigned w64 c.in-Closed.from = search rules in
    let to : FitsSigned w64 c.in-Closed.to = search rules in
    rw c.in-Closed.is (listed _ _ (rw (to_z-of_z w64 c.in-Closed.from from, to_z-of_z w64 c.in-Closed.to to) at
    c.closed.ensures c.args.plan.now.areas))
