use Rattle.std.proofs.Common.{ap, length, ◌++◌, ◌∙◌, ◌≤◌}
use Rattle.std.specs.Prelude.{filter_map}
use Rattle.room_model.specs.Queue.{exception, late_turn, unacknowledged_turn}
use Rattle.room_model.specs.RoomSlices.{unplanned}
use Rattle.room_queue.specs.QueueEntries.{turn_ahead, unserved_seen}
use Rattle.room_alloc.proofs.CandidateLaws.{drop_item}
use Rattle.room_queue.proofs.SeenLaws.{noted, walked}
use Rattle.room_queue.proofs.queues.push_sent.Goals as goal

pub loop-incident-preserved : goal.loop-incident-preserved
loop-incident-preserved c =
    let d = c.args.slice.now.division in
    let s = c.args.slice.now.rows in
    let at = c.args.at in
    let rest = drop_item s.incidents c.as_slice-incident-items.result.now c.loop-incident.incident-index
    c.incident-item.result c.as_slice-incident-items.ensures.all c.loop-incident-test.true c.incident-item.is in
    noted (unserved_seen d at c.args.served.now) s.incidents c.loop-incident.incident-index c.incident-item.result
    c.unserved.result c.loop-incident.seen.items c.push_entry.new.seen.items _ c.unserved.ensures
    c.in_ok-push_entry.ensures rest c.loop-incident.invariant

pub loop-vehicle-preserved : goal.loop-vehicle-preserved
loop-vehicle-preserved c =
    let d = c.args.slice.now.division in
    let s = c.args.slice.now.rows in
    let at = c.args.at in
    let rest = drop_item s.vehicles c.as_slice-vehicles.result.now c.loop-vehicle.vehicle-index c.vehicle-item.result
    c.as_slice-vehicles.ensures.all c.loop-vehicle-test.true c.vehicle-item.is in
    noted (λ v. unacknowledged_turn at v (turn_ahead d s v)) s.vehicles c.loop-vehicle.vehicle-index
    c.vehicle-item.result
    c.unacknowledged.result c.loop-vehicle.seen.items c.push_entry-in-loop-vehicle.new.seen.items _
    c.unacknowledged.ensures
    c.in_ok-push_entry-2.ensures rest c.loop-vehicle.invariant

pub loop-vehicle-2-preserved : goal.loop-vehicle-2-preserved
loop-vehicle-2-preserved c =
    let d = c.args.slice.now.division in
    let s = c.args.slice.now.rows in
    let at = c.args.at in
    let rest = drop_item s.vehicles c.as_slice-vehicles.result.now c.loop-vehicle-2.vehicle-index
    c.vehicle-item-in-loop-vehicle-2.result c.as_slice-vehicles.ensures.all c.loop-vehicle-2-test.true
    c.vehicle-item-in-loop-vehicle-2.is in
    noted (λ v. late_turn d at (unplanned s) v (turn_ahead d s v)) s.vehicles c.loop-vehicle-2.vehicle-index
    c.vehicle-item-in-loop-vehicle-2.result c.late_for_scene.result c.loop-vehicle-2.seen.items
    c.push_entry-in-loop-vehicle-2.new.seen.items _ c.late_for_scene.ensures c.in_ok-push_entry-3.ensures rest
    c.loop-vehicle-2.invariant

pub loop-report-preserved : goal.loop-report-preserved
loop-report-preserved c =
    let d = c.args.slice.now.division in
    let s = c.args.slice.now.rows in
    let at = c.args.at in
    let rest = drop_item s.reports c.as_slice-report-items.result.now c.loop-report.report-index c.report-item.result
    c.as_slice-report-items.ensures.all c.loop-report-test.true c.report-item.is in
    noted (exception d) s.reports c.loop-report.report-index c.report-item.result c.exception.result
    c.loop-report.seen.items c.push_entry-in-loop-report.new.seen.items _ c.exception.ensures
    c.in_ok-push_entry-4.ensures rest c.loop-report.invariant

pub returns : goal.returns
returns c =
    let d = c.args.slice.now.division in
    let s = c.args.slice.now.rows in
    let at = c.args.at in
    let past0 : length s.incidents
    ≤ c.loop-incident.incident-index = rw c.as_slice-incident-items.ensures.all at c.loop-incident-test.false in
    let e0 = walked (unserved_seen d at c.args.served.now) s.incidents _ c.args.seen.now.items
    c.loop-incident.seen.items past0 c.loop-incident.invariant in
    let past1 : length s.vehicles
    ≤ c.loop-vehicle.vehicle-index = rw c.as_slice-vehicles.ensures.all at c.loop-vehicle-test.false in
    let e1 = walked (λ v. unacknowledged_turn at v (turn_ahead d s v)) s.vehicles _ c.loop-incident.seen.items
    c.loop-vehicle.seen.items past1 c.loop-vehicle.invariant
    ∙ ap (λ ys. ys ++ filter_map (λ v. unacknowledged_turn at v (turn_ahead d s v)) s.vehicles) e0 in
    let past2 : length s.vehicles
    ≤ c.loop-vehicle-2.vehicle-index = rw c.as_slice-vehicles.ensures.all at c.loop-vehicle-2-test.false in
    let e2 = walked (λ v. late_turn d at (unplanned s) v (turn_ahead d s v)) s.vehicles _ c.loop-vehicle.seen.items
    c.loop-vehicle-2.seen.items past2 c.loop-vehicle-2.invariant
    ∙ ap (λ ys. ys ++ filter_map (λ v. late_turn d at (unplanned s) v (turn_ahead d s v)) s.vehicles) e1 in
    let past3 : length s.reports
    ≤ c.loop-report.report-index = rw c.as_slice-report-items.ensures.all at c.loop-report-test.false in
    let e3 = walked (exception d) s.reports _ c.loop-vehicle-2.seen.items c.loop-report.seen.items past3
    c.loop-report.invariant ∙ ap (λ ys. ys ++ filter_map (exception d) s.reports) e2 in
    e3
