use Rattle.std.proofs.Common.{ap, length, ◌++◌, ◌∙◌, ◌≤◌}
use Rattle.std.specs.Prelude.{filter_map}
use Rattle.room_model.specs.Queue.{overdue, shift_over, unanswered}
use Rattle.room_queue.specs.QueueEntries.{uncovered_seen}
use Rattle.room_alloc.proofs.CandidateLaws.{drop_item}
use Rattle.room_queue.proofs.SeenLaws.{noted, walked}
use Rattle.room_queue.proofs.queues.push_held.Goals as goal

pub loop-loan-preserved : goal.loop-loan-preserved
loop-loan-preserved c =
    let d = c.args.slice.now.division in
    let s = c.args.slice.now.rows in
    let at = c.args.at in
    let rest = drop_item s.loans c.as_slice-loan-items.result.now c.loop-loan.loan-index c.loan-item.result
    c.as_slice-loan-items.ensures.all c.loop-loan-test.true c.loan-item.is in
    noted (overdue d at) s.loans c.loop-loan.loan-index c.loan-item.result c.overdue.result c.loop-loan.seen.items
    c.push_entry.new.seen.items _ c.overdue.ensures c.in_ok-push_entry.ensures rest c.loop-loan.invariant

pub loop-vehicle-preserved : goal.loop-vehicle-preserved
loop-vehicle-preserved c =
    let d = c.args.slice.now.division in
    let s = c.args.slice.now.rows in
    let at = c.args.at in
    let rest = drop_item s.vehicles c.as_slice-vehicle-items.result.now c.loop-vehicle.vehicle-index
    c.vehicle-item.result c.as_slice-vehicle-items.ensures.all c.loop-vehicle-test.true c.vehicle-item.is in
    noted (shift_over d at) s.vehicles c.loop-vehicle.vehicle-index c.vehicle-item.result c.shift_over.result
    c.loop-vehicle.seen.items c.push_entry-in-loop-vehicle.new.seen.items _ c.shift_over.ensures
    c.in_ok-push_entry-2.ensures rest c.loop-vehicle.invariant

pub loop-point-preserved : goal.loop-point-preserved
loop-point-preserved c =
    let d = c.args.slice.now.division in
    let s = c.args.slice.now.rows in
    let at = c.args.at in
    let rest = drop_item s.points c.as_slice-point-items.result.now c.loop-point.point-index c.point-item.result
    c.as_slice-point-items.ensures.all c.loop-point-test.true c.point-item.is in
    noted (uncovered_seen d at s) s.points c.loop-point.point-index c.point-item.result c.uncovered.result
    c.loop-point.seen.items c.push_entry-in-loop-point.new.seen.items _ c.uncovered.ensures c.in_ok-push_entry-3.ensures
    rest c.loop-point.invariant

pub loop-offer-preserved : goal.loop-offer-preserved
loop-offer-preserved c =
    let d = c.args.slice.now.division in
    let s = c.args.slice.now.rows in
    let at = c.args.at in
    let rest = drop_item s.offers c.as_slice-offer-items.result.now c.loop-offer.offer-index c.offer-item.result
    c.as_slice-offer-items.ensures.all c.loop-offer-test.true c.offer-item.is in
    noted (unanswered d at) s.offers c.loop-offer.offer-index c.offer-item.result c.unanswered.result
    c.loop-offer.seen.items c.push_entry-in-loop-offer.new.seen.items _ c.unanswered.ensures
    c.in_ok-push_entry-4.ensures rest c.loop-offer.invariant

pub returns : goal.returns
returns c =
    let d = c.args.slice.now.division in
    let s = c.args.slice.now.rows in
    let at = c.args.at in
    let past0 : length s.loans
    ≤ c.loop-loan.loan-index = rw c.as_slice-loan-items.ensures.all at c.loop-loan-test.false in
    let e0 = walked (overdue d at) s.loans _ c.args.seen.now.items c.loop-loan.seen.items past0 c.loop-loan.invariant in
    let past1 : length s.vehicles
    ≤ c.loop-vehicle.vehicle-index = rw c.as_slice-vehicle-items.ensures.all at c.loop-vehicle-test.false in
    let e1 = walked (shift_over d at) s.vehicles _ c.loop-loan.seen.items c.loop-vehicle.seen.items past1
    c.loop-vehicle.invariant ∙ ap (λ ys. ys ++ filter_map (shift_over d at) s.vehicles) e0 in
    let past2 : length s.points
    ≤ c.loop-point.point-index = rw c.as_slice-point-items.ensures.all at c.loop-point-test.false in
    let e2 = walked (uncovered_seen d at s) s.points _ c.loop-vehicle.seen.items c.loop-point.seen.items past2
    c.loop-point.invariant ∙ ap (λ ys. ys ++ filter_map (uncovered_seen d at s) s.points) e1 in
    let past3 : length s.offers
    ≤ c.loop-offer.offer-index = rw c.as_slice-offer-items.ensures.all at c.loop-offer-test.false in
    let e3 = walked (unanswered d at) s.offers _ c.loop-point.seen.items c.loop-offer.seen.items past3
    c.loop-offer.invariant ∙ ap (λ ys. ys ++ filter_map (unanswered d at) s.offers) e2 in
    e3
