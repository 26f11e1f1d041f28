use Rattle.std.proofs.Common.{drop, ◌++◌, ◌≡◌}
use Rattle.std.specs.Prelude.{filter_map}
use Rattle.room_model.specs.Queue.{overdue, shift_over, unanswered}
use Rattle.room_queue.specs.QueueEntries.{uncovered_seen}
use Rattle.room_queue.proofs.queues.push_held.Given as goal

abbrev pub invariant-loop-loan : goal.invariant-loop-loan
invariant-loop-loan l =
    l.seen.items ++ filter_map (overdue l.slice.division l.at) (drop l.loan-index l.slice.rows.loans)
    ≡ l.initial.seen.items ++ filter_map (overdue l.slice.division l.at) l.slice.rows.loans

abbrev pub invariant-loop-vehicle : goal.invariant-loop-vehicle
invariant-loop-vehicle l =
    l.seen.items ++ filter_map (shift_over l.slice.division l.at) (drop l.vehicle-index l.slice.rows.vehicles)
    ≡ l.initial.seen.items ++ filter_map (shift_over l.slice.division l.at) l.slice.rows.vehicles

abbrev pub invariant-loop-point : goal.invariant-loop-point
invariant-loop-point l =
    l.seen.items
    ++ filter_map (uncovered_seen l.slice.division l.at l.slice.rows) (drop l.point-index l.slice.rows.points)
    ≡ l.initial.seen.items ++ filter_map (uncovered_seen l.slice.division l.at l.slice.rows) l.slice.rows.points

abbrev pub invariant-loop-offer : goal.invariant-loop-offer
invariant-loop-offer l =
    l.seen.items ++ filter_map (unanswered l.slice.division l.at) (drop l.offer-index l.slice.rows.offers)
    ≡ l.initial.seen.items ++ filter_map (unanswered l.slice.division l.at) l.slice.rows.offers
