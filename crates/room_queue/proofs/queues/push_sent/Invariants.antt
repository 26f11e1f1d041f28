use Rattle.std.proofs.Common.{drop, ◌++◌, ◌≡◌}
use Rattle.std.specs.Prelude.{filter_map}
use Rattle.room_model.specs.Queue.{exception, late_turn, unacknowledged_turn}
use Rattle.room_model.specs.RoomSlices.{unplanned}
use Rattle.room_queue.specs.QueueEntries.{turn_ahead, unserved_seen}
use Rattle.room_queue.proofs.queues.push_sent.Given as goal

abbrev pub invariant-loop-incident : goal.invariant-loop-incident
invariant-loop-incident l =
    l.seen.items
    ++ filter_map (unserved_seen l.slice.division l.at l.served) (drop l.incident-index l.slice.rows.incidents)
    ≡ l.initial.seen.items ++ filter_map (unserved_seen l.slice.division l.at l.served) l.slice.rows.incidents

abbrev pub invariant-loop-vehicle : goal.invariant-loop-vehicle
invariant-loop-vehicle l =
    l.seen.items
    ++ filter_map (λ v. unacknowledged_turn l.at v (turn_ahead l.slice.division l.slice.rows v))
    (drop l.vehicle-index l.slice.rows.vehicles)
    ≡ l.initial.seen.items
    ++ filter_map (λ v. unacknowledged_turn l.at v (turn_ahead l.slice.division l.slice.rows v)) l.slice.rows.vehicles

abbrev pub invariant-loop-vehicle-2 : goal.invariant-loop-vehicle-2
invariant-loop-vehicle-2 l =
    l.seen.items
    ++ filter_map
    (λ v. late_turn l.slice.division l.at (unplanned l.slice.rows) v (turn_ahead l.slice.division l.slice.rows v))
    (drop l.vehicle-index l.slice.rows.vehicles)
    ≡ l.initial.seen.items
    ++ filter_map
    (λ v. late_turn l.slice.division l.at (unplanned l.slice.rows) v (turn_ahead l.slice.division l.slice.rows v))
    l.slice.rows.vehicles

abbrev pub invariant-loop-report : goal.invariant-loop-report
invariant-loop-report l =
    l.seen.items ++ filter_map (exception l.slice.division) (drop l.report-index l.slice.rows.reports)
    ≡ l.initial.seen.items ++ filter_map (exception l.slice.division) l.slice.rows.reports
