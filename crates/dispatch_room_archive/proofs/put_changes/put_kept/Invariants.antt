use Rattle.std.proofs.Common.{List, filter, map, not, take, ◌++◌, ◌≡◌}
use Rattle.room_place.specs.declared.plans.Area.{Area}
use Rattle.room_model.specs.RoomSlices.{room_of}
use Rattle.dispatch_room_archive.proofs.put_changes.put_kept.Given as goal

abbrev pub invariant-loop-row : goal.invariant-loop-row
invariant-loop-row g l =
    (plan : List Area)
    → l.changes.items
    ≡ l.fn.changes.items
    ++ map g.R.Put.put_of
    (filter (λ x. not (g.R.Leaves.stays_behind l.past.since (room_of plan l.past.rows.now) x))
    (take l.row-index l.fn.rows))
