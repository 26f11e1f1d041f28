-- The entries that are found in a slice's rows.
use Rattle.std.specs.Prelude.{List, None, Option, Some, [], cond, filter_map, is_some, not}
use Rattle.std.specs.Prelude.{ℕ, ◌&&◌, ◌++◌, ◌==◌}
use Rattle.room_types.specs.Codes.{is_active, is_mobilised}
use Rattle.room_types.specs.Slices.{open_turn}
use Rattle.room_types.specs.declared.answers.QueueEntry.{QueueEntry}
use Rattle.room_types.specs.declared.slices.DivisionRows.{DivisionRows}
use Rattle.room_types.specs.declared.tables.Incident.{Incident}
use Rattle.room_types.specs.declared.tables.Point.{Point}
use Rattle.room_types.specs.declared.tables.Turn.{Turn}
use Rattle.room_types.specs.declared.tables.Vehicle.{Vehicle}
use Rattle.room_model.specs.Moments.{age}
use Rattle.room_model.specs.Queries.{point_of}
use Rattle.room_model.specs.Queue.{exception, overdue, shift_over, late_turn, unanswered, uncovered}
use Rattle.room_model.specs.Queue.{unacknowledged_turn}
use Rattle.room_model.specs.RoomSlices.{unplanned}
use Rattle.room_queue.specs.ServedIncidents.{is_served}
use Rattle.room_queue.specs.declared.served_incidents.Served.{Served}
use Rattle.room_types.specs.Ranks.{is_past}
use Rattle.room_types.specs.declared.ranks.Rank.TheVariants as rank

-- of an incident that is not among those that some vehicle serves
abbrev pub unserved_seen : ℕ → ℕ → List Served → Incident → Option QueueEntry
unserved_seen d at served i = cond
    (i.division == d && (is_active i.state
    && (is_past rank.Unserved (age at i.opened) && not (is_served served i.number))))
    (Some (record { rank = rank.Unserved; since = i.opened; number = i.number; callsign = None })) None

-- the turn that a mobilised vehicle is on its way by, found at its last order
abbrev pub turn_ahead : ℕ → DivisionRows → Vehicle → Option Turn
turn_ahead d s v = cond (v.holder == d && is_mobilised v.status) (open_turn v s) None

-- of a point that the slice has
abbrev pub uncovered_seen : ℕ → ℕ → DivisionRows → Point → Option QueueEntry
uncovered_seen d at s p =
    cond (is_some (point_of d p.number (unplanned s))) (uncovered d at (unplanned s) p) None

-- what was seen before, and then ranks 1 to 4, one by one
abbrev pub with_sent : ℕ → ℕ → List Served → DivisionRows → List QueueEntry → List QueueEntry
with_sent d at served s before =
    before
    ++ filter_map (unserved_seen d at served) s.incidents
    ++ filter_map (λ v. unacknowledged_turn at v (turn_ahead d s v)) s.vehicles
    ++ filter_map (λ v. late_turn d at (unplanned s) v (turn_ahead d s v)) s.vehicles
    ++ filter_map (exception d) s.reports

-- ranks 5 to 8
abbrev pub with_held : ℕ → ℕ → DivisionRows → List QueueEntry → List QueueEntry
with_held d at s before =
    before
    ++ filter_map (overdue d at) s.loans
    ++ filter_map (shift_over d at) s.vehicles
    ++ filter_map (uncovered_seen d at s) s.points
    ++ filter_map (unanswered d at) s.offers

-- rank by rank
abbrev pub seen : ℕ → ℕ → List Served → DivisionRows → List QueueEntry
seen d at served s = with_held d at s (with_sent d at served s [])
