-- The rows that a request is decided on, and the room's.
use Rattle.std.specs.Prelude.{List, [], Some, is_none, ◌≡◌}
use Rattle.room_place.specs.declared.plans.Area.{Area}
use Rattle.room_types.specs.KeyedRows.{keep, row_at}
use Rattle.room_types.specs.Keys.{assignment_key, callsign_cmp, loan_key, numbered_cmp, turn_key}
use Rattle.room_types.specs.Keys.{vehicle_key}
use Rattle.room_types.specs.Texts.{Callsign}
use Rattle.room_types.specs.declared.crews.CrewRows.{CrewRows}
use Rattle.room_types.specs.declared.slices.DivisionRows.{DivisionRows}
use Rattle.room_model.specs.Room.{Room}

-- a division's rows as a room
abbrev pub room_of : List Area → DivisionRows → Room
room_of plan s = record {
  plan = plan;
  divisions = s.divisions;
  incidents = s.incidents;
  calls = s.calls;
  vehicles = s.vehicles;
  turns = s.turns;
  assignments = s.assignments;
  points = s.points;
  loans = s.loans;
  offers = s.offers;
  reports = s.reports;
}

-- a division's rows as a room, where nothing looks at the plan
abbrev pub unplanned : DivisionRows → Room
unplanned s = room_of [] s

-- what the room has of vehicle c: the turn is that of its last order, where it is not ended
pub record AreCrewRows (c : Callsign) (r : Room) (x : CrewRows) : Type 0 where
  pub vehicle : row_at callsign_cmp vehicle_key r.vehicles c ≡ Some x.vehicle
  pub assignment : row_at callsign_cmp assignment_key r.assignments c ≡ x.assignment
  pub turn :
      keep (λ t. is_none t.ended) (row_at numbered_cmp turn_key r.turns (c, x.vehicle.last_order))
      ≡ x.turn
  pub loan : row_at callsign_cmp loan_key r.loans c ≡ x.loan
