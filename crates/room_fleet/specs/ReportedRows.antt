-- A vehicle's rows after a report whose number is new.
use Rattle.std.specs.Prelude.{Bool, None, Option, Some, cond, false, option_map, ℕ, ◌&&◌, ◌≡◌}
use Rattle.room_types.specs.declared.asks.Press.{Press}
use Rattle.room_types.specs.declared.codes.Outcome.{Outcome}
use Rattle.room_types.specs.declared.crews.CrewRows.{CrewRows}
use Rattle.room_types.specs.declared.tables.Turn.{Turn}
use Rattle.room_types.specs.Codes.{acts}
use Rattle.room_model.specs.Queries.{borrowed, held, open_turn}
use Rattle.room_model.specs.Reports.{is_due, is_home, outcome_of, report_row, status_after}
use Rattle.room_model.specs.Reports.{turn_after, vehicle_after, with_report}
use Rattle.room_model.specs.Room.{Room}
use Rattle.room_fleet.specs.declared.reports.Reported.{Reported}

-- the vehicle goes home to its lender
abbrev pub goes_back : CrewRows → Press → ℕ → Bool
goes_back x p at = is_home p.button && is_due at x.loan

-- a report that acts
abbrev pub acted : CrewRows → Press → ℕ → Outcome → Reported
acted x p at o = record {
  vehicle = vehicle_after x.vehicle x.loan p (goes_back x p at);
  turn = option_map (turn_after p.button at) x.turn;
  loan = cond (goes_back x p at) None x.loan;
  report = report_row x.vehicle p at o (status_after x.vehicle.status p.button);
}

-- one that does not: its row is kept, and the greatest number
abbrev pub only_kept : CrewRows → Press → ℕ → Outcome → Reported
only_kept x p at o = record {
  vehicle = with_report x.vehicle p;
  turn = x.turn;
  loan = x.loan;
  report = report_row x.vehicle p at o x.vehicle.status;
}

-- a report acts by its outcome
abbrev pub reported_as : CrewRows → Press → ℕ → Outcome → Reported
reported_as x p at o = cond (acts o) (acted x p at o) (only_kept x p at o)

-- the rows after a report whose number is new
abbrev pub reported : CrewRows → Press → ℕ → Reported
reported x p at = reported_as x p at (outcome_of x.vehicle x.turn p)

-- ---- in plain words
-- late, stale or wrong
abbrev pub IsOnlyKept : Reported → Type 0
IsOnlyKept y = acts y.report.outcome ≡ false

-- a moment that is set stays
abbrev pub Stays : Option ℕ → Option ℕ → Type 0
Stays None new = Unit {0}
Stays (Some at) new = new ≡ Some at

pub record KeepsMoments (old new : Turn) : Type 0 where
  pub acknowledged : Stays old.acknowledged new.acknowledged
  pub scene : Stays old.scene new.scene
  pub left : Stays old.left new.left
  pub hospital : Stays old.hospital new.hospital

-- a turn keeps the moments that it has, and none comes where there was none
abbrev pub TurnKeepsMoments : Option Turn → Option Turn → Type 0
TurnKeepsMoments None new = new ≡ None
TurnKeepsMoments (Some t) None = ⊥
TurnKeepsMoments (Some t) (Some u) = KeepsMoments t u

-- ---- the same rows in a room
-- the room's holder of the vehicle has it, its open turn and its loan as these rows have them
pub record AreHolders (r : Room) (x : CrewRows) : Type 0 where
  pub vehicle : held x.vehicle.holder x.vehicle.callsign r ≡ Some x.vehicle
  pub turn : open_turn x.vehicle.holder x.vehicle.callsign r ≡ x.turn
  pub loan : borrowed x.vehicle.holder x.vehicle.callsign r ≡ x.loan
