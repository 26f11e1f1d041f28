-- What changes of the room are to a division's share.
use Rattle.std.specs.Ordering.{nat_cmp}
use Rattle.std.specs.Prelude.{List, [], cond, ℕ, ◌∷◌}
use Rattle.room_types.specs.KeyedRows.{drop_row, put_row}
use Rattle.room_types.specs.Keys.{assignment_key, call_key, callsign_cmp, division_key}
use Rattle.room_types.specs.Keys.{incident_key, loan_key, numbered_cmp, offer_key, owns_assignment}
use Rattle.room_types.specs.Keys.{owns_call, owns_division, owns_incident, owns_loan, owns_offer}
use Rattle.room_types.specs.Keys.{owns_point, owns_report, owns_turn, owns_vehicle, pair_cmp}
use Rattle.room_types.specs.Keys.{point_key, report_key, turn_key, vehicle_key}
use Rattle.room_types.specs.declared.changes.Change.{Change}
use Rattle.room_types.specs.declared.changes.Change.TheVariants.{DropAssignment, DropLoan}
use Rattle.room_types.specs.declared.changes.Change.TheVariants.{DropOffer, PutAssignment, PutCall}
use Rattle.room_types.specs.declared.changes.Change.TheVariants.{PutDivision, PutIncident, PutLoan}
use Rattle.room_types.specs.declared.changes.Change.TheVariants.{PutOffer, PutPoint, PutReport}
use Rattle.room_types.specs.declared.changes.Change.TheVariants.{PutTurn, PutVehicle, Settle}
use Rattle.room_model.specs.Room.{Room}

-- the row is put where division d owns it, and else its key is dropped
abbrev pub share_one : ℕ → Room → Change → Room
share_one d s (PutDivision x) = record s {
  divisions = cond (owns_division d x)
      (put_row nat_cmp division_key s.divisions x)
      (drop_row nat_cmp division_key s.divisions (division_key x));
}
share_one d s (PutIncident x) = record s {
  incidents = cond (owns_incident d x)
      (put_row pair_cmp incident_key s.incidents x)
      (drop_row pair_cmp incident_key s.incidents (incident_key x));
}
share_one d s (PutCall x) = record s {
  calls = cond (owns_call d x)
      (put_row pair_cmp call_key s.calls x)
      (drop_row pair_cmp call_key s.calls (call_key x));
}
share_one d s (PutVehicle x) = record s {
  vehicles = cond (owns_vehicle d x)
      (put_row callsign_cmp vehicle_key s.vehicles x)
      (drop_row callsign_cmp vehicle_key s.vehicles (vehicle_key x));
}
share_one d s (PutTurn x) = record s {
  turns = cond (owns_turn d x)
      (put_row numbered_cmp turn_key s.turns x)
      (drop_row numbered_cmp turn_key s.turns (turn_key x));
}
share_one d s (PutAssignment x) = record s {
  assignments = cond (owns_assignment d x)
      (put_row callsign_cmp assignment_key s.assignments x)
      (drop_row callsign_cmp assignment_key s.assignments (assignment_key x));
}
share_one d s (PutPoint x) = record s {
  points = cond (owns_point d x)
      (put_row pair_cmp point_key s.points x)
      (drop_row pair_cmp point_key s.points (point_key x));
}
share_one d s (PutLoan x) = record s {
  loans = cond (owns_loan d x)
      (put_row callsign_cmp loan_key s.loans x)
      (drop_row callsign_cmp loan_key s.loans (loan_key x));
}
share_one d s (PutOffer x) = record s {
  offers = cond (owns_offer d x)
      (put_row callsign_cmp offer_key s.offers x)
      (drop_row callsign_cmp offer_key s.offers (offer_key x));
}
share_one d s (PutReport x) = record s {
  reports = cond (owns_report d x)
      (put_row numbered_cmp report_key s.reports x)
      (drop_row numbered_cmp report_key s.reports (report_key x));
}
share_one d s (DropAssignment c) =
    record s { assignments = drop_row callsign_cmp assignment_key s.assignments c }
share_one d s (DropLoan c) = record s { loans = drop_row callsign_cmp loan_key s.loans c }
share_one d s (DropOffer c) = record s { offers = drop_row callsign_cmp offer_key s.offers c }
share_one d s (Settle c e) = s

abbrev pub share_after : ℕ → Room → List Change → Room
share_after d s [] = s
share_after d s (c ∷ cs) = share_after d (share_one d s c) cs
