-- A room as the changes that put each of its rows.
use Rattle.std.specs.Ordering.{nat_cmp}
use Rattle.std.specs.Prelude.{List, None, [], map, ℕ, ◌++◌, ◌≡◌}
use Rattle.room_types.specs.KeyedRows.{row_at}
use Rattle.room_types.specs.Keys.{division_key}
use Rattle.room_types.specs.declared.changes.Change.{Change}
use Rattle.room_types.specs.declared.changes.Change.TheVariants.{PutAssignment, PutCall}
use Rattle.room_types.specs.declared.changes.Change.TheVariants.{PutDivision, PutIncident, PutLoan}
use Rattle.room_types.specs.declared.changes.Change.TheVariants.{PutOffer, PutPoint, PutReport}
use Rattle.room_types.specs.declared.changes.Change.TheVariants.{PutTurn, PutVehicle}
use Rattle.room_model.specs.Room.{Room}

-- each row of the room is put, table after table
abbrev pub puts : Room → List Change
puts r =
    map PutDivision r.divisions
    ++ (map PutIncident r.incidents
    ++ (map PutCall r.calls
    ++ (map PutVehicle r.vehicles
    ++ (map PutTurn r.turns
    ++ (map PutAssignment r.assignments
    ++ (map PutPoint r.points
    ++ (map PutLoan r.loans
    ++ (map PutOffer r.offers
    ++ map PutReport r.reports))))))))

-- a room with the plan of another, only divisions that the other has too, and no other rows
pub record IsBare (s r : Room) : Type 0 where
  pub plan : s.plan ≡ r.plan
  pub divisions : (d : ℕ) → row_at nat_cmp division_key r.divisions d ≡ None →
      row_at nat_cmp division_key s.divisions d ≡ None
  pub incidents : s.incidents ≡ []
  pub calls : s.calls ≡ []
  pub vehicles : s.vehicles ≡ []
  pub turns : s.turns ≡ []
  pub assignments : s.assignments ≡ []
  pub points : s.points ≡ []
  pub loans : s.loans ≡ []
  pub offers : s.offers ≡ []
  pub reports : s.reports ≡ []
