-- The rows of a room, put one after another, make the room.
use Rattle.std.proofs.Common.{ap, ◌∙◌}
use Rattle.std.proofs.lemmas.Cmp.{nat_cmp_total}
use Rattle.std.specs.Ordering.{nat_cmp}
use Rattle.std.specs.Prelude.{List, [], map, refl, ◌++◌, ◌∷◌, ◌≡◌}
use Rattle.room_types.specs.Keys.{assignment_key, call_key, callsign_cmp, division_key}
use Rattle.room_types.specs.Keys.{incident_key, loan_key, numbered_cmp, offer_key, pair_cmp}
use Rattle.room_types.specs.Keys.{point_key, report_key, turn_key, vehicle_key}
use Rattle.room_types.specs.KeyLemmas.{callsigns_total, exact_callsigns, exact_number}
use Rattle.room_types.specs.KeyLemmas.{exact_numbered, exact_pair, numbered_total, pairs_total}
use Rattle.room_types.specs.declared.changes.Change.{Change}
use Rattle.room_types.specs.declared.changes.Change.TheVariants.{PutAssignment, PutCall}
use Rattle.room_types.specs.declared.changes.Change.TheVariants.{PutDivision, PutIncident, PutLoan}
use Rattle.room_types.specs.declared.changes.Change.TheVariants.{PutOffer, PutPoint, PutReport}
use Rattle.room_types.specs.declared.changes.Change.TheVariants.{PutTurn, PutVehicle}
use Rattle.room_types.specs.declared.tables.Assignment.{Assignment}
use Rattle.room_types.specs.declared.tables.Call.{Call}
use Rattle.room_types.specs.declared.tables.Division.{Division}
use Rattle.room_types.specs.declared.tables.Incident.{Incident}
use Rattle.room_types.specs.declared.tables.Loan.{Loan}
use Rattle.room_types.specs.declared.tables.Offer.{Offer}
use Rattle.room_types.specs.declared.tables.Point.{Point}
use Rattle.room_types.specs.declared.tables.Report.{Report}
use Rattle.room_types.specs.declared.tables.Turn.{Turn}
use Rattle.room_types.specs.declared.tables.Vehicle.{Vehicle}
use Rattle.room_model.specs.Room.{IsInOrder, Room, apply, apply_one}
use Rattle.dispatch_room_tasks.proofs.PutRows.{made_among, made_of, put_each}
use Rattle.dispatch_room_archive.specs.Composition.{IsBare, puts}

apply_both : (r : Room) (cs ds : List Change) → apply r (cs ++ ds) ≡ apply (apply r cs) ds
apply_both r [] ds = refl
apply_both r (c ∷ cs) ds = apply_both (apply_one r c) cs ds

put_divisions : (r : Room) (xs : List Division)
    → apply r (map PutDivision xs) ≡ record r { divisions = put_each nat_cmp division_key r.divisions xs }
put_divisions r [] = refl
put_divisions r (x ∷ xs) = put_divisions (apply_one r (PutDivision x)) xs

put_incidents : (r : Room) (xs : List Incident)
    → apply r (map PutIncident xs) ≡ record r { incidents = put_each pair_cmp incident_key r.incidents xs }
put_incidents r [] = refl
put_incidents r (x ∷ xs) = put_incidents (apply_one r (PutIncident x)) xs

put_calls : (r : Room) (xs : List Call)
    → apply r (map PutCall xs) ≡ record r { calls = put_each pair_cmp call_key r.calls xs }
put_calls r [] = refl
put_calls r (x ∷ xs) = put_calls (apply_one r (PutCall x)) xs

put_vehicles : (r : Room) (xs : List Vehicle)
    → apply r (map PutVehicle xs) ≡ record r { vehicles = put_each callsign_cmp vehicle_key r.vehicles xs }
put_vehicles r [] = refl
put_vehicles r (x ∷ xs) = put_vehicles (apply_one r (PutVehicle x)) xs

put_turns : (r : Room) (xs : List Turn)
    → apply r (map PutTurn xs) ≡ record r { turns = put_each numbered_cmp turn_key r.turns xs }
put_turns r [] = refl
put_turns r (x ∷ xs) = put_turns (apply_one r (PutTurn x)) xs

put_assignments : (r : Room) (xs : List Assignment)
    → apply r (map PutAssignment xs) ≡ record r { assignments = put_each callsign_cmp assignment_key r.assignments xs }
put_assignments r [] = refl
put_assignments r (x ∷ xs) = put_assignments (apply_one r (PutAssignment x)) xs

put_points : (r : Room) (xs : List Point)
    → apply r (map PutPoint xs) ≡ record r { points = put_each pair_cmp point_key r.points xs }
put_points r [] = refl
put_points r (x ∷ xs) = put_points (apply_one r (PutPoint x)) xs

put_loans : (r : Room) (xs : List Loan)
    → apply r (map PutLoan xs) ≡ record r { loans = put_each callsign_cmp loan_key r.loans xs }
put_loans r [] = refl
put_loans r (x ∷ xs) = put_loans (apply_one r (PutLoan x)) xs

put_offers : (r : Room) (xs : List Offer)
    → apply r (map PutOffer xs) ≡ record r { offers = put_each callsign_cmp offer_key r.offers xs }
put_offers r [] = refl
put_offers r (x ∷ xs) = put_offers (apply_one r (PutOffer x)) xs

put_reports : (r : Room) (xs : List Report)
    → apply r (map PutReport xs) ≡ record r { reports = put_each numbered_cmp report_key r.reports xs }
put_reports r [] = refl
put_reports r (x ∷ xs) = put_reports (apply_one r (PutReport x)) xs

-- the first of some changes come to a room, and then the rest
on_to : (r s : Room) (cs ds : List Change) → apply r cs ≡ s → apply r (cs ++ ds) ≡ apply s ds
on_to r s cs ds e = apply_both r cs ds ∙ ap (λ q. apply q ds) e

-- what the rows of a room make of another, table after table
module _ (s r : Room) where
  abbrev with_divisions : Room
  with_divisions = record s { divisions = put_each nat_cmp division_key s.divisions r.divisions }

  abbrev with_incidents : Room
  with_incidents = record with_divisions { incidents = put_each pair_cmp incident_key s.incidents r.incidents }

  abbrev with_calls : Room
  with_calls = record with_incidents { calls = put_each pair_cmp call_key s.calls r.calls }

  abbrev with_vehicles : Room
  with_vehicles = record with_calls { vehicles = put_each callsign_cmp vehicle_key s.vehicles r.vehicles }

  abbrev with_turns : Room
  with_turns = record with_vehicles { turns = put_each numbered_cmp turn_key s.turns r.turns }

  abbrev with_assignments : Room
  with_assignments =
      record with_turns { assignments = put_each callsign_cmp assignment_key s.assignments r.assignments }

  abbrev with_points : Room
  with_points = record with_assignments { points = put_each pair_cmp point_key s.points r.points }

  abbrev with_loans : Room
  with_loans = record with_points { loans = put_each callsign_cmp loan_key s.loans r.loans }

  abbrev with_offers : Room
  with_offers = record with_loans { offers = put_each callsign_cmp offer_key s.offers r.offers }

  abbrev with_reports : Room
  with_reports = record with_offers { reports = put_each numbered_cmp report_key s.reports r.reports }

  -- the changes from a table on
  abbrev from_reports : List Change
  from_reports = map PutReport r.reports

  abbrev from_offers : List Change
  from_offers = map PutOffer r.offers ++ from_reports

  abbrev from_loans : List Change
  from_loans = map PutLoan r.loans ++ from_offers

  abbrev from_points : List Change
  from_points = map PutPoint r.points ++ from_loans

  abbrev from_assignments : List Change
  from_assignments = map PutAssignment r.assignments ++ from_points

  abbrev from_turns : List Change
  from_turns = map PutTurn r.turns ++ from_assignments

  abbrev from_vehicles : List Change
  from_vehicles = map PutVehicle r.vehicles ++ from_turns

  abbrev from_calls : List Change
  from_calls = map PutCall r.calls ++ from_vehicles

  abbrev from_incidents : List Change
  from_incidents = map PutIncident r.incidents ++ from_calls

  made_room : apply s (puts r) ≡ with_reports
  made_room =
      on_to s with_divisions (map PutDivision r.divisions) from_incidents (put_divisions s r.divisions)
      ∙ (on_to with_divisions with_incidents (map PutIncident r.incidents) from_calls
      (put_incidents with_divisions r.incidents)
      ∙ (on_to with_incidents with_calls (map PutCall r.calls) from_vehicles (put_calls with_incidents r.calls)
      ∙ (on_to with_calls with_vehicles (map PutVehicle r.vehicles) from_turns (put_vehicles with_calls r.vehicles)
      ∙ (on_to with_vehicles with_turns (map PutTurn r.turns) from_assignments (put_turns with_vehicles r.turns)
      ∙ (on_to with_turns with_assignments (map PutAssignment r.assignments) from_points
      (put_assignments with_turns r.assignments)
      ∙ (on_to with_assignments with_points (map PutPoint r.points) from_loans (put_points with_assignments r.points)
      ∙ (on_to with_points with_loans (map PutLoan r.loans) from_offers (put_loans with_points r.loans)
      ∙ (on_to with_loans with_offers (map PutOffer r.offers) from_reports (put_offers with_loans r.offers)
      ∙ (put_reports with_offers r.reports)))))))))

pub made_of_rows : (s r : Room) → IsInOrder s → IsInOrder r → IsBare s r → apply s (puts r) ≡ r
made_of_rows s r order keyed bare = made_room s r ∙ (λ i. record {
  plan = bare.plan i;
  divisions =
      made_among nat_cmp division_key nat_cmp_total exact_number s.divisions r.divisions order.divisions keyed.divisions
      bare.divisions i;
  incidents =
      made_of pair_cmp incident_key pairs_total exact_pair s.incidents r.incidents bare.incidents keyed.incidents i;
  calls = made_of pair_cmp call_key pairs_total exact_pair s.calls r.calls bare.calls keyed.calls i;
  vehicles =
      made_of callsign_cmp vehicle_key callsigns_total exact_callsigns s.vehicles r.vehicles bare.vehicles
      keyed.vehicles i;
  turns = made_of numbered_cmp turn_key numbered_total exact_numbered s.turns r.turns bare.turns keyed.turns i;
  assignments =
      made_of callsign_cmp assignment_key callsigns_total exact_callsigns s.assignments r.assignments bare.assignments
      keyed.assignments i;
  points = made_of pair_cmp point_key pairs_total exact_pair s.points r.points bare.points keyed.points i;
  loans = made_of callsign_cmp loan_key callsigns_total exact_callsigns s.loans r.loans bare.loans keyed.loans i;
  offers = made_of callsign_cmp offer_key callsigns_total exact_callsigns s.offers r.offers bare.offers keyed.offers i;
  reports =
      made_of numbered_cmp report_key numbered_total exact_numbered s.reports r.reports bare.reports keyed.reports i;
})
