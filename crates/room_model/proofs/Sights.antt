-- What two rooms must agree on, for a desk to decide alike in both.
use Rattle.std.proofs.Common.{ap, eq-eqb, sym, ◌∙◌}
use Rattle.std.specs.Prelude.{List, Some, refl, true, ℕ, ℤ, ◌==◌, ◌≡◌}
use Rattle.room_place.specs.Choice.{Among}
use Rattle.room_types.proofs.KeyedLaws.{row_filter}
use Rattle.room_types.specs.KeyedRows.{keep}
use Rattle.room_types.specs.Keys.{assignment_key, callsign_cmp, loan_key, offer_key}
use Rattle.room_types.specs.Keys.{owns_assignment, owns_loan, owns_offer, owns_point, owns_vehicle}
use Rattle.room_types.specs.Keys.{pair_cmp, point_key, vehicle_key}
use Rattle.room_types.specs.KeyLemmas.{callsigns_total, exact_pair, pairs_total}
use Rattle.room_types.specs.declared.asks.Ask.{Ask}
use Rattle.room_types.specs.declared.asks.Search.{Search}
use Rattle.room_types.specs.declared.codes.Kind.{Kind}
use Rattle.room_types.specs.declared.tables.Call.{Call}
use Rattle.room_types.specs.declared.tables.Incident.{Incident}
use Rattle.room_types.specs.declared.tables.Report.{Report}
use Rattle.room_types.specs.declared.tables.Turn.{Turn}
use Rattle.room_types.specs.declared.tables.Vehicle.{Vehicle}
use Rattle.room_types.specs.Texts.{Callsign}
use Rattle.room_model.proofs.Tests.{filter_filter, is_equal, keep_keep, keep_row, left_true}
use Rattle.room_model.proofs.Tests.{or_left, or_right}
use Rattle.room_model.specs.Proposals.{eligible}
use Rattle.room_model.specs.ClosedIncidents.{incidents_found}
use Rattle.room_model.specs.Queries.{active_incidents, all_held, assignment_of, borrowed, calls_of}
use Rattle.room_model.specs.Queries.{held, holders, incident_of, incidents_opened, is_attended}
use Rattle.room_model.specs.Queries.{lent, loans_of, offered_by, offered_to, offers_of, open_turn}
use Rattle.room_model.specs.Queries.{point_of, points_of, reports_of, served, turns_of}
use Rattle.room_model.specs.Queue.{clear, entries}
use Rattle.room_model.specs.Room.{IsInOrder, Room}
use Rattle.room_model.specs.Shares.{own}
use Rattle.room_model.specs.WorkingRows.{names_incident, reads_active, reads_assignments}
use Rattle.room_model.specs.WorkingRows.{reads_calls, reads_loan, reads_offer, reads_point}
use Rattle.room_model.specs.WorkingRows.{reads_vehicle}
use Rattle.room_types.specs.declared.asks.Ask.TheVariants as ask

-- the vehicles that division d holds, and what stands beside them
pub record SeesVehicles (d : ℕ) (s r : Room) : Type 0 where
  pub same_plan : s.plan ≡ r.plan
  pub same_held : (c : Callsign) → held d c s ≡ held d c r
  pub same_all_held : all_held d s ≡ all_held d r
  pub same_lent : (c : Callsign) → lent d c s ≡ lent d c r
  pub same_borrowed : (c : Callsign) → borrowed d c s ≡ borrowed d c r
  pub same_loans : loans_of d s ≡ loans_of d r
  pub same_offered_by : (c : Callsign) → offered_by d c s ≡ offered_by d c r
  pub same_offered_to : (c : Callsign) → offered_to d c s ≡ offered_to d c r
  pub same_offers : offers_of d s ≡ offers_of d r
  pub same_assignment : (c : Callsign) → assignment_of d c s ≡ assignment_of d c r
  pub same_point : (n : ℕ) → point_of d n s ≡ point_of d n r
  pub same_points : points_of d s ≡ points_of d r
  pub same_holders : (n at : ℕ) → holders d n at s ≡ holders d n at r
  pub same_eligible : (k : Kind) (at : ℕ) → eligible d k at s ≡ eligible d k at r

-- the vehicle of a callsign, where division d holds it, or the loan that it lends it by
pub record SeesVehicle (d : ℕ) (c : Callsign) (s r : Room) : Type 0 where
  pub same_held : held d c s ≡ held d c r
  pub same_lent : lent d c s ≡ lent d c r

-- the points, and the vehicles that hold them
pub record SeesCover (d : ℕ) (s r : Room) : Type 0 where
  pub same_point : (n : ℕ) → point_of d n s ≡ point_of d n r
  pub same_holders : (n at : ℕ) → holders d n at s ≡ holders d n at r

-- the division's incident of a number, with its turns
pub record SeesIncident (d n : ℕ) (s r : Room) : Type 0 where
  pub same_incident : incident_of d n s ≡ incident_of d n r
  pub same_served : (k : Kind) → served d n k s ≡ served d n k r
  pub same_attended : is_attended d n s ≡ is_attended d n r

-- what an ask reads of division d, by the table of the rows that it reads: it is decided by this
pub record SeesAsked (d : ℕ) (a : Ask) (at : ℕ) (s r : Room) : Type 0 where
  pub same_plan : s.plan ≡ r.plan
  -- rows that it names
  pub vehicle : (c : Callsign) → reads_vehicle a c ≡ true → reads_loan a c ≡ true →
      SeesVehicle d c s r
  pub same_borrowed : (c : Callsign) → reads_loan a c ≡ true → borrowed d c s ≡ borrowed d c r
  pub same_offered_by : (c : Callsign) → reads_offer a c ≡ true →
      offered_by d c s ≡ offered_by d c r
  pub same_offered_to : (c : Callsign) → reads_offer a c ≡ true →
      offered_to d c s ≡ offered_to d c r
  pub same_point : (n : ℕ) → reads_point a n ≡ true → point_of d n s ≡ point_of d n r
  pub same_last_turn : (c : Callsign) (v : Vehicle) → a ≡ ask.StandDown c → held d c r ≡ Some v →
      open_turn d c s ≡ open_turn d c r
  pub cleared_alike : (c : Callsign) (n : ℕ) → a ≡ ask.Clear c n → clear d c n s ≡ clear d c n r
  pub same_reports : (c : Callsign) → a ≡ ask.Reports c → reports_of d c s ≡ reports_of d c r
  -- incidents that it names
  pub incident : (n : ℕ) → names_incident a n ≡ true → SeesIncident d n s r
  pub same_calls : (n : ℕ) → names_incident a n ≡ true → reads_calls a ≡ true →
      calls_of d n s ≡ calls_of d n r
  pub same_turns : (n : ℕ) → a ≡ ask.Incident n → turns_of d n s ≡ turns_of d n r
  -- the active incidents, those of some seconds, and the queue
  pub same_active : reads_active a ≡ true → active_incidents d s ≡ active_incidents d r
  pub active : reads_active a ≡ true → (i : Incident) → Among i (active_incidents d r) →
      SeesIncident d i.number s r
  pub same_active_calls : reads_active a ≡ true → reads_calls a ≡ true → (i : Incident) →
      Among i (active_incidents d r) → calls_of d i.number s ≡ calls_of d i.number r
  pub same_opened : (from to : ℤ) → a ≡ ask.Times from to →
      incidents_opened d from to s ≡ incidents_opened d from to r
  pub same_classes : (from to : ℤ) → a ≡ ask.ClassTimes from to →
      incidents_opened d from to s ≡ incidents_opened d from to r
  pub same_found : (from to : ℤ) (x : Search) → a ≡ ask.Closed from to x →
      incidents_found d from to x.sought s ≡ incidents_found d from to x.sought r
  pub same_entries : a ≡ ask.Queue → entries d at s ≡ entries d at r
  -- tables that it reads whole
  pub same_all_held : ((k : Callsign) → reads_vehicle a k ≡ true) → all_held d s ≡ all_held d r
  pub same_assignment : reads_assignments a ≡ true → (c : Callsign) →
      assignment_of d c s ≡ assignment_of d c r
  pub same_eligible : ((k : Callsign) → reads_vehicle a k ≡ true) → (k : Kind) →
      eligible d k at s ≡ eligible d k at r
  pub cover : ((k : Callsign) → reads_vehicle a k ≡ true) →
      ((n : ℕ) → reads_point a n ≡ true) → SeesCover d s r
  pub same_points : ((n : ℕ) → reads_point a n ≡ true) → points_of d s ≡ points_of d r
  pub same_loans : ((k : Callsign) → reads_loan a k ≡ true) → loans_of d s ≡ loans_of d r
  pub same_offers : ((k : Callsign) → reads_offer a k ≡ true) → offers_of d s ≡ offers_of d r

-- the share of vehicles, beside whatever incidents, calls, turns and reports
abbrev pub beside : ℕ → Room → List Incident → List Call → List Turn → List Report → Room
beside d r is cs ts xs = record (own d r) { incidents = is; calls = cs; turns = ts; reports = xs }

module _ (d : ℕ) (r : Room) (in_order : IsInOrder r) (is : List Incident) (cs : List Call)
    (ts : List Turn) (xs : List Report) where
  held_beside : (c : Callsign) → held d c (beside d r is cs ts xs) ≡ held d c r
  unfolding held
  held_beside c =
      ap (keep (λ v. v.holder == d))
      (row_filter callsign_cmp vehicle_key callsigns_total (owns_vehicle d) r.vehicles c in_order.vehicles)
      ∙ keep_keep (λ v. v.holder == d) (owns_vehicle d) _ (λ x h. h)

  all_held_beside : all_held d (beside d r is cs ts xs) ≡ all_held d r
  unfolding all_held
  all_held_beside = filter_filter _ (owns_vehicle d) r.vehicles (λ x h. h)

  lent_beside : (c : Callsign) → lent d c (beside d r is cs ts xs) ≡ lent d c r
  unfolding lent
  lent_beside c =
      ap (keep (λ l. l.lender == d))
      (row_filter callsign_cmp loan_key callsigns_total (owns_loan d) r.loans c in_order.loans)
      ∙ keep_keep (λ l. l.lender == d) (owns_loan d) _ (λ x h. or_left _ _ h)

  borrowed_beside : (c : Callsign) → borrowed d c (beside d r is cs ts xs) ≡ borrowed d c r
  unfolding borrowed
  borrowed_beside c =
      ap (keep (λ l. l.borrower == d))
      (row_filter callsign_cmp loan_key callsigns_total (owns_loan d) r.loans c in_order.loans)
      ∙ keep_keep (λ l. l.borrower == d) (owns_loan d) _ (λ x h. or_right _ _ h)

  loans_beside : loans_of d (beside d r is cs ts xs) ≡ loans_of d r
  unfolding loans_of
  loans_beside = filter_filter _ (owns_loan d) r.loans (λ x h. h)

  offered_by_beside : (c : Callsign) → offered_by d c (beside d r is cs ts xs) ≡ offered_by d c r
  unfolding offered_by
  offered_by_beside c =
      ap (keep (λ o. o.lender == d))
      (row_filter callsign_cmp offer_key callsigns_total (owns_offer d) r.offers c in_order.offers)
      ∙ keep_keep (λ o. o.lender == d) (owns_offer d) _ (λ x h. or_left _ _ h)

  offered_to_beside : (c : Callsign) → offered_to d c (beside d r is cs ts xs) ≡ offered_to d c r
  unfolding offered_to
  offered_to_beside c =
      ap (keep (λ o. o.borrower == d))
      (row_filter callsign_cmp offer_key callsigns_total (owns_offer d) r.offers c in_order.offers)
      ∙ keep_keep (λ o. o.borrower == d) (owns_offer d) _ (λ x h. or_right _ _ h)

  offers_beside : offers_of d (beside d r is cs ts xs) ≡ offers_of d r
  unfolding offers_of
  offers_beside = filter_filter _ (owns_offer d) r.offers (λ x h. h)

  assignment_beside : (c : Callsign)
      → assignment_of d c (beside d r is cs ts xs) ≡ assignment_of d c r
  unfolding assignment_of
  assignment_beside c =
      ap (keep (λ a. a.division == d))
      (row_filter callsign_cmp assignment_key callsigns_total (owns_assignment d) r.assignments c in_order.assignments)
      ∙ keep_keep (λ a. a.division == d) (owns_assignment d) _ (λ x h. h)

  point_beside : (n : ℕ) → point_of d n (beside d r is cs ts xs) ≡ point_of d n r
  unfolding point_of
  point_beside n =
      row_filter pair_cmp point_key pairs_total (owns_point d) r.points (d, n) in_order.points
      ∙ keep_row pair_cmp point_key (owns_point d) r.points (d, n)
      (λ x h. eq-eqb x.division d (sym (ap (λ (p : ℕ × ℕ). p.0) (exact_pair (d, n) (point_key x) (is_equal _ h)))))

  points_beside : points_of d (beside d r is cs ts xs) ≡ points_of d r
  unfolding points_of
  points_beside = filter_filter _ (owns_point d) r.points (λ x h. h)

  holders_beside : (n at : ℕ) → holders d n at (beside d r is cs ts xs) ≡ holders d n at r
  unfolding holders
  holders_beside n at = filter_filter _ (owns_vehicle d) r.vehicles (λ x h. left_true _ _ (left_true _ _ h))

  eligible_beside : (k : Kind) (at : ℕ)
      → eligible d k at (beside d r is cs ts xs) ≡ eligible d k at r
  eligible_beside k at = filter_filter _ (owns_vehicle d) r.vehicles (λ x h. left_true _ _ (left_true _ _ h))

  pub sees_beside : SeesVehicles d (beside d r is cs ts xs) r
  sees_beside = record {
    same_plan = refl;
    same_held = held_beside;
    same_all_held = all_held_beside;
    same_lent = lent_beside;
    same_borrowed = borrowed_beside;
    same_loans = loans_beside;
    same_offered_by = offered_by_beside;
    same_offered_to = offered_to_beside;
    same_offers = offers_beside;
    same_assignment = assignment_beside;
    same_point = point_beside;
    same_points = points_beside;
    same_holders = holders_beside;
    same_eligible = eligible_beside;
  }
