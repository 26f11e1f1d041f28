-- What the search reports of the rows holds of them.
use Rattle.std.specs.Bool.{Decides}
use Rattle.std.specs.List.{list_all}
use Rattle.std.specs.Prelude.{is_none, is_some, nat_le, not, ◌&&◌, ◌==◌, ◌||◌}
use Rattle.std.proofs.Common.{Bool, List, None, Option, Some, [], ap, arith, eq-eqb, false, inl}
use Rattle.std.proofs.Common.{inr, refl, subst, sym, true, ℕ, ◌<◌, ◌∷◌, ◌≡◌}
use Rattle.std.proofs.lemmas.Bool.Decides.{Decides-and, Decides-or, nat_tests}
use Rattle.std.proofs.lemmas.Bool.{false≢true, or_parts}
use Rattle.room_place.specs.Choice.{Among}
use Rattle.room_place.specs.Plans.{Layout, has_division}
use Rattle.room_place.specs.declared.plans.Area.{Area}
use Rattle.room_types.specs.Codes.{is_busy, is_merged}
use Rattle.room_types.specs.Slices.{assignment_at, incident_at, vehicle_at}
use Rattle.room_types.specs.Texts.{Callsign}
use Rattle.room_types.specs.declared.slices.DivisionRows.{DivisionRows}
use Rattle.room_types.specs.declared.tables.Assignment.{Assignment}
use Rattle.room_types.specs.declared.tables.Call.{Call}
use Rattle.room_types.specs.declared.tables.Incident.{Incident}
use Rattle.room_types.specs.declared.tables.Loan.{Loan}
use Rattle.room_types.specs.declared.tables.Offer.{Offer}
use Rattle.room_types.specs.declared.tables.Report.{Report}
use Rattle.room_types.specs.declared.tables.Turn.{Turn}
use Rattle.room_types.specs.declared.tables.Vehicle.{Vehicle}
use Rattle.room_types.proofs.SentLaws.{itself}
use Rattle.room_model.specs.Room.{IsInOrder, Room}
use Rattle.room_model.specs.RoomSlices.{room_of}
use Rattle.room_model.specs.RoomAgreements.{OpenAgrees}
use Rattle.room_model.proofs.Tests.{or_right}
use Rattle.room_store_check_rows.specs.FirstFaults.{assignment_fault, call_fault}
use Rattle.room_store_check_rows.specs.FirstFaults.{first_disagreement, first_of, loan_fault}
use Rattle.room_store_check_rows.specs.FirstFaults.{offer_fault, open_fault, opening_fault}
use Rattle.room_store_check_rows.specs.FirstFaults.{order_fault, report_fault, rows_disagreement}
use Rattle.room_store_check_rows.specs.FirstFaults.{turn_fault, unless, vehicle_fault}
use Rattle.room_store_check_rows.specs.RowTests.{assignment_fits, call_fits, has_last_report}
use Rattle.room_store_check_rows.specs.RowTests.{has_open_turn, has_post, has_row, has_vehicle}
use Rattle.room_store_check_rows.specs.RowTests.{incident_fits, is_as_assigned, is_in_turn}
use Rattle.room_store_check_rows.specs.RowTests.{is_numbered, is_of, is_open, is_opened, is_over}
use Rattle.room_store_check_rows.specs.RowTests.{loan_at, loan_fits, offer_at, offer_fits}
use Rattle.room_store_check_rows.specs.RowTests.{open_fits, report_fits, rows_fit, turn_fits}
use Rattle.room_store_check_rows.specs.RowTests.{vehicle_fits}
use Rattle.room_store_check_rows.specs.Disagreements.{IsCallFault, IsOddly, IsOfNone, IsOpen}
use Rattle.room_store_check_rows.specs.Disagreements.{Detects, IsReportFault, IsTurnFault}
use Rattle.room_store_check_rows.specs.Disagreements.{IsVehicleFault, IsWrong, WasGiven}
use Rattle.room_store_check_rows.specs.declared.disagreements.CallFault.TheVariants as call
use Rattle.room_store_check_rows.specs.declared.disagreements.Disagreement.TheVariants as wrong
use Rattle.room_store_check_rows.specs.declared.disagreements.Disagreement.{Disagreement}
use Rattle.room_store_check_rows.specs.declared.disagreements.IncidentFault.TheVariants as incident
use Rattle.room_store_check_rows.specs.declared.disagreements.ReportFault.TheVariants as report
use Rattle.room_store_check_rows.specs.declared.disagreements.TurnFault.TheVariants as turn
use Rattle.room_store_check_rows.specs.declared.disagreements.VehicleFault.TheVariants as vehicle
use Rattle.room_store_check_rows.proofs.AtEachKey.{opened_decides}
use Rattle.room_store_check_rows.proofs.FaultLaws.{Finds, find_first, find_like, find_more, find_or}
use Rattle.room_store_check_rows.proofs.FaultLaws.{find_unless, detects, not_so, regrouped}
use Rattle.room_store_check_rows.proofs.RoomLaws.{in_range, well_formed_decides}
use Rattle.room_store_check_rows.proofs.RowLaws.{as_assigned_decides, assignment_decides, at_most}
use Rattle.room_store_check_rows.proofs.RowLaws.{incident_decides, loan_decides, none_sent}
use Rattle.room_store_check_rows.proofs.RowLaws.{numbered_decides, offer_decides, open_decides}
use Rattle.room_store_check_rows.proofs.RowLaws.{over_decides, post_decides, active_decides}

pub absent : {X : Type 0} (o : Option X) → is_some o ≡ false → o ≡ None
absent None e = refl
absent (Some x) e = absurd (false≢true (sym e))

its_area : (a : Area) (areas : List Area) → Among a areas → has_division areas a.division ≡ true
its_area a [] there = absurd there
its_area a (x ∷ areas) (inl same) =
    ap (λ b. b || has_division areas a.division)
    (eq-eqb x.division a.division (ap (λ (y : Area). y.division) (sym same)))
its_area a (x ∷ areas) (inr there) = or_right (x.division == a.division) _ (its_area a areas there)

at_least : (m n : ℕ) → nat_le m n ≡ false → n < m
at_least m n e = grind (arith, nat_tests)

and_right : (a b : Bool) → a ≡ true → a && b ≡ false → b ≡ false
and_right true b h e = e
and_right false b h e = absurd (false≢true h)

unended : (ended : Option ℕ) → Decides (is_none ended) (ended ≡ None)
unended None = (λ e. refl, λ h. refl)
unended (Some at) = (λ e. absurd (false≢true e), λ h. cc)

twice_not : (b : Bool) → not b ≡ false → b ≡ true
twice_not true e = refl
twice_not false e = absurd (false≢true (sym e))

module _ (layout : Layout) (s : DivisionRows) where
  abbrev plan : List Area
  plan = layout.areas

  abbrev r : Room
  r = room_of plan s

  -- ---- a vehicle
  loan_found : (v : Vehicle) (o : Option Loan) → loan_at v.callsign s ≡ o
      → Finds (loan_fits v o) (IsVehicleFault r v) (loan_fault v o)
  loan_found v None e = find_unless _ _ _ (λ fails. (e, not_so _ (loan_decides v None) fails))
  loan_found v (Some l) e = find_unless _ _ _ (λ fails. (l, e, not_so _ (loan_decides v (Some l)) fails))

  offer_found : (v : Vehicle) (o : Option Offer) → offer_at v.callsign s ≡ o
      → Finds (offer_fits plan v o) (IsVehicleFault r v) (offer_fault plan v o)
  offer_found v None e = find_unless _ _ _ (λ fails. (e, not_so _ (offer_decides plan v None) fails))
  offer_found v (Some l) e = find_unless _ _ _ (λ fails. (l, e, not_so _ (offer_decides plan v (Some l)) fails))

  assignment_found : (v : Vehicle) (o : Option Assignment) → assignment_at v.callsign s ≡ o
      → Finds (assignment_fits v o) (IsVehicleFault r v) (assignment_fault v o)
  assignment_found v None e = find_unless _ _ _ (λ fails. (e, not_so _ (assignment_decides v None) fails))
  assignment_found v (Some a) e = find_unless _ _ _ (λ fails. (a, e, not_so _ (assignment_decides v (Some a)) fails))

  turn_decides : (t : Option Turn) → Decides (is_open t) (IsOpen t)
  turn_decides None = (λ e. false≢true e, λ h. absurd h)
  turn_decides (Some t) = unended t.ended

  no_turn : (v : Vehicle) → has_open_turn s v ≡ false → IsVehicleFault r v vehicle.NoTurn
  no_turn v fails =
      let parts = or_parts (not (is_busy v.status)) _ fails in
      (twice_not _ parts.0, not_so _ (Decides-and _ _ (at_most _ _) (turn_decides _)) parts.1)

  vehicle_found : (v : Vehicle) → Finds (vehicle_fits plan s v) (IsVehicleFault r v)
      (vehicle_fault plan s v)
  vehicle_found v = find_like _ (vehicle_fits plan s v) (simp regrouped)
      (find_or (find_or (find_or (find_or (find_or (find_or (find_or
      (find_unless (IsVehicleFault r v) (has_division plan v.home) vehicle.Home (λ fails. fails))
      (find_unless (IsVehicleFault r v) (has_division plan v.holder) vehicle.Holder (λ fails. fails)))
      (loan_found v _ refl))
      (offer_found v _ refl))
      (assignment_found v _ refl))
      (find_unless (IsVehicleFault r v) (has_open_turn s v) vehicle.NoTurn (no_turn v)))
      (find_unless (IsVehicleFault r v) (has_last_report s v) vehicle.NoReport
      (not_so _ (Decides-or _ _ (none_sent _) (itself _)))))
      (find_unless (IsVehicleFault r v) (has_post s v v.post) vehicle.Post (not_so _ (post_decides plan s v v.post))))

  -- ---- a turn
  odd : (v : Vehicle) (t : Turn) (ended : Option ℕ) → vehicle_at t.callsign s ≡ Some v
      → t.ended ≡ ended → open_fits v t ended ≡ false → IsOddly r t
  odd v t ended there is fails =
      let differs : ¬ OpenAgrees v t.order t t.ended = subst (λ e. ¬ OpenAgrees v t.order t e) (sym is)
      (not_so _ (open_decides plan s v t ended) fails) in
      rw there differs

  open_found : (v : Vehicle) (t : Turn) (ended : Option ℕ) → vehicle_at t.callsign s ≡ Some v
      → t.ended ≡ ended → Finds (open_fits v t ended) (IsTurnFault r t) (open_fault v t ended)
  open_found v t None there is = find_unless (IsTurnFault r t) _ _ (λ fails. (is, odd v t None there is fails))
  open_found v t (Some at) there is =
      find_unless (IsTurnFault r t) _ _ (λ fails. (ap is_some is, odd v t (Some at) there is fails))

  not_given : (v : Vehicle) (t : Turn) → vehicle_at t.callsign s ≡ Some v
      → nat_le 1 t.order && nat_le t.order v.last_order ≡ false
      → ¬ WasGiven t.order (vehicle_at t.callsign s)
  not_given v t there fails h =
      let given : WasGiven t.order (Some v) = rw there at h in
      not_so _ (Decides-and _ _ (at_most _ _) (at_most _ _)) fails given

  order_found : (t : Turn) (v : Option Vehicle) → vehicle_at t.callsign s ≡ v
      → Finds (is_in_turn t v) (IsTurnFault r t) (order_fault t v)
  order_found t None none = record { reported = (refl, λ h. rw none at h) }
  order_found t (Some v) there =
      find_like _ (is_in_turn t (Some v))
      (regrouped (nat_le 1 t.order) (nat_le t.order v.last_order) (open_fits v t t.ended))
      (find_or
      (find_unless (IsTurnFault r t) (nat_le 1 t.order && nat_le t.order v.last_order) turn.Order (not_given v t there))
      (open_found v t t.ended there refl))

  turn_found : (t : Turn) → Finds (turn_fits plan s t) (IsTurnFault r t) (turn_fault plan s t)
  turn_found t = find_like _ (turn_fits plan s t) (simp regrouped)
      (find_or (find_or (find_or
      (find_unless (IsTurnFault r t) (has_division plan t.division) turn.Division (λ fails. fails))
      (order_found t _ refl))
      (find_unless (IsTurnFault r t) (is_as_assigned t (assignment_at t.callsign s)) turn.Incident
      (not_so _ (as_assigned_decides plan s t _))))
      (find_unless (IsTurnFault r t) (is_over s t) turn.NotActive
      (not_so _ (over_decides plan s t.ended _ (active_decides plan s _)))))

  -- ---- a report
  report_found : (x : Report) → Finds (report_fits plan s x) (IsReportFault r x)
      (report_fault plan s x)
  report_found x = find_or
      (find_unless (IsReportFault r x) (has_division plan x.division) report.Division (λ fails. fails))
      (find_unless (IsReportFault r x) (is_numbered x (vehicle_at x.callsign s)) report.Number
      (not_so _ (numbered_decides plan s x _)))

  -- ---- a call
  call_found : (c : Call) (i : Option Incident) → incident_at c.division c.incident s ≡ i
      → Finds (is_of c i) (IsCallFault r c) (call_fault c i)
  call_found c None none = record { reported = (refl, none) }
  call_found c (Some i) there = find_or
      (find_unless (IsCallFault r c) (not (is_merged i.state)) call.Merged (λ fails. (i, there, twice_not _ fails)))
      (find_unless (IsCallFault r c) (nat_le i.opened c.at) call.Early (λ fails. (i, there, at_least _ _ fails)))

  -- ---- all tables
  only_one : (P : Disagreement → Type 0) (c : Callsign) (what : Disagreement)
      → (IsOfNone r c → P what) → Finds (has_vehicle s c) P (unless (has_vehicle s c) what)
  only_one P c what holds = find_unless P _ _ (λ fails. holds (absent _ fails))

  no_row : (a : Area) → Among a plan → has_row s a ≡ false → IsWrong r (wrong.NoDivision a.division)
  no_row a there fails =
      let planned = its_area a plan there in
      (planned, absent _ (and_right _ _ (in_range layout a.division planned) fails))

  rows_found : Finds (rows_fit plan s) (IsWrong r) (rows_disagreement plan s)
  rows_found = find_like _ (rows_fit plan s) (simp regrouped)
      (find_or (find_or (find_or (find_or (find_or (find_or (find_or (find_or (find_or (find_or
      (find_first (IsWrong r) (has_row s) _ plan (λ a there. find_unless _ _ _ (no_row a there)))
      (find_first (IsWrong r) (λ d. has_division plan d.number) _ s.divisions
      (λ d there. find_unless _ _ _ (λ fails. record { row = d; there = there; named = refl; holds = fails }))))
      (find_first (IsWrong r) (λ p. has_division plan p.division) _ s.points
      (λ p there. find_unless _ _ _ (λ fails. record { row = p; there = there; named = refl; holds = fails }))))
      (find_first (IsWrong r) (vehicle_fits plan s) _ s.vehicles
      (λ v there.
      find_more (IsVehicleFault r v) _ _ _ _
      (λ fault holds. record { row = v; there = there; named = refl; holds = (refl, holds) }) (vehicle_found v))))
      (find_first (IsWrong r) (λ l. has_vehicle s l.callsign) _ s.loans
      (λ l there. only_one _ l.callsign _ (λ none. record { row = l; there = there; named = refl; holds = none }))))
      (find_first (IsWrong r) (λ o. has_vehicle s o.callsign) _ s.offers
      (λ o there. only_one _ o.callsign _ (λ none. record { row = o; there = there; named = refl; holds = none }))))
      (find_first (IsWrong r) (λ a. has_vehicle s a.callsign) _ s.assignments
      (λ a there. only_one _ a.callsign _ (λ none. record { row = a; there = there; named = refl; holds = none }))))
      (find_first (IsWrong r) (turn_fits plan s) _ s.turns (λ t there.
      find_more (IsTurnFault r t) _ _ _ _
      (λ fault holds. record { row = t; there = there; named = refl; holds = holds }) (turn_found t))))
      (find_first (IsWrong r) (report_fits plan s) _ s.reports
      (λ x there.
      find_more (IsReportFault r x) _ _ _ _
      (λ fault holds. record { row = x; there = there; named = refl; holds = holds }) (report_found x))))
      (find_first (IsWrong r) (call_fits s) _ s.calls (λ c there.
      find_more (IsCallFault r c) _ _ _ _
      (λ fault holds. record { row = c; there = there; named = refl; holds = holds }) (call_found c _ refl))))
      (find_first (IsWrong r) (incident_fits s) _ s.incidents
      (λ i there.
      find_unless _ _ _
      (λ fails. record { row = i; there = there; named = refl; holds = not_so _ (incident_decides plan s i) fails }))))

  opening_found : IsInOrder r → Finds (list_all (is_opened s) s.incidents) (IsWrong r)
      (first_of (opening_fault s) s.incidents)
  opening_found o =
      find_first (IsWrong r) (is_opened s) (opening_fault s) s.incidents
      (λ i there.
      find_unless _ _ _
      (λ fails. record { row = i; there = there; named = refl; holds = not_so _ (opened_decides plan s o i) fails }))

  -- what the search finds of rows in order is reported of their room
  pub search_detects : IsInOrder r → Detects r (first_disagreement plan s)
  search_detects o = detects r _ _ (well_formed_decides layout s o) (find_or rows_found (opening_found o))
