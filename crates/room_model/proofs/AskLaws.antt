-- A desk decides alike in rooms that agree on what it asks.
use Rattle.std.proofs.Common.{ap, eq-eqb, subst, sym, ◌∙◌}
use Rattle.std.specs.Ordering.{is_eq, ordering_reverse}
use Rattle.std.specs.Prelude.{Bool, List, None, Option, Some, [], is_some, length, map, nat_le, not}
use Rattle.std.specs.Prelude.{option_map, refl, true, ℕ, ℤ, ◌&&◌, ◌++◌, ◌-◌, ◌==◌, ◌∷◌, ◌≡◌}
use Rattle.std.specs.declared.cmp.Ordering.{Ordering}
use Rattle.std.specs.declared.cmp.Ordering.TheVariants.{Equal, Greater, Less}
use Rattle.room_place.specs.Choice.{Among, chosen}
use Rattle.room_place.specs.declared.places.Place.{Place}
use Rattle.room_types.specs.Keys.{callsign_cmp, incident_key, pair_cmp, same_callsign}
use Rattle.room_types.specs.KeyLemmas.{callsigns_total, exact_pair, pairs_total}
use Rattle.room_types.specs.declared.answers.PointLine.{PointLine}
use Rattle.room_types.specs.declared.answers.VehicleLine.{VehicleLine}
use Rattle.room_types.specs.declared.asks.Ask.{Ask}
use Rattle.room_types.specs.declared.asks.Search.{Search}
use Rattle.room_types.specs.declared.codes.Kind.{Kind}
use Rattle.room_types.specs.declared.codes.Kind.TheVariants.{Ambulance, Car, Support}
use Rattle.room_types.specs.declared.needs.Counts.{Counts}
use Rattle.room_types.specs.declared.tables.Call.{Call}
use Rattle.room_types.specs.declared.tables.Incident.{Incident}
use Rattle.room_types.specs.declared.tables.Loan.{Loan}
use Rattle.room_types.specs.declared.tables.Point.{Point}
use Rattle.room_types.specs.declared.tables.Vehicle.{Vehicle}
use Rattle.room_types.specs.Texts.{Callsign}
use Rattle.room_model.proofs.Sights.{SeesAsked, SeesCover, SeesIncident, SeesVehicle}
use Rattle.room_model.proofs.Tests.{map_among, or_left, or_right, row_key}
use Rattle.room_types.specs.Codes.{is_active, is_free}
use Rattle.room_types.specs.Needs.{need_of, needs_by}
use Rattle.room_model.specs.ClosedIncidents.{from_number, incidents_found, page_of, show_closed}
use Rattle.room_model.specs.DayTimes.{class_line, show_class_times, show_times, times_line}
use Rattle.room_model.specs.DayTimes.{times_of}
use Rattle.room_model.specs.Decisions.{Verdict, refuse_if, show, where_active, where_held}
use Rattle.room_model.specs.Incidents.{change_needs, close, close_active, history_of, incident_line}
use Rattle.room_model.specs.Incidents.{lacking, merge, merge_of, needs_changed, show_incident}
use Rattle.room_model.specs.Incidents.{show_incidents}
use Rattle.room_model.specs.Loans.{accept, accepted, decline, declined, give_back, given_back, lend}
use Rattle.room_model.specs.Loans.{offered, recall, recall_lent, show_loans, show_offers, withdraw}
use Rattle.room_model.specs.Loans.{withdrawn}
use Rattle.room_model.specs.Points.{breaks_post, is_short, point_line, show_points}
use Rattle.room_model.specs.Proposals.{all_proposed, candidates, eligible, is_before, proposal_of}
use Rattle.room_model.specs.Proposals.{propose, proposed}
use Rattle.room_model.specs.Queries.{active_incidents, all_held, assignment_of, borrowed, calls_of}
use Rattle.room_model.specs.Queries.{held, holders, incident_of, incidents_opened, is_attended}
use Rattle.room_model.specs.Queries.{is_eligible, lent, loans_of, offered_by, offered_to, offers_of}
use Rattle.room_model.specs.Queries.{open_turn, point_of, points_of, report_of, reports_of, served}
use Rattle.room_model.specs.Queries.{turns_of}
use Rattle.room_model.specs.Queue.{clear, clear_found, entries, ordered_from, show_queue}
use Rattle.room_model.specs.Queue.{show_reports}
use Rattle.room_model.specs.Room.{Room}
use Rattle.room_model.specs.Step.{single_asks}
use Rattle.room_model.specs.Vehicles.{duty, mobilise, mobilise_held, off, posted, show_vehicles}
use Rattle.room_model.specs.Vehicles.{stand_down, stand_down_held, standby, stands_by, vehicle_line}
use Rattle.room_model.specs.WorkingRows.{reads_point}
use Rattle.room_types.specs.declared.answers.Answer.TheVariants as answer
use Rattle.room_types.specs.declared.asks.Ask.TheVariants as ask
use Rattle.room_types.specs.declared.refusal_statuses.Refusal.TheVariants as refusal

itself : (n : ℕ) → n == n ≡ true
itself n = eq-eqb n n refl

same_equal : (o : Ordering) → o ≡ ordering_reverse o → is_eq o ≡ true
same_equal Less h = cc
same_equal Equal h = refl
same_equal Greater h = cc

pub same_self : (c : Callsign) → same_callsign c c ≡ true
same_self c = same_equal (callsign_cmp c c) (callsigns_total.antisymm c c)

-- what is decided of a vehicle, where it is there
held_by : (o : Option Vehicle) (l : Option Loan) (f g : Vehicle → Verdict)
    → ((v : Vehicle) → o ≡ Some v → f v ≡ g v) → where_held o l f ≡ where_held o l g
held_by None l f g h = refl
held_by (Some v) l f g h = h v refl

-- a point is looked up only where one is named
stands_alike : (p : Option ℕ) (has had : ℕ → Bool) (at : ℕ) (v : Vehicle)
    → ((n : ℕ) → p ≡ Some n → has n ≡ had n) → stands_by p has at v ≡ stands_by p had at v
stands_alike None has had at v h = refl
stands_alike (Some n) has had at v h =
    ap (λ (b : Bool).
    refuse_if (not (is_free v.status)) refusal.WrongStatus
    (refuse_if (nat_le v.shift_end at) refusal.ShiftOver (refuse_if (not b) refusal.NoSuchPoint (posted v (Some n)))))
    (h n refl)

module _ (d : ℕ) (s r : Room) where
  -- ---- vehicles
  where_same : (c : Callsign) (f : Vehicle → Verdict) → SeesVehicle d c s r
      → where_held (held d c s) (lent d c s) f ≡ where_held (held d c r) (lent d c r) f
  where_same c f sees =
      ap (λ v. where_held v (lent d c s) f) sees.same_held ∙ ap (λ l. where_held (held d c r) l f) sees.same_lent

  pub vehicles_same : all_held d s ≡ all_held d r
      → ((c : Callsign) → assignment_of d c s ≡ assignment_of d c r)
      → show_vehicles d s ≡ show_vehicles d r
  unfolding show_vehicles
  vehicles_same all assigned =
      ap (λ vs. show (answer.Vehicles (map (vehicle_line d s) vs))) all
      ∙ ap (λ (f : Vehicle → VehicleLine). show (answer.Vehicles (map f (all_held d r))))
      (λ i v. record (vehicle_line d r v) { incident = option_map (λ a. a.incident) (assigned v.callsign i) })

  pub mobilise_same : (n : ℕ) (c : Callsign) (at : ℕ) → SeesVehicle d c s r → SeesIncident d n s r
      → mobilise d n c at s ≡ mobilise d n c at r
  unfolding mobilise
  mobilise_same n c at sees i =
      ap (λ x. where_active x (mobilise_held d (held d c s) (lent d c s) at (λ k. served d n k s))) i.same_incident
      ∙ ap (λ x. where_active (incident_of d n r) (mobilise_held d x (lent d c s) at (λ k. served d n k s)))
      sees.same_held
      ∙ ap (λ x. where_active (incident_of d n r) (mobilise_held d (held d c r) x at (λ k. served d n k s)))
      sees.same_lent
      ∙ ap (λ (x : Kind → ℕ). where_active (incident_of d n r) (mobilise_held d (held d c r) (lent d c r) at x))
      (λ j k. i.same_served k j)

  -- the turn is looked up only where the vehicle is held
  pub stand_down_same : (c : Callsign) (at : ℕ) → SeesVehicle d c s r
      → ((v : Vehicle) → held d c r ≡ Some v → open_turn d c s ≡ open_turn d c r)
      → stand_down d c at s ≡ stand_down d c at r
  unfolding stand_down
  stand_down_same c at sees t =
      where_same c _ sees ∙ held_by (held d c r) (lent d c r) _ _ (λ v e. ap (λ x. stand_down_held at x v) (t v e))

  pub standby_same : (c : Callsign) (p : Option ℕ) (at : ℕ) → SeesVehicle d c s r
      → ((n : ℕ) → p ≡ Some n → point_of d n s ≡ point_of d n r)
      → standby d c p at s ≡ standby d c p at r
  unfolding standby
  standby_same c p at sees h =
      where_same c _ sees
      ∙ held_by (held d c r) (lent d c r) _ _ (λ v e.
      stands_alike p (λ n. is_some (point_of d n s)) (λ n. is_some (point_of d n r)) at v
      (λ n f. ap (λ o. is_some o) (h n f)))

  pub duty_same : (c : Callsign) (place : Place) (until at : ℕ) → SeesVehicle d c s r
      → duty d c place until at s ≡ duty d c place until at r
  unfolding duty
  duty_same c place until at sees = where_same c _ sees

  pub off_same : (c : Callsign) → SeesVehicle d c s r → off d c s ≡ off d c r
  unfolding off
  off_same c sees = where_same c _ sees

  -- ---- offers and loans
  pub lend_same : (c : Callsign) (to until at : ℕ) → SeesVehicle d c s r → s.plan ≡ r.plan
      → lend d c to until at s ≡ lend d c to until at r
  unfolding lend
  lend_same c to until at sees planned =
      where_same c _ sees ∙ ap (λ plan. where_held (held d c r) (lent d c r) (offered plan d to until at)) planned

  pub withdraw_same : (c : Callsign) → SeesVehicle d c s r → offered_by d c s ≡ offered_by d c r
      → withdraw d c s ≡ withdraw d c r
  unfolding withdraw
  withdraw_same c sees offered =
      where_same c _ sees ∙ ap (λ o. where_held (held d c r) (lent d c r) (withdrawn o)) offered

  pub decline_same : (c : Callsign) → offered_to d c s ≡ offered_to d c r
      → decline d c s ≡ decline d c r
  unfolding decline
  decline_same c offered = ap declined offered

  pub accept_same : (c : Callsign) (at : ℕ) → offered_to d c s ≡ offered_to d c r
      → accept d c at s ≡ accept d c at r
  unfolding accept
  accept_same c at offered = ap (λ o. accepted o at) offered

  pub recall_same : (c : Callsign) → SeesVehicle d c s r → recall d c s ≡ recall d c r
  unfolding recall
  recall_same c sees =
      ap (λ l. recall_lent l (held d c s)) sees.same_lent ∙ ap (recall_lent (lent d c r)) sees.same_held

  pub give_back_same : (c : Callsign) → SeesVehicle d c s r → borrowed d c s ≡ borrowed d c r
      → give_back d c s ≡ give_back d c r
  unfolding give_back
  give_back_same c sees borrows =
      where_same c _ sees ∙ ap (λ l. where_held (held d c r) (lent d c r) (given_back d l)) borrows

  pub loans_same : loans_of d s ≡ loans_of d r → show_loans d s ≡ show_loans d r
  unfolding show_loans
  loans_same h = ap (λ ls. show (answer.Loans ls)) h

  pub offers_same : offers_of d s ≡ offers_of d r → show_offers d s ≡ show_offers d r
  unfolding show_offers
  offers_same h = ap (λ os. show (answer.Offers os)) h

  -- ---- points
  pub points_same : (at : ℕ) → points_of d s ≡ points_of d r
      → ((n : ℕ) → holders d n at s ≡ holders d n at r) → show_points d at s ≡ show_points d at r
  unfolding show_points
  points_same at all hold =
      ap (λ ps. show (answer.Points (map (point_line d at s) ps))) all
      ∙ ap (λ (f : Point → PointLine). show (answer.Points (map f (points_of d r))))
      (λ i p. record (point_line d at r p) { held = length (hold p.number i) })

  -- ---- incidents
  pub needs_same : (n : ℕ) (needs : Counts) → SeesIncident d n s r
      → change_needs d n needs s ≡ change_needs d n needs r
  unfolding change_needs
  needs_same n needs i =
      ap (λ x. where_active x (needs_changed needs (λ k. served d n k s))) i.same_incident
      ∙ ap (λ (x : Kind → ℕ). where_active (incident_of d n r) (needs_changed needs x)) (λ j k. i.same_served k j)

  pub merge_same : (n m : ℕ) → SeesIncident d n s r → calls_of d n s ≡ calls_of d n r
      → incident_of d m s ≡ incident_of d m r → merge d n m s ≡ merge d n m r
  unfolding merge
  merge_same n m i calls j =
      ap (λ x. merge_of x (incident_of d m s) (is_attended d n s) (calls_of d n s)) i.same_incident
      ∙ ap (λ x. merge_of (incident_of d n r) x (is_attended d n s) (calls_of d n s)) j
      ∙ ap (λ x. merge_of (incident_of d n r) (incident_of d m r) x (calls_of d n s)) i.same_attended
      ∙ ap (merge_of (incident_of d n r) (incident_of d m r) (is_attended d n r)) calls

  pub close_same : (n : ℕ) → SeesIncident d n s r → close d n s ≡ close d n r
  unfolding close
  close_same n i =
      ap (λ x. where_active x (close_active (is_attended d n s))) i.same_incident
      ∙ ap (λ x. where_active (incident_of d n r) (close_active x)) i.same_attended

  pub incident_same : (n : ℕ) → SeesIncident d n s r → calls_of d n s ≡ calls_of d n r
      → turns_of d n s ≡ turns_of d n r → show_incident d n s ≡ show_incident d n r
  unfolding show_incident
  incident_same n i calls turns j =
      history_of (i.same_incident j)
      (record { ambulances = i.same_served Ambulance j; cars = i.same_served Car j; support = i.same_served Support j })
      (calls j) (turns j)

  -- an incident's line, from its calls and turns
  line_same : (i : Incident) → SeesIncident d i.number s r
      → calls_of d i.number s ≡ calls_of d i.number r → incident_line d s i ≡ incident_line d r i
  line_same i h calls =
      ap (λ (cs : List Call). record (incident_line d s i) { calls = length cs }) calls
      ∙ ap (λ (f : Kind → ℕ). record (incident_line d r i) { lack = needs_by (λ k. need_of i.needs k - f k) })
      (λ j k. h.same_served k j)

  pub incidents_same : active_incidents d s ≡ active_incidents d r
      → ((i : Incident) → Among i (active_incidents d r) → SeesIncident d i.number s r)
      → ((i : Incident) → Among i (active_incidents d r)
      → calls_of d i.number s ≡ calls_of d i.number r) → show_incidents d s ≡ show_incidents d r
  unfolding show_incidents
  incidents_same a h calls =
      ap (λ is. show (answer.Incidents (map (incident_line d s) is))) a
      ∙ ap (λ ls. show (answer.Incidents ls)) (map_among (incident_line d s) (incident_line d r) (active_incidents d r)
      (λ i m. line_same i (h i m) (calls i m)))

  pub times_same : (from to : ℤ) → incidents_opened d from to s ≡ incidents_opened d from to r
      → show_times d from to s ≡ show_times d from to r
  unfolding show_times
  times_same from to h = ap (λ is. show (answer.Times (times_of from to (map times_line is)))) h

  classes_same : (from to : ℤ) → incidents_opened d from to s ≡ incidents_opened d from to r
      → show_class_times d from to s ≡ show_class_times d from to r
  unfolding show_class_times
  classes_same from to h =
      ap
      (λ is. show (answer.ClassTimes (record { from = from; to = to; lines = map (class_line is) (1 ∷ 2 ∷ 3 ∷ []) }))) h

  closed_same : (from to : ℤ) (x : Search)
      → incidents_found d from to x.sought s ≡ incidents_found d from to x.sought r
      → show_closed d from to x s ≡ show_closed d from to x r
  unfolding show_closed
  closed_same from to x h = ap (λ is. show (answer.Closed (page_of (from_number x.first is)))) h

  -- ---- proposals
  breaks_same : (at : ℕ) (p : Option ℕ) → SeesCover d s r
      → breaks_post d at s p ≡ breaks_post d at r p
  breaks_same at None sees = refl
  breaks_same at (Some n) sees =
      ap (λ vs. is_short (length vs) (point_of d n s)) (sees.same_holders n at)
      ∙ ap (is_short (length (holders d n at r))) (sees.same_point n)

  proposal_same : (i : Incident) (at : ℕ) (v : Vehicle) → SeesCover d s r
      → proposal_of d i at s v ≡ proposal_of d i at r v
  proposal_same i at v sees =
      ap (λ (b : Bool). record (proposal_of d i at r v) { breaks = is_eligible d at v && b })
      (breaks_same at v.post sees)

  candidates_same : (i : Incident) (k : Kind) (at : ℕ) → SeesCover d s r
      → eligible d k at s ≡ eligible d k at r → candidates d i k at s ≡ candidates d i k at r
  unfolding candidates
  candidates_same i k at sees able =
      ap (λ vs. map (proposal_of d i at s) vs) able
      ∙ map_among (proposal_of d i at s) (proposal_of d i at r) (eligible d k at r) (λ v m. proposal_same i at v sees)

  proposed_same : (i : Incident) (at : ℕ) (k : Kind) → SeesCover d s r
      → eligible d k at s ≡ eligible d k at r → served d i.number k s ≡ served d i.number k r
      → proposed d i at s k ≡ proposed d i at r k
  proposed_same i at k sees able h =
      ap (λ (n : ℕ). chosen is_before (need_of i.needs k - n) None (candidates d i k at s)) h
      ∙ ap (chosen is_before (lacking d i r k) None) (candidates_same i k at sees able)

  all_proposed_same : (i : Incident) (at : ℕ) → SeesCover d s r
      → ((k : Kind) → eligible d k at s ≡ eligible d k at r)
      → ((k : Kind) → served d i.number k s ≡ served d i.number k r)
      → all_proposed d i at s ≡ all_proposed d i at r
  all_proposed_same i at sees able h =
      ap (λ ps. ps ++ (proposed d i at s Car ++ proposed d i at s Support))
      (proposed_same i at Ambulance sees (able Ambulance) (h Ambulance))
      ∙ ap (λ ps. proposed d i at r Ambulance ++ (ps ++ proposed d i at s Support))
      (proposed_same i at Car sees (able Car) (h Car))
      ∙ ap (λ ps. proposed d i at r Ambulance ++ (proposed d i at r Car ++ ps))
      (proposed_same i at Support sees (able Support) (h Support))

  active_same : (o : Option Incident) (f g : Incident → Verdict)
      → ((i : Incident) → o ≡ Some i → f i ≡ g i) → where_active o f ≡ where_active o g
  active_same None f g h = refl
  active_same (Some i) f g h =
      ap (λ (x : Verdict). refuse_if (not (is_active i.state)) refusal.IncidentNotOpen x) (h i refl)

  -- an incident that was looked up has its number
  named : (n : ℕ) (i : Incident) → incident_of d n r ≡ Some i → i.number ≡ n
  unfolding incident_of
  named n i h =
      ap (λ (p : ℕ × ℕ). p.1) (sym (row_key pair_cmp incident_key pairs_total exact_pair r.incidents (d, n) i h))

  pub propose_same : (n at : ℕ) → SeesIncident d n s r → SeesCover d s r
      → ((k : Kind) → eligible d k at s ≡ eligible d k at r) → propose d n at s ≡ propose d n at r
  unfolding propose
  propose_same n at h sees able =
      ap (λ x. where_active x (λ i. show (answer.Proposals (all_proposed d i at s)))) h.same_incident
      ∙ active_same (incident_of d n r) _ _ (λ i e.
      ap (λ ps. show (answer.Proposals ps)) (all_proposed_same i at sees able
      (λ k. subst (λ m. served d m k s ≡ served d m k r) (sym (named n i e)) (h.same_served k))))

  -- ---- queue
  pub queue_same : (at : ℕ) → entries d at s ≡ entries d at r
      → show_queue d at s ≡ show_queue d at r
  unfolding show_queue
  queue_same at h = ap (λ es. show (answer.Queue (ordered_from [] es))) h

  pub clear_same : (c : Callsign) (n : ℕ) → report_of d c n s ≡ report_of d c n r
      → clear d c n s ≡ clear d c n r
  unfolding clear
  clear_same c n h = ap clear_found h

  reports_same : (c : Callsign) → reports_of d c s ≡ reports_of d c r
      → show_reports d c s ≡ show_reports d c r
  unfolding show_reports
  reports_same c h = ap (λ xs. show (answer.Reports xs)) h

  -- ---- whatever is asked
  by_callsign : (c : Callsign)
      → ((k : Callsign) → same_callsign c k ≡ true → same_callsign c k ≡ true → SeesVehicle d k s r)
      → SeesVehicle d c s r
  by_callsign c sees = sees c (same_self c) (same_self c)

  -- it is decided by what it reads
  pub asked_same : (a : Ask) (at : ℕ) → SeesAsked d a at s r
      → single_asks d a at s ≡ single_asks d a at r
  asked_same (ask.Call f) at sees = refl
  asked_same ask.Incidents at sees =
      incidents_same (sees.same_active refl) (sees.active refl) (sees.same_active_calls refl refl)
  asked_same (ask.Incident n) at sees =
      incident_same n (sees.incident n (itself n)) (sees.same_calls n (itself n) refl) (sees.same_turns n refl)
  asked_same (ask.Propose n) at sees =
      propose_same n at (sees.incident n (itself n)) (sees.cover (λ k. refl) (λ m. refl))
      (sees.same_eligible (λ k. refl))
  asked_same (ask.Mobilise n c) at sees =
      mobilise_same n c at (by_callsign c sees.vehicle) (sees.incident n (itself n))
  asked_same (ask.Needs n needs) at sees = needs_same n needs (sees.incident n (itself n))
  asked_same (ask.Merge n m) at sees =
      let first = or_left _ _ (itself n) in
      merge_same n m (sees.incident n first) (sees.same_calls n first refl)
      (sees.incident m (or_right (n == m) _ (itself m))).same_incident
  asked_same (ask.Close n) at sees = close_same n (sees.incident n (itself n))
  asked_same ask.Vehicles at sees = vehicles_same (sees.same_all_held (λ k. refl)) (sees.same_assignment refl)
  asked_same (ask.Moves ms) at sees = refl
  asked_same (ask.StandDown c) at sees =
      stand_down_same c at (by_callsign c sees.vehicle) (λ v e. sees.same_last_turn c v refl e)
  asked_same (ask.Standby c p) at sees =
      standby_same c p at (by_callsign c sees.vehicle)
      (λ n e. sees.same_point n (subst (λ q. reads_point (ask.Standby c q) n ≡ true) (sym e) (itself n)))
  asked_same (ask.Duty c place until) at sees =
      duty_same c place until at (by_callsign c sees.vehicle)
  asked_same (ask.Off c) at sees = off_same c (by_callsign c sees.vehicle)
  asked_same (ask.Lend c to until) at sees =
      lend_same c to until at (by_callsign c sees.vehicle) sees.same_plan
  asked_same (ask.Withdraw c) at sees =
      withdraw_same c (by_callsign c sees.vehicle) (sees.same_offered_by c (same_self c))
  asked_same (ask.Decline c) at sees = decline_same c (sees.same_offered_to c (same_self c))
  asked_same (ask.Accept c) at sees = accept_same c at (sees.same_offered_to c (same_self c))
  asked_same (ask.Recall c) at sees = recall_same c (by_callsign c sees.vehicle)
  asked_same (ask.GiveBack c) at sees =
      give_back_same c (by_callsign c sees.vehicle) (sees.same_borrowed c (same_self c))
  asked_same (ask.Reports c) at sees = reports_same c (sees.same_reports c refl)
  asked_same ask.Queue at sees = queue_same at (sees.same_entries refl)
  asked_same (ask.Clear c n) at sees = sees.cleared_alike c n refl
  asked_same ask.Points at sees =
      points_same at (sees.same_points (λ n. refl))
      (λ n. (sees.cover (λ k. refl) (λ m. refl)).same_holders n at)
  asked_same (ask.SetPoint n place cover) at sees = refl
  asked_same ask.Loans at sees = loans_same (sees.same_loans (λ k. refl))
  asked_same ask.Offers at sees = offers_same (sees.same_offers (λ k. refl))
  asked_same (ask.Times from to) at sees = times_same from to (sees.same_opened from to refl)
  asked_same (ask.ClassTimes from to) at sees = classes_same from to (sees.same_classes from to refl)
  asked_same (ask.Closed from to x) at sees = closed_same from to x (sees.same_found from to x refl)
  asked_same ask.Order at sees = refl
  asked_same ask.Job at sees = refl
  asked_same (ask.Report p) at sees = refl
  asked_same ask.Last at sees = refl
