-- What an ask of a desk asks of the room, it is answered alike by the rows that it reads.
use Rattle.std.proofs.Common.{ap, arith, eq-eqb, eqb-true, subst, sym, ◌∙◌}
use Rattle.std.proofs.lemmas.Bool.Decides.{nat_tests}
use Rattle.std.proofs.lemmas.Bool.{le-leb}
use Rattle.std.proofs.lemmas.Cmp.{tied_itself}
use Rattle.std.specs.Ordering.{is_eq}
use Rattle.std.specs.Prelude.{Bool, None, Option, Some, cond, false, filter, is_none, is_some}
use Rattle.std.specs.Prelude.{length, not, refl, true, ℕ, ◌&&◌, ◌==◌, ◌||◌, ◌≡◌, ◌≤◌}
use Rattle.room_place.specs.Choice.{Among, first}
use Rattle.room_types.proofs.KeyedLaws.{row_filter}
use Rattle.room_types.specs.Codes.{is_active}
use Rattle.room_types.specs.KeyedRows.{keep, row_at}
use Rattle.room_types.specs.Keys.{assignment_key, callsign_cmp, incident_key, loan_key}
use Rattle.room_types.specs.Keys.{numbered_cmp, offer_key, owns_assignment, owns_loan, owns_offer}
use Rattle.room_types.specs.Keys.{owns_point, owns_vehicle, pair_cmp, point_key, report_key}
use Rattle.room_types.specs.Keys.{same_callsign, turn_key, vehicle_key}
use Rattle.room_types.specs.KeyLemmas.{callsigns_total, exact_callsigns, exact_pair, numbered_total}
use Rattle.room_types.specs.KeyLemmas.{pairs_total}
use Rattle.room_types.specs.Slices.{IsActive}
use Rattle.room_types.specs.Texts.{Callsign}
use Rattle.room_types.specs.declared.asks.Ask.{Ask}
use Rattle.room_types.specs.declared.codes.Kind.{Kind}
use Rattle.room_types.specs.declared.tables.Incident.{Incident}
use Rattle.room_types.specs.declared.tables.Report.{Report}
use Rattle.room_types.specs.declared.tables.Turn.{Turn}
use Rattle.room_types.specs.declared.tables.Vehicle.{Vehicle}
use Rattle.room_model.proofs.Sights.{SeesCover, SeesIncident, SeesVehicle}
use Rattle.room_model.proofs.Tests.{among_filter, any_filter, both_true, filter_among}
use Rattle.room_model.proofs.Tests.{filter_filter, first_among, is_equal, keep_keep, keep_keep_row}
use Rattle.room_model.proofs.Tests.{keep_row, left_true, none_of, or_left, or_right, right_true}
use Rattle.room_model.proofs.Tests.{row_among, row_key}
use Rattle.room_model.specs.Proposals.{eligible}
use Rattle.room_model.specs.Queries.{active_incidents, all_held, assignment_of, borrowed, calls_of}
use Rattle.room_model.specs.Queries.{held, holders, incident_of, is_attended, is_given, lent}
use Rattle.room_model.specs.Queries.{loans_of, offered_by, offered_to, offers_of, open_turn}
use Rattle.room_model.specs.Queries.{point_of, points_of, report_of, served, turns_of}
use Rattle.room_model.specs.RoomAgreements.{IsWellFormed, OpenAgrees, TurnAgrees, TurnIsActive}
use Rattle.room_model.specs.Room.{Room}
use Rattle.room_model.specs.WorkingRows.{is_last_turn, names_incident, names_opening, names_turn}
use Rattle.room_model.specs.WorkingRows.{reads_active, reads_assignments, reads_calls}
use Rattle.room_model.specs.WorkingRows.{reads_incident, reads_loan, reads_number, reads_offer}
use Rattle.room_model.specs.WorkingRows.{reads_point, reads_report, reads_vehicle, working}
use Rattle.room_types.specs.declared.asks.Ask.TheVariants as ask

-- what is read of a callsign is read of a row that has it
of_its_name : (reads : Callsign → Bool) (c k : Callsign) → is_eq (callsign_cmp c k) ≡ true
    → reads c ≡ true → reads k ≡ true
of_its_name reads c k e h = subst (λ n. reads n ≡ true) (exact_callsigns c k (is_equal _ e)) h

kept_some : {X : Type 0} (p : X → Bool) (o : Option X) (x : X) → keep p o ≡ Some x → o ≡ Some x
kept_some p None x e = cc
kept_some p (Some y) x e =
    (elim (p y) as (λ (b : Bool). cond b (Some y) None ≡ Some x → Some y ≡ Some x) [ true ↦ λ f. f | false ↦ λ f. cc ])
    e

active_is : (o : Option Incident) → IsActive o → is_some (keep (λ i. is_active i.state) o) ≡ true
active_is None h = absurd h
active_is (Some i) h = ap (λ (b : Bool). is_some (cond b (Some i) None)) h

module _ (d : ℕ) (a : Ask) (at : ℕ) (r : Room) (formed : IsWellFormed r) where
  -- ---- one vehicle, and what stands beside it
  held_named : (c : Callsign) → reads_vehicle a c ≡ true → held d c (working d a at r) ≡ held d c r
  unfolding held
  held_named c h =
      ap (keep (λ v. v.holder == d)) (row_filter callsign_cmp vehicle_key callsigns_total
      (λ v. owns_vehicle d v && reads_vehicle a v.callsign) r.vehicles c formed.order.vehicles)
      ∙ keep_keep_row callsign_cmp vehicle_key (λ v. v.holder == d)
      (λ v. owns_vehicle d v && reads_vehicle a v.callsign) r.vehicles c
      (λ x e g. both_true _ _ g (of_its_name (reads_vehicle a) c x.callsign e h))

  lent_named : (c : Callsign) → reads_loan a c ≡ true → lent d c (working d a at r) ≡ lent d c r
  unfolding lent
  lent_named c h =
      ap (keep (λ l. l.lender == d)) (row_filter callsign_cmp loan_key callsigns_total
      (λ l. owns_loan d l && reads_loan a l.callsign) r.loans c formed.order.loans)
      ∙ keep_keep_row callsign_cmp loan_key (λ l. l.lender == d) (λ l. owns_loan d l && reads_loan a l.callsign) r.loans
      c (λ x e g. both_true _ _ (or_left _ _ g) (of_its_name (reads_loan a) c x.callsign e h))

  pub borrowed_named : (c : Callsign) → reads_loan a c ≡ true
      → borrowed d c (working d a at r) ≡ borrowed d c r
  unfolding borrowed
  borrowed_named c h =
      ap (keep (λ l. l.borrower == d)) (row_filter callsign_cmp loan_key callsigns_total
      (λ l. owns_loan d l && reads_loan a l.callsign) r.loans c formed.order.loans)
      ∙ keep_keep_row callsign_cmp loan_key (λ l. l.borrower == d) (λ l. owns_loan d l && reads_loan a l.callsign)
      r.loans c (λ x e g. both_true _ _ (or_right _ _ g) (of_its_name (reads_loan a) c x.callsign e h))

  pub offered_by_named : (c : Callsign) → reads_offer a c ≡ true
      → offered_by d c (working d a at r) ≡ offered_by d c r
  unfolding offered_by
  offered_by_named c h =
      ap (keep (λ o. o.lender == d)) (row_filter callsign_cmp offer_key callsigns_total
      (λ o. owns_offer d o && reads_offer a o.callsign) r.offers c formed.order.offers)
      ∙ keep_keep_row callsign_cmp offer_key (λ o. o.lender == d) (λ o. owns_offer d o && reads_offer a o.callsign)
      r.offers c (λ x e g. both_true _ _ (or_left _ _ g) (of_its_name (reads_offer a) c x.callsign e h))

  pub offered_to_named : (c : Callsign) → reads_offer a c ≡ true
      → offered_to d c (working d a at r) ≡ offered_to d c r
  unfolding offered_to
  offered_to_named c h =
      ap (keep (λ o. o.borrower == d)) (row_filter callsign_cmp offer_key callsigns_total
      (λ o. owns_offer d o && reads_offer a o.callsign) r.offers c formed.order.offers)
      ∙ keep_keep_row callsign_cmp offer_key (λ o. o.borrower == d) (λ o. owns_offer d o && reads_offer a o.callsign)
      r.offers c (λ x e g. both_true _ _ (or_right _ _ g) (of_its_name (reads_offer a) c x.callsign e h))

  pub sees_vehicle : (c : Callsign) → reads_vehicle a c ≡ true → reads_loan a c ≡ true
      → SeesVehicle d c (working d a at r) r
  sees_vehicle c h g = record { same_held = held_named c h; same_lent = lent_named c g }

  -- ---- all vehicles, loans, offers, and points
  pub all_held_read : ((k : Callsign) → reads_vehicle a k ≡ true)
      → all_held d (working d a at r) ≡ all_held d r
  unfolding all_held
  all_held_read all =
      filter_filter _ (λ v. owns_vehicle d v && reads_vehicle a v.callsign) r.vehicles
      (λ x h. both_true _ _ h (all x.callsign))

  pub assignment_read : (c : Callsign) → reads_assignments a ≡ true
      → assignment_of d c (working d a at r) ≡ assignment_of d c r
  unfolding assignment_of
  assignment_read c h =
      ap (keep (λ x. x.division == d)) (row_filter callsign_cmp assignment_key callsigns_total
      (λ x. owns_assignment d x && reads_assignments a) r.assignments c formed.order.assignments)
      ∙ keep_keep (λ x. x.division == d) (λ x. owns_assignment d x && reads_assignments a) _ (λ x g. both_true _ _ g h)

  pub loans_read : ((k : Callsign) → reads_loan a k ≡ true)
      → loans_of d (working d a at r) ≡ loans_of d r
  unfolding loans_of
  loans_read all =
      filter_filter _ (λ l. owns_loan d l && reads_loan a l.callsign) r.loans (λ x h. both_true _ _ h (all x.callsign))

  pub offers_read : ((k : Callsign) → reads_offer a k ≡ true)
      → offers_of d (working d a at r) ≡ offers_of d r
  unfolding offers_of
  offers_read all =
      filter_filter _ (λ o. owns_offer d o && reads_offer a o.callsign) r.offers
      (λ x h. both_true _ _ h (all x.callsign))

  pub point_named : (n : ℕ) → reads_point a n ≡ true
      → point_of d n (working d a at r) ≡ point_of d n r
  unfolding point_of
  point_named n h =
      row_filter pair_cmp point_key pairs_total (λ p. owns_point d p && reads_point a p.number) r.points (d, n)
      formed.order.points
      ∙ keep_row pair_cmp point_key (λ p. owns_point d p && reads_point a p.number) r.points (d, n) (λ x g.
      let key : (d, n) ≡ point_key x = exact_pair (d, n) (point_key x) (is_equal _ g) in
      both_true _ _ (eq-eqb x.division d (sym (ap (λ (p : ℕ × ℕ). p.0) key)))
      (subst (λ m. reads_point a m ≡ true) (ap (λ (p : ℕ × ℕ). p.1) key) h))

  pub points_read : ((n : ℕ) → reads_point a n ≡ true)
      → points_of d (working d a at r) ≡ points_of d r
  unfolding points_of
  points_read all =
      filter_filter _ (λ p. owns_point d p && reads_point a p.number) r.points (λ x h. both_true _ _ h (all x.number))

  pub holders_read : ((k : Callsign) → reads_vehicle a k ≡ true) → (n now : ℕ)
      → holders d n now (working d a at r) ≡ holders d n now r
  unfolding holders
  holders_read all n now =
      filter_filter _ (λ v. owns_vehicle d v && reads_vehicle a v.callsign) r.vehicles
      (λ x h. both_true _ _ (left_true _ _ (left_true _ _ h)) (all x.callsign))

  pub eligible_read : ((k : Callsign) → reads_vehicle a k ≡ true) → (k : Kind) (now : ℕ)
      → eligible d k now (working d a at r) ≡ eligible d k now r
  eligible_read all k now =
      filter_filter _ (λ v. owns_vehicle d v && reads_vehicle a v.callsign) r.vehicles
      (λ x h. both_true _ _ (left_true _ _ (left_true _ _ h)) (all x.callsign))

  pub sees_cover : ((k : Callsign) → reads_vehicle a k ≡ true) → ((n : ℕ) → reads_point a n ≡ true)
      → SeesCover d (working d a at r) r
  sees_cover all points = record { same_point = λ n. point_named n (points n); same_holders = holders_read all }

  -- ---- the turns and calls of an incident that is read
  read_turn : (t : Turn) (n : ℕ) → reads_number d a r n ≡ true → t.division == d ≡ true
      → t.incident == n ≡ true → t.division == d
      && (reads_number d a r t.incident || names_turn d a r t) ≡ true
  read_turn t n h e f =
      both_true _ _ e (or_left _ _ (subst (λ m. reads_number d a r m ≡ true) (sym (eqb-true t.incident n f)) h))

  served_read : (n : ℕ) → reads_number d a r n ≡ true → (k : Kind)
      → served d n k (working d a at r) ≡ served d n k r
  unfolding served
  served_read n h k =
      ap length (filter_filter _ (λ t. t.division == d && (reads_number d a r t.incident || names_turn d a r t)) r.turns
      (λ t g. read_turn t n h (left_true _ _ g) (left_true _ _ (right_true _ _ g))))

  attended_read : (n : ℕ) → reads_number d a r n ≡ true
      → is_attended d n (working d a at r) ≡ is_attended d n r
  unfolding is_attended
  attended_read n h =
      any_filter _ (λ t. t.division == d && (reads_number d a r t.incident || names_turn d a r t)) r.turns
      (λ t g. read_turn t n h (left_true _ _ g) (left_true _ _ (right_true _ _ g)))

  pub calls_read : (n : ℕ) → reads_calls a ≡ true → reads_number d a r n ≡ true
      → calls_of d n (working d a at r) ≡ calls_of d n r
  unfolding calls_of
  calls_read n calls h =
      filter_filter _ (λ c. c.division == d && (reads_calls a && reads_number d a r c.incident)) r.calls
      (λ c g.
      both_true _ _ (left_true _ _ g) (both_true _ _ calls
      (subst (λ m. reads_number d a r m ≡ true) (sym (eqb-true c.incident n (right_true _ _ g))) h)))

  sees_read : (n : ℕ) → reads_number d a r n ≡ true
      → incident_of d n (working d a at r) ≡ incident_of d n r
      → SeesIncident d n (working d a at r) r
  sees_read n h e = record { same_incident = e; same_served = served_read n h; same_attended = attended_read n h }

  -- ---- incidents that the ask names
  pub incident_named : (n : ℕ) → names_incident a n ≡ true
      → incident_of d n (working d a at r) ≡ incident_of d n r
  unfolding incident_of
  incident_named n h =
      row_filter pair_cmp incident_key pairs_total (λ i. i.division == d && reads_incident a at i) r.incidents (d, n)
      formed.order.incidents
      ∙ keep_row pair_cmp incident_key (λ i. i.division == d && reads_incident a at i) r.incidents (d, n) (λ x g.
      let key : (d, n) ≡ incident_key x = exact_pair (d, n) (incident_key x) (is_equal _ g) in
      both_true _ _ (eq-eqb x.division d (sym (ap (λ (p : ℕ × ℕ). p.0) key)))
      (or_right (reads_active a && is_active x.state) _
      (or_left _ _ (subst (λ m. names_incident a m ≡ true) (ap (λ (p : ℕ × ℕ). p.1) key) h))))

  pub number_named : (n : ℕ) → names_incident a n ≡ true → reads_number d a r n ≡ true
  number_named n h = or_right (reads_active a && is_some (keep (λ i. is_active i.state) (incident_of d n r))) _ h

  pub sees_named : (n : ℕ) → names_incident a n ≡ true → SeesIncident d n (working d a at r) r
  sees_named n h = sees_read n (number_named n h) (incident_named n h)

  -- ---- the active incidents, where they are read
  module _ (shows : reads_active a ≡ true) where
    pub active_number : (n : ℕ) → IsActive (incident_of d n r) → reads_number d a r n ≡ true
    active_number n h = or_left _ (names_incident a n) (both_true _ _ shows (active_is (incident_of d n r) h))

    reads_one : (i : Incident) → is_active i.state ≡ true → reads_incident a at i ≡ true
    reads_one i h = or_left _ (names_incident a i.number || names_opening a at i) (both_true _ _ shows h)

    keep_active : (o : Option Incident) → IsActive o
        → ((i : Incident) → o ≡ Some i → i.division == d ≡ true)
        → keep (λ i. i.division == d && reads_incident a at i) o ≡ o
    keep_active None h f = refl
    keep_active (Some i) h f =
        ap (λ (b : Bool). cond b (Some i) None)
        (both_true (i.division == d) (reads_incident a at i) (f i refl) (reads_one i h))

    pub incident_active : (n : ℕ) → IsActive (incident_of d n r)
        → incident_of d n (working d a at r) ≡ incident_of d n r
    unfolding incident_of
    incident_active n h =
        row_filter pair_cmp incident_key pairs_total (λ i. i.division == d && reads_incident a at i) r.incidents (d, n)
        formed.order.incidents
        ∙ keep_active (row_at pair_cmp incident_key r.incidents (d, n)) h
        (λ i e.
        eq-eqb i.division d
        (sym (ap (λ (p : ℕ × ℕ). p.0) (row_key pair_cmp incident_key pairs_total exact_pair r.incidents (d, n) i e))))

    pub active_incidents_read : active_incidents d (working d a at r) ≡ active_incidents d r
    unfolding active_incidents
    active_incidents_read =
        filter_filter _ (λ i. i.division == d && reads_incident a at i) r.incidents
        (λ i g.
        both_true (i.division == d) (reads_incident a at i) (left_true (i.division == d) (is_active i.state) g)
        (reads_one i (right_true (i.division == d) (is_active i.state) g)))

    active_found : (i : Incident) → Among i r.incidents → i.division == d ≡ true
        → is_active i.state ≡ true → IsActive (incident_of d i.number r)
    unfolding incident_of
    active_found i m e h =
        subst IsActive
        (sym (row_among pair_cmp incident_key pairs_total r.incidents i formed.order.incidents m)
        ∙ ap (λ (n : ℕ). row_at pair_cmp incident_key r.incidents (n, i.number)) (eqb-true i.division d e)) h

    pub sees_active : (i : Incident) → Among i r.incidents → i.division == d ≡ true
        → is_active i.state ≡ true → SeesIncident d i.number (working d a at r) r
    sees_active i m e h =
        let found = active_found i m e h in
        sees_read i.number (active_number i.number found) (incident_active i.number found)

    pub sees_shown : (i : Incident) → Among i (active_incidents d r)
        → SeesIncident d i.number (working d a at r) r
    unfolding active_incidents
    sees_shown i m =
        let parts = among_filter (λ i. i.division == d && is_active i.state) r.incidents i m in
        sees_active i parts.0 (left_true _ _ parts.1) (right_true _ _ parts.1)

    pub calls_shown : reads_calls a ≡ true → (i : Incident) → Among i (active_incidents d r)
        → calls_of d i.number (working d a at r) ≡ calls_of d i.number r
    unfolding active_incidents
    calls_shown calls i m =
        let parts = among_filter (λ i. i.division == d && is_active i.state) r.incidents i m in
        calls_read i.number calls
        (active_number i.number (active_found i parts.0 (left_true _ _ parts.1) (right_true _ _ parts.1)))

    -- ---- their open turns
    open_active : (t : Turn) → Among t r.turns → t.division == d ≡ true → is_none t.ended ≡ true
        → IsActive (incident_of d t.incident r)
    unfolding incident_of
    open_active t m e h =
        subst (λ (n : ℕ). IsActive (row_at pair_cmp incident_key r.incidents (n, t.incident))) (eqb-true t.division d e)
        (subst (TurnIsActive r) (row_among numbered_cmp turn_key numbered_total r.turns t formed.order.turns m)
        (formed.active t.callsign t.order) (none_of t.ended h))

    pub open_turn_read : (c : Callsign) → open_turn d c (working d a at r) ≡ open_turn d c r
    unfolding open_turn
    open_turn_read c =
        ap first (filter_among _ (λ t. t.division == d && (reads_number d a r t.incident || names_turn d a r t)) r.turns
        (λ t m g.
        both_true _ _ (left_true _ _ g) (or_left _ _ (active_number t.incident
        (open_active t m (left_true _ _ g) (right_true (same_callsign t.callsign c) _ (right_true _ _ g)))))))

    pub found_active : (c : Callsign) (t : Turn) → open_turn d c r ≡ Some t
        → IsActive (incident_of d t.incident r)
    unfolding open_turn
    found_active c t h =
        let parts = among_filter (λ t. t.division == d && (same_callsign t.callsign c && is_none t.ended)) r.turns t
        (first_among _ t h) in
        open_active t parts.0 (left_true _ _ parts.1)
        (right_true (same_callsign t.callsign c) _ (right_true _ _ parts.1))

  -- ---- reports
  pub report_named : (c : Callsign) (n : ℕ)
      → ((x : Report) → is_eq (numbered_cmp (c, n) (report_key x)) ≡ true
      → reads_report a x ≡ true) → report_of d c n (working d a at r) ≡ report_of d c n r
  unfolding report_of
  report_named c n h =
      ap (keep (λ x. x.division == d)) (row_filter numbered_cmp report_key numbered_total
      (λ x. x.division == d && reads_report a x) r.reports (c, n) formed.order.reports)
      ∙ keep_keep_row numbered_cmp report_key (λ x. x.division == d) (λ x. x.division == d && reads_report a x)
      r.reports (c, n) (λ x e g. both_true _ _ g (h x e))

-- ---- the turns of an incident, and of those that were merged into it
same_back : (m n : ℕ) → (m == n) ≡ (n == m)
same_back m n = grind (arith, nat_tests)

or_merged : (b c : Bool) → b || c ≡ true → b || (not b && c) ≡ true
or_merged true c h = refl
or_merged false c h = h

module _ (d : ℕ) (at : ℕ) (r : Room) (formed : IsWellFormed r) (n : ℕ) where
  shown_read : (t : Turn) → t.division == d
      && (t.incident == n || is_given (calls_of d n r) t.incident) ≡ true
      → t.division == d && (reads_number d (ask.Incident n) r t.incident || names_turn d (ask.Incident n) r t) ≡ true
  shown_read t g =
      both_true _ _ (left_true _ _ g)
      (or_merged (n == t.incident) (is_given (calls_of d n r) t.incident)
      (rw (same_back n t.incident) (right_true _ _ g)))

  pub turns_read : turns_of d n (working d (ask.Incident n) at r) ≡ turns_of d n r
  unfolding turns_of
  turns_read =
      ap (λ cs. filter (λ (t : Turn). t.division == d && (t.incident == n || is_given cs t.incident))
      (working d (ask.Incident n) at r).turns) (calls_read d (ask.Incident n) at r formed n refl (eq-eqb n n refl))
      ∙ filter_filter _
      (λ t. t.division == d && (reads_number d (ask.Incident n) r t.incident || names_turn d (ask.Incident n) r t))
      r.turns shown_read

-- ---- the turn of a vehicle's last order
module _ (d : ℕ) (at : ℕ) (r : Room) (formed : IsWellFormed r) (c : Callsign) (v : Vehicle) where
  last_open : (t : Turn) → row_at callsign_cmp vehicle_key r.vehicles c ≡ Some v → Among t r.turns
      → t.callsign ≡ c → is_none t.ended ≡ true
      → (1 ≤ v.last_order) × ((v.callsign, v.last_order) ≡ turn_key t)
  last_open t there among called unended =
      let found : row_at numbered_cmp turn_key r.turns (c, t.order)
      ≡ Some t =
      subst (λ k. row_at numbered_cmp turn_key r.turns (k, t.order) ≡ Some t) called
      (row_among numbered_cmp turn_key numbered_total r.turns t formed.order.turns among) in
      let agrees : TurnAgrees (Some v) t.order (Some t) = subst (λ o. TurnAgrees o t.order (Some t)) there
      (subst (TurnAgrees (row_at callsign_cmp vehicle_key r.vehicles c) t.order) found (formed.turns c t.order)) in
      let last : OpenAgrees v t.order t None = subst (OpenAgrees v t.order t) (none_of t.ended unended) agrees.2 in
      let named : v.callsign
      ≡ t.callsign =
      sym (row_key callsign_cmp vehicle_key callsigns_total exact_callsigns r.vehicles c v there) ∙ sym called in
      (subst (λ n. 1 ≤ n) last.0 agrees.0, λ i. (named i, sym last.0 i))

  there : held d c r ≡ Some v → row_at callsign_cmp vehicle_key r.vehicles c ≡ Some v
  unfolding held
  there e = kept_some (λ x. x.holder == d) _ v e

  is_last : (t : Turn) → held d c r ≡ Some v → Among t r.turns → t.callsign ≡ c
      → is_none t.ended ≡ true → names_turn d (ask.StandDown c) r t ≡ true
  is_last t e among called unended =
      let last = last_open t (there e) among called unended in
      ap (λ o. is_last_turn o t) e
      ∙ both_true _ _ (le-leb 1 v.last_order last.0)
      (ap is_eq (ap (λ k. numbered_cmp k (turn_key t)) last.1 ∙ tied_itself numbered_total (turn_key t)))

  pub last_turn_read : held d c r ≡ Some v
      → open_turn d c (working d (ask.StandDown c) at r) ≡ open_turn d c r
  unfolding open_turn
  last_turn_read e =
      ap first (filter_among _
      (λ t. t.division == d && (reads_number d (ask.StandDown c) r t.incident || names_turn d (ask.StandDown c) r t))
      r.turns (λ t m g.
      let mine = right_true (t.division == d) _ g in
      both_true _ _ (left_true _ _ g) (or_right (reads_number d (ask.StandDown c) r t.incident) _
      (is_last t e m (exact_callsigns t.callsign c (is_equal _ (left_true _ _ mine)))
      (right_true (same_callsign t.callsign c) _ mine)))))
