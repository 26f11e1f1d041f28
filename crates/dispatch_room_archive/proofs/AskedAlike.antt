-- What a decision asks of a room, it is answered alike without what stays behind.
use Rattle.std.proofs.Common.{ap, arith, eqb-true, inl, inr, subst, sym, ◌∙◌}
use Rattle.std.specs.List.{cons_option, list_any}
use Rattle.std.specs.Prelude.{Bool, List, None, Option, Some, [], cond, false, filter, filter_map}
use Rattle.std.specs.Prelude.{int_le, int_lt, is_none, length, not, pos, refl, true, ℕ, ℤ, ◌&&◌}
use Rattle.std.specs.Prelude.{◌<◌, ◌==◌, ◌||◌, ◌∷◌, ◌≡◌}
use Rattle.room_place.specs.Choice.{Among, first, least}
use Rattle.room_place.specs.declared.places.Place.{Place}
use Rattle.room_types.specs.Codes.{is_active, is_merged, is_normal}
use Rattle.room_types.specs.Keys.{call_key, incident_key, numbered_cmp, pair_cmp, report_key}
use Rattle.room_types.specs.Keys.{same_callsign, turn_key}
use Rattle.room_types.specs.KeyLemmas.{numbered_total, pairs_total}
use Rattle.room_types.specs.Slices.{IsActive}
use Rattle.room_types.specs.Texts.{Callsign}
use Rattle.room_types.specs.declared.asks.Sought.{Sought}
use Rattle.room_types.specs.declared.codes.Kind.{Kind}
use Rattle.room_types.specs.declared.tables.Call.{Call}
use Rattle.room_types.specs.declared.tables.Incident.{Incident}
use Rattle.room_types.specs.declared.tables.Report.{Report}
use Rattle.room_types.specs.declared.tables.Turn.{Turn}
use Rattle.room_types.specs.declared.tables.Vehicle.{Vehicle}
use Rattle.room_model.proofs.Sights.{SeesCover, SeesIncident, SeesVehicle}
use Rattle.room_model.proofs.Tests.{among_filter, any_filter, either_true, filter_among}
use Rattle.room_model.proofs.Tests.{filter_filter, filters_turned, left_true, none_of, right_true}
use Rattle.room_model.proofs.Tests.{row_among}
use Rattle.room_model.proofs.WorkingDesk.{found_active}
use Rattle.room_model.specs.ClosedIncidents.{incidents_found, is_sought}
use Rattle.room_model.specs.Proposals.{eligible}
use Rattle.room_model.specs.Queries.{active_incidents, calls_of, held, holders, incident_of}
use Rattle.room_model.specs.Queries.{incidents_opened, incidents_over, is_attended, is_candidate}
use Rattle.room_model.specs.Queries.{is_given, is_nearer, kept_call, kept_report, lent, link_target}
use Rattle.room_model.specs.Queries.{open_turn, point_of, served, turns_by, turns_of, vehicle_at}
use Rattle.room_model.specs.Room.{Room}
use Rattle.room_model.specs.RoomAgreements.{IsWellFormed}
use Rattle.dispatch_room_archive.proofs.IncidentsLeft.{found_left}
use Rattle.dispatch_room_archive.proofs.RenewedAgreements.{active_stays, open_stays}
use Rattle.dispatch_room_archive.proofs.RenewedAgreements.{with_its_incident}
use Rattle.dispatch_room_archive.proofs.RowsLeft.{call_there, incident_there, report_there}
use Rattle.dispatch_room_archive.specs.Continuation.{IsOver, IsSettled, StaysBehind}
use Rattle.dispatch_room_archive.specs.Successor.{Behind, without}
use Rattle.room_types.specs.declared.asks.Ask.TheVariants as ask

-- what only elements that pass give, in one list
pub filter_map_passing : {X Y : Type 0} (f : X → Option Y) (q : X → Bool) (xs : List X)
    → ((x : X) → Among x xs → q x ≡ false → f x ≡ None)
    → filter_map f (filter q xs) ≡ filter_map f xs
filter_map_passing f q [] h = refl
filter_map_passing {X} {Y} f q (x ∷ xs) h =
    let rest = filter_map_passing f q xs (λ y a. h y (inr a)) in
    (elim (q x) as (λ (b : Bool).
    q x ≡ b → filter_map f (cond b (x ∷ filter q xs) (filter q xs)) ≡ cons_option (f x) (filter_map f xs)) [
      | true ↦ λ e. ap (λ (zs : List Y). cons_option (f x) zs) rest
      | false ↦ λ e. rest ∙ sym (ap (λ (o : Option Y). cons_option o (filter_map f xs)) (h x (inl refl) e))
    ]) refl

pub left_false : (x y : Bool) → x || y ≡ false → x ≡ false
left_false true y e = e
left_false false y e = refl

pub right_false : (x y : Bool) → x || y ≡ false → y ≡ false
right_false true y e = cc
right_false false y e = e

pub of_both : (x y : Bool) → x ≡ true → x && y ≡ false → y ≡ false
of_both true y e f = f
of_both false y e f = cc

-- where no element passes, a given one doesn't
pub none_passes : {X : Type 0} (p : X → Bool) (xs : List X) (x : X) → list_any p xs ≡ false
    → Among x xs → p x ≡ false
none_passes p [] x none m = absurd m
none_passes p (y ∷ ys) x none m = elim m [
  | inl same ↦ ap p same ∙ left_false (p y) (list_any p ys) none
  | inr later ↦ none_passes p ys x (right_false (p y) (list_any p ys) none) later
]

-- nor does a number that some call was given, where none passes of those that they were given
given_spared : (p : ℕ → Bool) (n : ℕ) (cs : List Call) → list_any (λ c. p c.given) cs ≡ false
    → is_given cs n ≡ true → p n ≡ false
given_spared p n [] none given = cc
given_spared p n (c ∷ cs) none given = elim (either_true (c.given == n) (is_given cs n) given) [
  | inl same ↦ ap p (sym (eqb-true c.given n same)) ∙ left_false (p c.given) _ none
  | inr later ↦ given_spared p n cs (right_false (p c.given) _ none) later
]

-- a moment from a time on is not before an earlier one
pub not_before : (from : ℤ) (now since : ℕ) → int_lt from (pos since) ≡ false
    → int_le from (pos now) ≡ true → now < since → ⊥
not_before from now since e f g = grind (arith, e, f, g)

module _ (since : ℕ) (b : Behind) (r : Room) (w : IsWellFormed r) (h : StaysBehind since b r) where
  abbrev new : Room
  new = without b r

  -- ---- rows of the lists
  pub active_among : (i : Incident) → Among i r.incidents → is_active i.state ≡ true
      → b.incident i.division i.number ≡ false
  active_among i m e =
      active_stays since b r w h i.division i.number
      (subst IsActive (sym (row_among pair_cmp incident_key pairs_total r.incidents i w.order.incidents m)) e)

  open_among : (t : Turn) → Among t r.turns → is_none t.ended ≡ true
      → b.incident t.division t.incident ≡ false
  open_among t m e =
      open_stays since b r w h t.callsign t.order t
      (row_among numbered_cmp turn_key numbered_total r.turns t w.order.turns m) (none_of t.ended e)

  pub call_among : (c : Call) → Among c r.calls
      → b.call c.position c.serial ≡ b.incident c.division c.incident
  call_among c m =
      with_its_incident since b r w h c.position c.serial c
      (row_among pair_cmp call_key pairs_total r.calls c w.order.calls m)

  -- a row of an incident that didn't stay behind
  of_its_number : (d n m k : ℕ) → b.incident d n ≡ false → m == d ≡ true → k == n ≡ true
      → b.incident m k ≡ false
  of_its_number d n m k spared e f =
      ap (λ x. b.incident x k) (eqb-true m d e) ∙ (ap (b.incident d) (eqb-true k n f) ∙ spared)

  -- ---- an incident, with its turns and calls
  module _ (d n : ℕ) (spared : b.incident d n ≡ false) where
    pub incident_same : incident_of d n new ≡ incident_of d n r
    unfolding incident_of
    incident_same = incident_there b r w.order d n spared

    pub served_same : (k : Kind) → served d n k new ≡ served d n k r
    unfolding served
    served_same k =
        ap length (filter_filter _ (λ t. not (b.incident t.division t.incident)) r.turns
        (λ t g.
        ap not (of_its_number d n t.division t.incident spared (left_true _ _ g)
        (left_true _ _ (right_true (t.division == d) _ g)))))

    attended_same : is_attended d n new ≡ is_attended d n r
    unfolding is_attended
    attended_same =
        any_filter _ (λ t. not (b.incident t.division t.incident)) r.turns
        (λ t g.
        ap not (of_its_number d n t.division t.incident spared (left_true _ _ g)
        (left_true _ _ (right_true (t.division == d) _ g))))

    pub calls_same : calls_of d n new ≡ calls_of d n r
    unfolding calls_of
    calls_same =
        filter_among _ (λ c. not (b.call c.position c.serial)) r.calls
        (λ c m g.
        ap not (call_among c m
        ∙ of_its_number d n c.division c.incident spared (left_true _ _ g) (right_true (c.division == d) _ g)))

    -- with the turns of those that were merged into it, where none of these stayed behind
    shown_spared : list_any (λ c. b.incident d c.given) (calls_of d n r) ≡ false → (t : Turn)
        → t.division == d && (t.incident == n || is_given (calls_of d n r) t.incident) ≡ true
        → not (b.incident t.division t.incident) ≡ true
    shown_spared none t g = elim (either_true (t.incident == n) _ (right_true (t.division == d) _ g)) [
      | inl same ↦ ap not (of_its_number d n t.division t.incident spared (left_true _ _ g) same)
      | inr given ↦
          ap not (ap (λ x. b.incident x t.incident) (eqb-true t.division d (left_true _ _ g))
          ∙ given_spared (λ m. b.incident d m) t.incident (calls_of d n r) none given)
    ]

    pub turns_same : list_any (λ c. b.incident d c.given) (calls_of d n r) ≡ false
        → turns_of d n new ≡ turns_of d n r
    unfolding turns_of
    turns_same none =
        ap (λ cs. filter (λ (t : Turn). t.division == d && (t.incident == n || is_given cs t.incident)) new.turns)
        calls_same
        ∙ filter_filter _ (λ t. not (b.incident t.division t.incident)) r.turns (shown_spared none)

    pub sees_same : SeesIncident d n new r
    sees_same = record { same_incident = incident_same; same_served = served_same; same_attended = attended_same }

  -- ---- active incidents, and open turns
  pub actives_same : (d : ℕ) → active_incidents d new ≡ active_incidents d r
  unfolding active_incidents
  actives_same d =
      filter_among _ (λ i. not (b.incident i.division i.number)) r.incidents
      (λ i m g. ap not (active_among i m (right_true (i.division == d) _ g)))

  pub shown_stays : (d : ℕ) (i : Incident) → Among i (active_incidents d r)
      → b.incident d i.number ≡ false
  unfolding active_incidents
  shown_stays d i m =
      let parts = among_filter (λ i. i.division == d && is_active i.state) r.incidents i m in
      ap (λ x. b.incident x i.number) (sym (eqb-true i.division d (left_true _ _ parts.1)))
      ∙ active_among i parts.0 (right_true (i.division == d) _ parts.1)

  pub open_turn_same : (d : ℕ) (c : Callsign) → open_turn d c new ≡ open_turn d c r
  unfolding open_turn
  open_turn_same d c =
      ap first (filter_among _ (λ t. not (b.incident t.division t.incident)) r.turns
      (λ t m g. ap not (open_among t m (right_true (same_callsign t.callsign c) _ (right_true (t.division == d) _ g)))))

  pub found_stays : (d : ℕ) (c : Callsign) (t : Turn) → open_turn d c r ≡ Some t
      → b.incident d t.incident ≡ false
  unfolding incident_of
  found_stays d c t e = active_stays since b r w h d t.incident (found_active d ask.Queue 0 r w refl c t e)

  pub target_same : (d : ℕ) (p : Place) (at : ℕ) → link_target d p at new ≡ link_target d p at r
  unfolding link_target
  target_same d p at =
      ap (least (is_nearer p)) (filter_among (is_candidate d p at) (λ i. not (b.incident i.division i.number))
      r.incidents
      (λ i m g. ap not (active_among i m (left_true (is_active i.state) _ (right_true (i.division == d) _ g)))))

  -- ---- incidents that were opened since
  over_before : (i : Incident) → Among i r.incidents → b.incident i.division i.number ≡ true
      → i.opened < since
  unfolding incident_of
  over_before i m e =
      (subst (IsOver since) (row_among pair_cmp incident_key pairs_total r.incidents i w.order.incidents m)
      (h.incidents i.division i.number e)).1

  since_stays : (i : Incident) (from : ℤ) → Among i r.incidents → int_lt from (pos since) ≡ false
      → int_le from (pos i.opened) ≡ true → not (b.incident i.division i.number) ≡ true
  since_stays i from m late opened =
      (elim (b.incident i.division i.number) as (λ (x : Bool). b.incident i.division i.number ≡ x → not x ≡ true) [
        | true ↦ λ e. absurd (not_before from i.opened since late opened (over_before i m e))
        | false ↦ λ e. refl
      ]) refl

  pub opened_same : (d : ℕ) (from to : ℤ) → int_lt from (pos since) ≡ false
      → incidents_opened d from to new ≡ incidents_opened d from to r
  unfolding incidents_opened
  opened_same d from to late =
      filter_among _ (λ i. not (b.incident i.division i.number)) r.incidents
      (λ i m g.
      since_stays i from m late
      (left_true _ _ (right_true (not (is_merged i.state)) _ (right_true (i.division == d) _ g))))

  -- those of them that are over and sought
  pub found_same : (d : ℕ) (from to : ℤ) (x : Sought) → int_lt from (pos since) ≡ false
      → incidents_found d from to x new ≡ incidents_found d from to x r
  unfolding incidents_found incidents_over
  found_same d from to x late =
      found_left b r d from to x
      ∙ (filters_turned (λ i. not (b.incident i.division i.number)) (is_sought x (λ c. turns_by d c r))
      (incidents_over d from to r)
      ∙ ap (filter (is_sought x (λ c. turns_by d c r)))
      (filters_turned (λ i. not (b.incident i.division i.number)) _ r.incidents
      ∙ filter_among _ (λ i. not (b.incident i.division i.number)) r.incidents
      (λ i m g.
      since_stays i from m late
      (left_true _ _ (right_true (not (is_active i.state)) _ (right_true (i.division == d) _ g))))))

  -- ---- calls and reports by their keys
  pub kept_call_same : (p s : ℕ) → b.call p s ≡ false → kept_call p s new ≡ kept_call p s r
  unfolding kept_call
  kept_call_same p s e = call_there b r w.order p s e

  pub kept_report_same : (c : Callsign) (n : ℕ) → b.report c n ≡ false
      → kept_report c n new ≡ kept_report c n r
  unfolding kept_report
  kept_report_same c n e = report_there b r w.order c n e

  settled_is : (v : Option Vehicle) (n : ℕ) (o : Option Report) (x : Report) → o ≡ Some x
      → IsSettled v n o → x.cleared || is_normal x.outcome ≡ true
  settled_is v n None x e g = absurd g
  settled_is None n (Some y) x e g = absurd g
  settled_is (Some v) n (Some y) x e g =
      let same : y ≡ x = cc in subst (λ (z : Report). z.cleared || is_normal z.outcome ≡ true) same g.0

  -- a report that stays behind waits for nobody's eye
  pub report_settled : (x : Report) → Among x r.reports → b.report x.callsign x.number ≡ true
      → x.cleared || is_normal x.outcome ≡ true
  unfolding kept_report
  report_settled x m e =
      settled_is (vehicle_at x.callsign r) x.number _ x
      (row_among numbered_cmp report_key numbered_total r.reports x w.order.reports m) (h.reports x.callsign x.number e)

  -- ---- vehicles and points are as they were
  pub vehicle_same : (d : ℕ) (c : Callsign) → SeesVehicle d c new r
  unfolding held lent
  vehicle_same d c = record { same_held = refl; same_lent = refl }

  pub cover_same : (d : ℕ) → SeesCover d new r
  unfolding point_of holders
  cover_same d = record { same_point = λ n. refl; same_holders = λ n at. refl }

  pub eligible_same : (d : ℕ) (k : Kind) (at : ℕ) → eligible d k at new ≡ eligible d k at r
  eligible_same d k at = refl
