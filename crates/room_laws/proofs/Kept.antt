-- Over an event, each row that an entry needs stays what the entry needs, or the entry is ended.
use Rattle.std.proofs.Common.{ap, arith, inl, inr, subst, sym, ◌∙◌}
use Rattle.std.specs.Ordering.{is_eq, match_ordering}
use Rattle.std.specs.Prelude.{Bool, List, None, Option, Some, [], false, refl, true, ℕ, ◌∷◌, ◌≡◌}
use Rattle.std.specs.Prelude.{◌≤◌, ◌⊎◌}
use Rattle.std.specs.declared.cmp.Ordering.{Ordering}
use Rattle.std.specs.declared.cmp.Ordering.TheVariants.{Equal, Greater, Less}
use Rattle.room_place.specs.Choice.{Among}
use Rattle.room_types.proofs.KeyedLaws.{row_drop_other}
use Rattle.room_types.specs.Codes.{is_active, is_free, is_mobilised, is_off, is_offered}
use Rattle.room_types.specs.KeyLemmas.{callsigns_total, exact_callsigns, exact_numbered, exact_pair}
use Rattle.room_types.specs.KeyLemmas.{numbered_total, pairs_total}
use Rattle.room_types.specs.KeyedRows.{drop_row, put_row, row_at}
use Rattle.room_types.specs.Keys.{callsign_cmp, incident_key, loan_key, numbered_cmp, offer_key}
use Rattle.room_types.specs.Keys.{pair_cmp, point_key, report_key, turn_key, vehicle_key}
use Rattle.room_types.specs.Texts.{Callsign}
use Rattle.room_types.specs.declared.changes.Change.{Change}
use Rattle.room_types.specs.declared.changes.Change.TheVariants.{DropLoan, DropOffer, PutIncident}
use Rattle.room_types.specs.declared.changes.Change.TheVariants.{PutLoan, PutOffer, PutPoint}
use Rattle.room_types.specs.declared.changes.Change.TheVariants.{PutReport, PutTurn, PutVehicle}
use Rattle.room_types.specs.declared.changes.Change.TheVariants.{Settle}
use Rattle.room_types.specs.declared.codes.Status.TheVariants.{Available}
use Rattle.room_types.specs.declared.tables.Incident.{Incident}
use Rattle.room_types.specs.declared.tables.Loan.{Loan}
use Rattle.room_types.specs.declared.tables.Offer.{Offer}
use Rattle.room_types.specs.declared.tables.Point.{Point}
use Rattle.room_types.specs.declared.tables.Report.{Report}
use Rattle.room_types.specs.declared.tables.Turn.{Turn}
use Rattle.room_types.specs.declared.tables.Vehicle.{Vehicle}
use Rattle.room_model.proofs.IncidentChanges.{put_rows}
use Rattle.room_model.proofs.OpenTurns.{row_there}
use Rattle.room_model.proofs.Tests.{is_equal, row_among, row_key}
use Rattle.room_model.specs.Moments.{scene_limit}
use Rattle.room_model.specs.Queries.{counts, has_post}
use Rattle.room_model.specs.Room.{Room, apply, apply_one, settled}
use Rattle.room_model.specs.RoomAgreements.{IsWellFormed}
use Rattle.room_laws.proofs.AskEffects.{same_found}
use Rattle.room_laws.proofs.Effects.{Effect, Effects, TurnGoesOn, VehicleStep, incident_in}
use Rattle.room_laws.proofs.Effects.{offered_still, offered_unfree, posted_free, turn_at}
use Rattle.room_laws.proofs.Effects.{vehicle_in}
use Rattle.room_laws.specs.Exceptions.{Concern, OutOfTurn, Overdue, ShiftOver, LateForScene}
use Rattle.room_laws.specs.Exceptions.{Unanswered, Uncovered, Unacknowledged, Unserved}

-- what is put is the only new row
pub put_among : {R K : Type 0} (cmp : K → K → Ordering) (key : R → K) (xs : List R) (x y : R)
    → Among y (put_row cmp key xs x) → (y ≡ x) ⊎ Among y xs
put_among cmp key [] x y h = elim h [ inl k ↦ inl k | inr k ↦ absurd k ]
put_among {R} cmp key (z ∷ xs) x y h =
    (elim (cmp (key x) (key z)) as (λ (o : Ordering).
    Among y (match_ordering o (x ∷ z ∷ xs) (x ∷ xs) (z ∷ put_row cmp key xs x)) → (y ≡ x) ⊎ Among y (z ∷ xs)) [
      | Less ↦ λ g. g
      | Equal ↦ λ g. elim g [ inl k ↦ inl k | inr k ↦ inr (inr k) ]
      | Greater ↦ λ g. elim g [
        | inl k ↦ inr (inl k)
        | inr k ↦ elim (put_among cmp key xs x y k) [ inl m ↦ inl m | inr m ↦ inr (inr m) ]
      ]
    ]) h

module _ (Over : ℕ → Concern → Type 0) (r : Room) where
  -- what each change keeps, all keep
  pub fold : (C : Room → Type 0) → ((x : Change) (s : Room) → Effect Over r x → C s → C (apply_one s x))
      → (xs : List Change) (s : Room) → Effects Over r xs → C s → C (apply s xs)
  fold C one [] s f c = c
  fold C one (x ∷ xs) s f c = fold C one xs (apply_one s x) f.1 (one x s f.0 c)

  -- ---- an incident
  module _ (d n : ℕ) (i : Incident) (there : incident_in d n r ≡ Some i) where
    pub record IncidentLasts (o : Option Incident) : Type 0 where
      pub incident : Incident
      pub found : o ≡ Some incident
      pub opened : incident.opened ≤ i.opened
      pub active : is_active i.state ≡ true → (is_active incident.state ≡ true) ⊎ Over d (Unserved n)
      pub class : (incident.class ≡ 0) ⊎ (scene_limit incident.class ≤ scene_limit i.class)

    abbrev pub IncidentIn : Room → Type 0
    IncidentIn s = IncidentLasts (incident_in d n s)

    incident_step : (x : Incident) → Effect Over r (PutIncident x) → incident_key x ≡ (d, n)
        → IncidentLasts (Some x)
    incident_step x f same =
        let g = f i (subst (λ (k : ℕ × ℕ). row_at pair_cmp incident_key r.incidents k ≡ Some i) (sym same) there) in
        record {
          incident = x;
          found = refl;
          opened = g.opened;
          active = λ a. subst (λ (k : ℕ × ℕ). (is_active x.state ≡ true) ⊎ Over k.0 (Unserved k.1)) same (g.active a);
          class = g.class;
        }

    incident_one : (x : Change) (s : Room) → Effect Over r x → IncidentIn s → IncidentIn (apply_one s x)
    incident_one (PutIncident x) s f c =
        put_rows pair_cmp incident_key pairs_total exact_pair (λ k o. k ≡ (d, n) → IncidentLasts o) s.incidents x
        (incident_step x f)
        (λ k apart same.
        subst (λ (k : ℕ × ℕ). IncidentLasts (row_at pair_cmp incident_key s.incidents k)) (sym same) c) (d, n) refl
    incident_one x s f c = c

    pub incident_kept : (xs : List Change) → Effects Over r xs → IncidentIn (apply r xs)
    incident_kept xs f = fold IncidentIn incident_one xs r f (record {
      incident = i;
      found = there;
      opened = omega arith;
      active = λ a. inl a;
      class = inr (omega arith);
    })

  -- ---- who serves an incident
  module _ (d n : ℕ) (nobody : (t : Turn) → Among t r.turns → t.division ≡ d → t.incident ≡ n
      → counts t ≡ true → ⊥) where
    abbrev pub IsServedOnly : Room → Type 0
    IsServedOnly s = (t : Turn) → Among t s.turns → t.division ≡ d → t.incident ≡ n
        → counts t ≡ true → Over d (Unserved n)

    serving_one : (x : Change) (s : Room) → Effect Over r x → IsServedOnly s → IsServedOnly (apply_one s x)
    serving_one (PutTurn x) s f c = λ t a own for_it k. elim (put_among numbered_cmp turn_key s.turns x t a) [
      | inr old ↦ c t old own for_it k
      | inl same ↦
          let mine : x.division ≡ d = ap (λ (z : Turn). z.division) (sym same) ∙ own in
          let its : x.incident ≡ n = ap (λ (z : Turn). z.incident) (sym same) ∙ for_it in
          elim (f.served (ap counts (sym same) ∙ k)) [
            | inl was ↦ absurd (nobody was.0 was.1 (was.2 ∙ mine) (was.3 ∙ its) was.4)
            | inr over ↦
                subst (λ (m : ℕ). Over d (Unserved m)) its (subst (λ (h : ℕ). Over h (Unserved x.incident)) mine over)
          ]
    ]
    serving_one x s f c = c

    pub serving_kept : (xs : List Change) → Effects Over r xs → IsServedOnly (apply r xs)
    serving_kept xs f =
        fold IsServedOnly serving_one xs r f (λ t a own for_it k. absurd (nobody t a own for_it k))

  -- ---- a vehicle
  module _ (c : Callsign) (v : Vehicle) (there : vehicle_in c r ≡ Some v) (P : Option Vehicle → Type 0)
      (put : (u : Vehicle) → u.callsign ≡ c → VehicleStep Over v u → P (Some u))
      (settle : (u : Vehicle) (h : ℕ) → is_offered v.status ≡ true
      → (h ≡ v.holder) ⊎ ((d : ℕ) → Over d (ShiftOver c)) → P (Some u)
      → P (Some (record u { holder = h; status = Available }))) where
    abbrev IsSo : Room → Type 0
    IsSo s = P (vehicle_in c s)

    vehicle_put : (s : Room) (u : Vehicle) → IsSo s → (u.callsign ≡ c → P (Some u))
        → P (row_at callsign_cmp vehicle_key (put_row callsign_cmp vehicle_key s.vehicles u) c)
    vehicle_put s u so here =
        put_rows callsign_cmp vehicle_key callsigns_total exact_callsigns (λ k o. k ≡ c → P o) s.vehicles u here
        (λ k apart same. subst (λ (k : Callsign). P (row_at callsign_cmp vehicle_key s.vehicles k)) (sym same) so) c
        refl

    vehicle_one : (x : Change) (s : Room) → Effect Over r x → IsSo s → IsSo (apply_one s x)
    vehicle_one (PutVehicle u) s f so = vehicle_put s u so (λ same.
        let known : v ≡ f.0 = same_found (vehicle_in c r) v f.0 there
        (subst (λ (k : Callsign). vehicle_in k r ≡ Some f.0) same f.1) in
        put u same (subst (λ (z : Vehicle). VehicleStep Over z u) (sym known) f.2))
    vehicle_one (Settle k h) s f so =
        (elim (row_at callsign_cmp vehicle_key s.vehicles k) as (λ (o : Option Vehicle).
        row_at callsign_cmp vehicle_key s.vehicles k ≡ o
        → P (row_at callsign_cmp vehicle_key (settled o h s.vehicles) c)) [
          | None ↦ λ e. so
          | Some u ↦ λ e. vehicle_put s (record u { holder = h; status = Available }) so (λ same.
              let key : k ≡ u.callsign = row_key callsign_cmp vehicle_key callsigns_total exact_callsigns s.vehicles k u
              e in
              let here : k ≡ c = key ∙ same in
              let g = f v (subst (λ (k : Callsign). vehicle_in k r ≡ Some v) (sym here) there) in
              settle u h g.0 (subst (λ (k : Callsign). (h ≡ v.holder) ⊎ ((d : ℕ) → Over d (ShiftOver k))) here g.1)
              (subst P (subst (λ (k : Callsign). row_at callsign_cmp vehicle_key s.vehicles k ≡ Some u) here e) so))
        ]) refl
    vehicle_one x s f so = so

    pub vehicle_kept : (xs : List Change) → Effects Over r xs → P (Some v) → P (vehicle_in c (apply r xs))
    vehicle_kept xs f p = fold IsSo vehicle_one xs r f (subst P (sym there) p)

  -- ---- a vehicle on its way
  pub record DrivesOn (d : ℕ) (o : Option Vehicle) : Type 0 where
    pub vehicle : Vehicle
    pub found : o ≡ Some vehicle
    pub holder : vehicle.holder ≡ d
    pub mobilised : is_mobilised vehicle.status ≡ true

  pub way_kept : (d n : ℕ) (c : Callsign) (v : Vehicle) → vehicle_in c r ≡ Some v → v.holder ≡ d
      → is_mobilised v.status ≡ true → (k : Concern)
      → (Over d (Unacknowledged n c) × Over d (LateForScene n c) → Over d k) → (xs : List Change)
      → Effects Over r xs → DrivesOn d (vehicle_in c (apply r xs)) ⊎ Over d k
  way_kept d n c v there own mobilised k choose xs f =
      let key : c ≡ v.callsign = row_key callsign_cmp vehicle_key callsigns_total exact_callsigns r.vehicles c v
      there in
      vehicle_kept c v there (λ o. DrivesOn d o ⊎ Over d k) (λ u same step. elim (step.way mobilised) [
        | inl on ↦ inl (record { vehicle = u; found = refl; holder = on.1 ∙ own; mobilised = on.0 })
        | inr over ↦
            inr (choose (subst (λ (k : Callsign). Over d (Unacknowledged n k) × Over d (LateForScene n k)) (sym key)
            (subst (λ (h : ℕ). Over h (Unacknowledged n v.callsign) × Over h (LateForScene n v.callsign)) own
            (over n))))
      ]) (λ u h offered to so. absurd (offered_still v.status offered mobilised)) xs f
      (inl (record { vehicle = v; found = refl; holder = own; mobilised = mobilised }))

  -- ---- its unended turn
  module _ (c : Callsign) (o : ℕ) (t : Turn) (there : turn_at c o r ≡ Some t) (unended : t.ended ≡ None)
      (P : Option Turn → Type 0)
      (put : (x : Turn) → turn_key x ≡ (c, o) → TurnGoesOn Over t x → P (Some x)) where
    abbrev TurnIn : Room → Type 0
    TurnIn s = P (turn_at c o s)

    turn_one : (x : Change) (s : Room) → Effect Over r x → TurnIn s → TurnIn (apply_one s x)
    turn_one (PutTurn x) s f so =
        put_rows numbered_cmp turn_key numbered_total exact_numbered (λ k o_. k ≡ (c, o) → P o_) s.turns x
        (λ same. put x same (f.goes_on t
        (subst (λ (k : Callsign × ℕ). row_at numbered_cmp turn_key r.turns k ≡ Some t) (sym same) there) unended))
        (λ k apart same.
        subst (λ (k : Callsign × ℕ). P (row_at numbered_cmp turn_key s.turns k)) (sym same) so) (c, o) refl
    turn_one x s f so = so

    pub turn_kept : (xs : List Change) → Effects Over r xs → P (Some t) → P (turn_at c o (apply r xs))
    turn_kept xs f p = fold TurnIn turn_one xs r f (subst P (sym there) p)

  pub record IsOpenFor (d n : ℕ) (o : Option Turn) : Type 0 where
    pub turn : Turn
    pub found : o ≡ Some turn
    pub unended : turn.ended ≡ None
    pub own : turn.division ≡ d
    pub for_it : turn.incident ≡ n

  moved_over : (d n : ℕ) (c : Callsign) (x : Turn) (K : ℕ → Callsign → Concern) → x.division ≡ d
      → x.incident ≡ n → x.callsign ≡ c → Over x.division (K x.incident x.callsign) → Over d (K n c)
  moved_over d n c x K own for_it key over =
      subst (λ (k : Callsign). Over d (K n k)) key
      (subst (λ (m : ℕ). Over d (K m x.callsign)) for_it
      (subst (λ (h : ℕ). Over h (K x.incident x.callsign)) own over))

  module _ (d n : ℕ) (c : Callsign) (o : ℕ) (t : Turn) (there : turn_at c o r ≡ Some t)
      (unended : t.ended ≡ None) (own : t.division ≡ d) (for_it : t.incident ≡ n) where
    pub late_kept : (xs : List Change) → Effects Over r xs
        → IsOpenFor d n (turn_at c o (apply r xs)) ⊎ Over d (LateForScene n c)
    late_kept xs f =
        turn_kept c o t there unended (λ q. IsOpenFor d n q ⊎ Over d (LateForScene n c)) (λ x same g. elim g.way [
          | inl goes ↦
              inl (record {
                turn = x;
                found = refl;
                unended = goes;
                own = g.same.0 ∙ own;
                for_it = g.same.1 ∙ for_it;
              })
          | inr over ↦
              inr (moved_over d n c x LateForScene (g.same.0 ∙ own) (g.same.1 ∙ for_it)
              (ap (λ (k : Callsign × ℕ). k.0) same) over)
        ]) xs f (inl (record { turn = t; found = refl; unended = unended; own = own; for_it = for_it }))

    pub record IsUnseen (q : Option Turn) : Type 0 where
      pub turn : IsOpenFor d n q
      pub unseen : turn.turn.acknowledged ≡ None
      pub ordered : turn.turn.ordered ≡ t.ordered

    pub unacknowledged_kept : t.acknowledged ≡ None → (xs : List Change) → Effects Over r xs
        → IsUnseen (turn_at c o (apply r xs)) ⊎ Over d (Unacknowledged n c)
    unacknowledged_kept unseen xs f =
        turn_kept c o t there unended (λ q. IsUnseen q ⊎ Over d (Unacknowledged n c)) (λ x same g. elim g.read [
          | inl goes ↦
              inl (record {
                turn = record {
                  turn = x;
                  found = refl;
                  unended = goes.0;
                  own = g.same.0 ∙ own;
                  for_it = g.same.1 ∙ for_it;
                };
                unseen = goes.1 ∙ unseen;
                ordered = g.same.2;
              })
          | inr over ↦
              inr (moved_over d n c x Unacknowledged (g.same.0 ∙ own) (g.same.1 ∙ for_it)
              (ap (λ (k : Callsign × ℕ). k.0) same) over)
        ]) xs f (inl (record {
          turn = record { turn = t; found = refl; unended = unended; own = own; for_it = for_it };
          unseen = unseen;
          ordered = refl;
        }))

  -- ---- a vehicle whose shift is over
  pub record StaysOn (d : ℕ) (end : ℕ) (o : Option Vehicle) : Type 0 where
    pub vehicle : Vehicle
    pub found : o ≡ Some vehicle
    pub holder : vehicle.holder ≡ d
    pub on : is_off vehicle.status ≡ false
    pub end_same : vehicle.shift_end ≡ end

  pub shift_kept : (d : ℕ) (c : Callsign) (v : Vehicle) → vehicle_in c r ≡ Some v → v.holder ≡ d
      → is_off v.status ≡ false → (xs : List Change) → Effects Over r xs
      → StaysOn d v.shift_end (vehicle_in c (apply r xs)) ⊎ Over d (ShiftOver c)
  shift_kept d c v there own on xs f =
      let key : c ≡ v.callsign = row_key callsign_cmp vehicle_key callsigns_total exact_callsigns r.vehicles c v
      there in
      vehicle_kept c v there (λ o. StaysOn d v.shift_end o ⊎ Over d (ShiftOver c)) (λ u same step. elim (step.duty on) [
        | inl goes ↦
            inl (record { vehicle = u; found = refl; holder = goes.1 ∙ own; on = goes.0; end_same = goes.2 })
        | inr over ↦
            inr (subst (λ (k : Callsign). Over d (ShiftOver k)) (sym key)
            (subst (λ (h : ℕ). Over h (ShiftOver v.callsign)) own over))
      ]) (λ u h offered to so. elim so [
        | inr over ↦ inr over
        | inl stays ↦ elim to [
          | inr over ↦ inr (over d)
          | inl same ↦
              let is : u ≡ stays.vehicle = cc in
              inl (record {
                vehicle = record u { holder = h; status = Available };
                found = refl;
                holder = same ∙ own;
                on = refl;
                end_same = ap (λ (z : Vehicle). z.shift_end) is ∙ stays.end_same;
              })
        ]
      ]) xs f (inl (record { vehicle = v; found = refl; holder = own; on = on; end_same = refl }))

  -- ---- a report
  module _ (d n : ℕ) (c : Callsign) (x : Report)
      (there : row_at numbered_cmp report_key r.reports (c, n) ≡ Some x) (own : x.division ≡ d) where
    abbrev pub ReportIn : Room → Type 0
    ReportIn s = (row_at numbered_cmp report_key s.reports (c, n) ≡ Some x) ⊎ Over d (OutOfTurn n c)

    report_one : (y : Change) (s : Room) → Effect Over r y → ReportIn s → ReportIn (apply_one s y)
    report_one (PutReport y) s f so =
        put_rows numbered_cmp report_key numbered_total exact_numbered
        (λ k o. k ≡ (c, n) → (o ≡ Some x) ⊎ Over d (OutOfTurn n c)) s.reports y
        (λ same.
        inr (subst (λ (k : Callsign × ℕ). Over d (OutOfTurn k.1 k.0)) same
        (subst (λ (h : ℕ). Over h (OutOfTurn y.number y.callsign)) own
        (f x (subst (λ (k : Callsign × ℕ). row_at numbered_cmp report_key r.reports k ≡ Some x) (sym same) there)))))
        (λ k apart same.
        subst (λ (k : Callsign × ℕ).
        (row_at numbered_cmp report_key s.reports k ≡ Some x) ⊎ Over d (OutOfTurn n c)) (sym same) so) (c, n) refl
    report_one y s f so = so

    pub report_stays : (xs : List Change) → Effects Over r xs → ReportIn (apply r xs)
    report_stays xs f = fold ReportIn report_one xs r f (inl there)

  -- ---- a row that is dropped only where its entry is ended
  dropped : {R : Type 0} (key : R → Callsign) (xs : List R) (c k : Callsign) (P : Option R → Type 0)
      (O : Type 0) → (c ≡ k → O) → P (row_at callsign_cmp key xs c) ⊎ O
      → P (row_at callsign_cmp key (drop_row callsign_cmp key xs k) c) ⊎ O
  dropped key xs c k P O over so = elim so [
    | inr o ↦ inr o
    | inl p ↦
        (elim (is_eq (callsign_cmp c k)) as (λ (b : Bool).
        is_eq (callsign_cmp c k) ≡ b → P (row_at callsign_cmp key (drop_row callsign_cmp key xs k) c) ⊎ O) [
          | true ↦ λ e. inr (over (exact_callsigns c k (is_equal _ e)))
          | false ↦ λ e. inl (subst P (sym (row_drop_other callsign_cmp key callsigns_total xs k c e)) p)
        ]) refl
  ]

  -- ---- a loan
  module _ (d n : ℕ) (c : Callsign) (l : Loan) (there : row_at callsign_cmp loan_key r.loans c ≡ Some l) where
    pub record LoanLasts (o : Option Loan) : Type 0 where
      pub loan : Loan
      pub found : o ≡ Some loan
      pub same : (loan.lender ≡ l.lender) × (loan.borrower ≡ l.borrower) × (loan.until ≡ l.until)

    abbrev pub LoanIn : Room → Type 0
    LoanIn s = LoanLasts (row_at callsign_cmp loan_key s.loans c) ⊎ Over d (Overdue n c)

    loan_one : (y : Change) (s : Room) → Effect Over r y → LoanIn s → LoanIn (apply_one s y)
    loan_one (PutLoan y) s f so =
        put_rows callsign_cmp loan_key callsigns_total exact_callsigns
        (λ k o. k ≡ c → LoanLasts o ⊎ Over d (Overdue n c)) s.loans y
        (λ same. inl (record {
          loan = y;
          found = refl;
          same =
              f l (subst (λ (k : Callsign). row_at callsign_cmp loan_key r.loans k ≡ Some l) (sym same) there);
        }))
        (λ k apart same.
        subst (λ (k : Callsign). LoanLasts (row_at callsign_cmp loan_key s.loans k) ⊎ Over d (Overdue n c)) (sym same)
        so)
        c refl
    loan_one (DropLoan k) s f so =
        dropped loan_key s.loans c k LoanLasts (Over d (Overdue n c))
        (λ same. subst (λ (k : Callsign). Over d (Overdue n k)) (sym same) (f d n)) so
    loan_one y s f so = so

    pub loan_stays : (xs : List Change) → Effects Over r xs → LoanIn (apply r xs)
    loan_stays xs f =
        fold LoanIn loan_one xs r f (inl (record { loan = l; found = there; same = (refl, refl, refl) }))

  -- ---- an offer
  module _ (d n : ℕ) (c : Callsign) (o : Offer) (there : row_at callsign_cmp offer_key r.offers c ≡ Some o) where
    abbrev pub OfferIn : Room → Type 0
    OfferIn s = (row_at callsign_cmp offer_key s.offers c ≡ Some o) ⊎ Over d (Unanswered n c)

    offer_one : (y : Change) (s : Room) → Effect Over r y → OfferIn s → OfferIn (apply_one s y)
    offer_one (PutOffer y) s f so =
        put_rows callsign_cmp offer_key callsigns_total exact_callsigns
        (λ k q. k ≡ c → (q ≡ Some o) ⊎ Over d (Unanswered n c)) s.offers y
        (λ same.
        absurd (f o (subst (λ (k : Callsign). row_at callsign_cmp offer_key r.offers k ≡ Some o) (sym same) there)))
        (λ k apart same.
        subst (λ (k : Callsign).
        (row_at callsign_cmp offer_key s.offers k ≡ Some o) ⊎ Over d (Unanswered n c)) (sym same) so) c refl
    offer_one (DropOffer k) s f so =
        dropped offer_key s.offers c k (λ q. q ≡ Some o) (Over d (Unanswered n c))
        (λ same. subst (λ (k : Callsign). Over d (Unanswered n k)) (sym same) (f d n)) so
    offer_one y s f so = so

    pub offer_stays : (xs : List Change) → Effects Over r xs → OfferIn (apply r xs)
    offer_stays xs f = fold OfferIn offer_one xs r f (inl there)

  -- ---- a point, and who holds it
  module _ (d n : ℕ) (p : Point) (there : row_at pair_cmp point_key r.points (d, n) ≡ Some p) where
    abbrev pub PointIn : Room → Type 0
    PointIn s = (row_at pair_cmp point_key s.points (d, n) ≡ Some p) ⊎ Over d (Uncovered n)

    point_one : (y : Change) (s : Room) → Effect Over r y → PointIn s → PointIn (apply_one s y)
    point_one (PutPoint y) s f so =
        put_rows pair_cmp point_key pairs_total exact_pair
        (λ k o. k ≡ (d, n) → (o ≡ Some p) ⊎ Over d (Uncovered n)) s.points y
        (λ same. inr (subst (λ (k : ℕ × ℕ). Over k.0 (Uncovered k.1)) same f))
        (λ k apart same.
        subst (λ (k : ℕ × ℕ). (row_at pair_cmp point_key s.points k ≡ Some p) ⊎ Over d (Uncovered n)) (sym same) so)
        (d, n) refl
    point_one y s f so = so

    pub point_stays : (xs : List Change) → Effects Over r xs → PointIn (apply r xs)
    point_stays xs f = fold PointIn point_one xs r f (inl there)

  module _ (w : IsWellFormed r) (n : ℕ) where
    -- a vehicle at the point was there, or is posted there now
    pub record WasPosted (u v : Vehicle) : Type 0 where
      pub found : vehicle_in u.callsign r ≡ Some v
      pub post : has_post n v.post ≡ true
      pub holder : u.holder ≡ v.holder
      pub end : u.shift_end ≡ v.shift_end

    pub record IsPosted (u v : Vehicle) : Type 0 where
      pub found : vehicle_in u.callsign r ≡ Some v
      pub free : is_free v.status ≡ true
      pub over : Over u.holder (Uncovered n)

    abbrev pub Posted : Vehicle → Type 0
    Posted u = ((v : Vehicle) × WasPosted u v) ⊎ ((v : Vehicle) × IsPosted u v)

    abbrev pub PostedIn : Room → Type 0
    PostedIn s = (u : Vehicle) → Among u s.vehicles → has_post n u.post ≡ true → Posted u

    posted_put : (s : Room) (x : Vehicle) → PostedIn s → (has_post n x.post ≡ true → Posted x)
        → (u : Vehicle) → Among u (put_row callsign_cmp vehicle_key s.vehicles x)
        → has_post n u.post ≡ true → Posted u
    posted_put s x so here u a h = elim (put_among callsign_cmp vehicle_key s.vehicles x u a) [
      | inr old ↦ so u old h
      | inl same ↦ subst Posted (sym same) (here (ap (λ (z : Vehicle). has_post n z.post) (sym same) ∙ h))
    ]

    posted_one : (y : Change) (s : Room) → Effect Over r y → PostedIn s → PostedIn (apply_one s y)
    posted_one (PutVehicle x) s f so = posted_put s x so (λ h. elim (f.2.post n h) [
      | inl was ↦ inl (f.0, record { found = f.1; post = was.0; holder = was.1; end = was.2 })
      | inr now ↦ inr (f.0, record { found = f.1; free = now.1; over = now.0 })
    ])
    posted_one (Settle k h) s f so =
        (elim (row_at callsign_cmp vehicle_key s.vehicles k) as (λ (o : Option Vehicle).
        row_at callsign_cmp vehicle_key s.vehicles k ≡ o
        → (u : Vehicle) → Among u (settled o h s.vehicles) → has_post n u.post ≡ true → Posted u) [
          | None ↦ λ e. so
          | Some x ↦ λ e. posted_put s (record x { holder = h; status = Available }) so (λ post.
              let key : k ≡ x.callsign = row_key callsign_cmp vehicle_key callsigns_total exact_callsigns s.vehicles k x
              e in
              elim (so x (row_there callsign_cmp vehicle_key s.vehicles k x e) post) [
                | inl was ↦
                    absurd (offered_unfree was.0.status
                    (f was.0 (subst (λ (k : Callsign). vehicle_in k r ≡ Some was.0) (sym key) was.1.found)).0
                    (posted_free r w x.callsign was.0 was.1.found n was.1.post))
                | inr now ↦
                    absurd (offered_unfree now.0.status
                    (f now.0 (subst (λ (k : Callsign). vehicle_in k r ≡ Some now.0) (sym key) now.1.found)).0
                    now.1.free)
              ])
        ]) refl
    posted_one y s f so = so

    pub posted_kept : (xs : List Change) → Effects Over r xs → PostedIn (apply r xs)
    posted_kept xs f = fold PostedIn posted_one xs r f (λ u a h. inl (
      u,
      record {
        found = row_among callsign_cmp vehicle_key callsigns_total r.vehicles u w.order.vehicles a;
        post = h;
        holder = refl;
        end = refl;
      },
    ))
