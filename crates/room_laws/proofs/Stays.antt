-- What is due stays due until an event ends it, over one event and over a run.
use Rattle.std.proofs.Common.{ap, arith, eq-eqb, eqb-true, inl, inr, le-leb, leb-true, lt-ltb}
use Rattle.std.proofs.Common.{ltb-true, subst, sym, ◌∙◌}
use Rattle.std.proofs.lemmas.Cmp.{tied_itself}
use Rattle.std.specs.Cmp.{IsTotalOrder}
use Rattle.std.specs.Ordering.{ordering_reverse}
use Rattle.std.specs.Prelude.{Bool, List, Some, [], cond, filter, length, nat_le, nat_lt, refl, suc}
use Rattle.std.specs.Prelude.{true, ℕ, ◌&&◌, ◌==◌, ◌||◌, ◌∷◌, ◌≡◌, ◌≤◌, ◌⊎◌}
use Rattle.std.specs.declared.cmp.Ordering.{Ordering}
use Rattle.std.specs.declared.cmp.Ordering.TheVariants.{Equal, Greater, Less}
use Rattle.room_place.specs.Choice.{Among}
use Rattle.room_types.proofs.KeyedLaws.{keyed_filter}
use Rattle.room_types.specs.Codes.{is_free}
use Rattle.room_types.specs.KeyLemmas.{callsigns_total, exact_callsigns}
use Rattle.room_types.specs.KeyedRows.{IsBelowAll, IsKeyed}
use Rattle.room_types.specs.Keys.{callsign_cmp, vehicle_key}
use Rattle.room_types.specs.Texts.{Callsign}
use Rattle.room_types.specs.declared.asks.Event.{Event}
use Rattle.room_types.specs.declared.changes.Change.{Change}
use Rattle.room_types.specs.declared.tables.Vehicle.{Vehicle}
use Rattle.room_model.proofs.KeptAsks.{has_order}
use Rattle.room_model.proofs.KeptEvents.{addressed_still, event_kept}
use Rattle.room_model.proofs.OpenTurns.{row_there}
use Rattle.room_model.proofs.Tests.{among_filter, both_true, left_true, or_left, or_right}
use Rattle.room_model.proofs.Tests.{right_true, row_key}
use Rattle.room_model.specs.Decisions.{changes_of}
use Rattle.room_model.specs.Events.{AreAddressed, IsNumbered}
use Rattle.room_model.specs.Queries.{counts, has_post, holders, incident_of, is_eligible}
use Rattle.room_model.specs.Room.{Room, apply}
use Rattle.room_model.specs.RoomAgreements.{IsWellFormed}
use Rattle.room_model.specs.Run.{room_run}
use Rattle.room_model.specs.Step.{IsAddressed, answer_to, decided, room_after}
use Rattle.room_laws.proofs.AskEffects.{event_effects}
use Rattle.room_laws.proofs.Causes.{Has, HasOverdue, HasReport, HasShiftOver, HasLate}
use Rattle.room_laws.proofs.Causes.{HasUnanswered, HasUncovered, HasUnacknowledged, HasUnserved}
use Rattle.room_laws.proofs.Causes.{due, earlier_start, among_passing, fewer_pass, has_due}
use Rattle.room_laws.proofs.Causes.{later_age, none_or}
use Rattle.room_laws.proofs.Effects.{Effects, EndsBy, posted_free, turn_at}
use Rattle.room_laws.proofs.Kept.{incident_kept, loan_stays, offer_stays, point_stays, posted_kept}
use Rattle.room_laws.proofs.Kept.{report_stays, serving_kept, shift_kept, late_kept}
use Rattle.room_laws.proofs.Kept.{unacknowledged_kept, way_kept}
use Rattle.room_laws.proofs.Steps.{AreSingle, IsSingle, steps_addressed, steps_run, steps_single}
use Rattle.room_laws.specs.Exceptions.{Concern, Ends, IsDue, IsEnded, OutOfTurn, Overdue, ShiftOver}
use Rattle.room_laws.specs.Exceptions.{LateForScene, Unanswered, Uncovered, Unacknowledged}
use Rattle.room_laws.specs.Exceptions.{Unserved, is_ended_by, is_unclassed, loses_class}
use Rattle.room_laws.specs.Happens.{HappensIn, steps_of}

-- ---- counts of rows by their keys
module _ {R K : Type 0} (cmp : K → K → Ordering) (key : R → K) (total : IsTotalOrder cmp) where
  below_in : (k : K) (xs : List R) (x : R) → IsBelowAll cmp key k xs → Among x xs
      → cmp k (key x) ≡ Less
  below_in k [] x h a = absurd a
  below_in k (y ∷ xs) x h a = elim a [
    | inl e ↦ ap (λ z. cmp k (key z)) e ∙ h.0
    | inr b ↦ below_in k xs x h.1 b
  ]

  abbrev HasKeys : List R → List R → Type 0
  HasKeys xs ys = (x : R) → Among x xs → (y : R) × Among y ys × (key y ≡ key x)

  -- rows whose keys are all keys of others are no more than those
  pub fewer_keys : (xs ys : List R) → IsKeyed cmp key xs → IsKeyed cmp key ys → HasKeys xs ys
      → length xs ≤ length ys
  fewer_keys [] ys h g has = omega arith
  fewer_keys (x ∷ xs) [] h g has = absurd (has x (inl refl)).1
  fewer_keys (x ∷ xs) (y ∷ ys) h g has =
      (elim (cmp (key x) (key y)) as (λ (o : Ordering).
      cmp (key x) (key y) ≡ o → suc (length xs) ≤ suc (length ys)) [
        | Equal ↦ λ e.
            let rest = fewer_keys xs ys h.1 g.1 (λ z a.
            let is = has z (inr a) in
            elim is.1 [
              | inl same ↦
                  let low = below_in (key x) xs z h.0 a in
                  let tied : cmp (key x) (key z)
                  ≡ Equal = ap (cmp (key x)) (sym is.2 ∙ ap key same) ∙ e in
                  cc
              | inr b ↦ (is.0, b, is.2)
            ]) in
            omega (arith, rest)
        | Less ↦ λ e.
            let is = has x (inl refl) in
            absurd (elim is.1 [
              | inl same ↦
                  let tied : cmp (key x) (key y) ≡ Equal = ap (cmp (key x)) (sym (ap key same) ∙ is.2)
                  ∙ tied_itself total (key x) in
                  apart (sym tied ∙ e)
              | inr b ↦
                  let low : cmp (key y) (key x) ≡ Less = ap (cmp (key y)) (sym is.2)
                  ∙ below_in (key y) ys is.0 g.0 b in
                  both_less (sym low ∙ (total.antisymm (key y) (key x) ∙ ap ordering_reverse e))
            ])
        | Greater ↦ λ e.
            let rest = fewer_keys (x ∷ xs) ys h g.1 (λ z a.
            let is = has z a in
            elim is.1 [
              | inr b ↦ (is.0, b, is.2)
              | inl same ↦
                  let here : key z ≡ key y = sym is.2 ∙ ap key same in
                  elim a [
                    | inl first ↦
                        let tied : cmp (key x) (key y) ≡ Equal = ap (cmp (key x)) (sym here ∙ ap key first)
                        ∙ tied_itself total (key x) in
                        cc
                    | inr c ↦
                        let low : cmp (key x) (key y) ≡ Less = ap (cmp (key x)) (sym here)
                        ∙ below_in (key x) xs z h.0 c in
                        cc
                  ]
            ]) in
            omega (arith, rest)
      ]) refl
    where
      apart : Equal ≡ Less → ⊥
      apart e = cc

      both_less : Less ≡ Greater → ⊥
      both_less e = cc

-- each is so, or something else holds
all_or : {X : Type 0} (P : X → Type 0) (O : Type 0) (xs : List X)
    → ((x : X) → Among x xs → P x ⊎ O) → ((x : X) → Among x xs → P x) ⊎ O
all_or P O [] f = inl (λ x a. absurd a)
all_or {X} P O (y ∷ ys) f = elim (f y (inl refl)) [
  | inr o ↦ inr o
  | inl p ↦ elim (all_or P O ys (λ x a. f x (inr a))) [
    | inr o ↦ inr o
    | inl ps ↦ inl (λ x a. elim a [ inl e ↦ subst P (sym e) p | inr b ↦ ps x b ])
  ]
]

-- ---- as time goes on
holders_fall : (d n m t : ℕ) (r : Room) → m ≤ t → length (holders d n t r) ≤ length (holders d n m r)
unfolding holders
holders_fall d n m t r le =
    fewer_pass (λ v. is_eligible d t v && has_post n v.post) (λ v. is_eligible d m v && has_post n v.post) r.vehicles
    (λ v h.
    let eligible = left_true (is_eligible d t v) _ h in
    let rest = right_true (v.holder == d) _ eligible in
    let end = right_true (is_free v.status) _ rest in
    both_true _ _
    (both_true _ _ (left_true (v.holder == d) _ eligible) (both_true _ _ (left_true (is_free v.status) _ rest)
    (lt-ltb _ _ (omega (arith, ltb-true t v.shift_end end, le)))))
    (right_true (is_eligible d t v) _ h))

later : (d m t : ℕ) (r : Room) → m ≤ t → (k : Concern) → Has d m r k → Has d t r k
later d m t r le (Unserved n) h = record {
  incident = h.incident;
  found = h.found;
  active = h.active;
  late = later_age 180 m t _ le h.late;
  nobody = h.nobody;
}
later d m t r le (Unacknowledged n c) h = record {
  way = h.way;
  unseen = h.unseen;
  late = later_age 60 m t _ le h.late;
}
later d m t r le (LateForScene n c) h = record {
  way = h.way;
  incident = h.incident;
  found = h.found;
  late = later_age _ m t _ le h.late;
}
later d m t r le (OutOfTurn n c) h =
    record { report = h.report; found = h.found; own = h.own; unended = h.unended }
later d m t r le (Overdue n c) h = record {
  loan = h.loan;
  found = h.found;
  party = h.party;
  other = h.other;
  late = lt-ltb _ _ (omega (arith, ltb-true h.loan.until m h.late, le));
}
later d m t r le (ShiftOver c) h = record {
  vehicle = h.vehicle;
  found = h.found;
  holder = h.holder;
  on = h.on;
  late = le-leb _ _ (omega (arith, leb-true h.vehicle.shift_end m h.late, le));
}
later d m t r le (Uncovered n) h = record {
  point = h.point;
  found = h.found;
  short =
      lt-ltb _ _
      (omega (arith, ltb-true (length (holders d n m r)) h.point.cover h.short, holders_fall d n m t r le));
}
later d m t r le (Unanswered n c) h = record {
  offer = h.offer;
  found = h.found;
  party = h.party;
  other = h.other;
  late = later_age 300 m t _ le h.late;
}

-- ---- over one event
module _ (d m : ℕ) (e : Event) (r : Room) (w : IsWellFormed r) (single : IsSingle e) where
  abbrev xs : List Change
  xs = changes_of (decided e r)

  abbrev Over : ℕ → Concern → Type 0
  Over = EndsBy e r (answer_to e r)

  effects : Effects Over r xs
  effects = event_effects e r w single

  abbrev Stays : Concern → Type 0
  Stays k = Has d m (room_after e r) k
      ⊎ (is_ended_by d k e r || loses_class d k (room_after e r) ≡ true)

  over : (k : Concern) → Over d k → Stays k
  over k h = inr (or_left _ _ h)

  unserved_stays : (n : ℕ) → HasUnserved d m r n → Stays (Unserved n)
  unserved_stays n h =
      let s = room_after e r in
      let i = incident_kept Over r d n h.incident h.found xs effects in
      elim (i.active h.active) [
        | inr ended ↦ over (Unserved n) ended
        | inl active ↦ elim (none_or (λ t. t.division == d && (t.incident == n && counts t)) s.turns) [
          | inl none ↦
              inl (record {
                incident = i.incident;
                found = i.found;
                active = active;
                late = earlier_start 180 180 m _ _ (omega arith) i.opened h.late;
                nobody =
                    λ t a own its on.
                    none t a (both_true _ _ (eq-eqb t.division d own)
                    (both_true _ _ (eq-eqb t.incident n its) on));
              })
          | inr one ↦
              let t = one.0 in
              let rest = right_true (t.division == d) _ one.2 in
              over (Unserved n) (serving_kept Over r d n h.nobody xs effects t one.1
              (eqb-true t.division d (left_true (t.division == d) _ one.2))
              (eqb-true t.incident n (left_true (t.incident == n) _ rest)) (right_true (t.incident == n) _ rest))
        ]
      ]

  unacknowledged_stays : (n : ℕ) (c : Callsign) → HasUnacknowledged d m r n c → Stays (Unacknowledged n c)
  unacknowledged_stays n c h =
      let s = room_after e r in
      let y = h.way in
      elim (way_kept Over r d n c y.vehicle y.found y.holder y.mobilised (Unacknowledged n c) (λ o. o.0) xs effects) [
        | inr ended ↦ over (Unacknowledged n c) ended
        | inl drives ↦
            elim (unacknowledged_kept Over r d n c y.turn.order y.turn y.turn_found y.unended y.own y.for_it h.unseen xs
            effects) [
              | inr ended ↦ over (Unacknowledged n c) ended
              | inl is ↦
                  let t = is.turn.turn in
                  let order : t.order ≡ y.turn.order = has_order s c y.turn.order t is.turn.found in
                  inl (record {
                    way = record {
                      vehicle = drives.vehicle;
                      found = drives.found;
                      holder = drives.holder;
                      mobilised = drives.mobilised;
                      turn = t;
                      turn_found =
                          subst (λ (k : ℕ). turn_at c k s ≡ Some t) (sym order) is.turn.found;
                      unended = is.turn.unended;
                      own = is.turn.own;
                      for_it = is.turn.for_it;
                    };
                    unseen = is.unseen;
                    late = earlier_start 60 60 m _ _ (omega arith) (omega (arith, is.ordered)) h.late;
                  })
            ]
      ]

  late_stays : (n : ℕ) (c : Callsign) → HasLate d m r n c → Stays (LateForScene n c)
  unfolding incident_of
  late_stays n c h =
      let s = room_after e r in
      let y = h.way in
      let i = incident_kept Over r d n h.incident h.found xs effects in
      elim (way_kept Over r d n c y.vehicle y.found y.holder y.mobilised (LateForScene n c) (λ o. o.1) xs effects) [
        | inr ended ↦ over (LateForScene n c) ended
        | inl drives ↦
            elim (late_kept Over r d n c y.turn.order y.turn y.turn_found y.unended y.own y.for_it xs effects) [
              | inr ended ↦ over (LateForScene n c) ended
              | inl is ↦
                  let t = is.turn in
                  let order : t.order ≡ y.turn.order = has_order s c y.turn.order t is.found in
                  elim i.class [
                    | inl zero_class ↦
                        inr (or_right (is_ended_by d (LateForScene n c) e r) (loses_class d (LateForScene n c) s)
                        (ap is_unclassed i.found ∙ eq-eqb i.incident.class 0 zero_class))
                    | inr shorter ↦
                        inl (record {
                          way = record {
                            vehicle = drives.vehicle;
                            found = drives.found;
                            holder = drives.holder;
                            mobilised = drives.mobilised;
                            turn = t;
                            turn_found =
                                subst (λ (k : ℕ). turn_at c k s ≡ Some t) (sym order) is.found;
                            unended = is.unended;
                            own = is.own;
                            for_it = is.for_it;
                          };
                          incident = i.incident;
                          found = i.found;
                          late = earlier_start _ _ m _ _ shorter i.opened h.late;
                        })
                  ]
            ]
      ]

  report_goes_on : (n : ℕ) (c : Callsign) → HasReport d m r n c → Stays (OutOfTurn n c)
  report_goes_on n c h = elim (report_stays Over r d n c h.report h.found h.own xs effects) [
    | inr ended ↦ over (OutOfTurn n c) ended
    | inl found ↦ inl (record { report = h.report; found = found; own = h.own; unended = h.unended })
  ]

  loan_goes_on : (n : ℕ) (c : Callsign) → HasOverdue d m r n c → Stays (Overdue n c)
  loan_goes_on n c h = elim (loan_stays Over r d n c h.loan h.found xs effects) [
    | inr ended ↦ over (Overdue n c) ended
    | inl is ↦
        let l = is.loan in
        let lender = is.same.0 in
        let borrower = is.same.1 in
        inl (record {
          loan = l;
          found = is.found;
          party =
              ap (λ (p : ℕ × ℕ). p.0 == d || p.1 == d) (λ i. (lender i, borrower i)) ∙ h.party;
          other =
              ap (λ (p : ℕ × ℕ). cond (p.0 == d) p.1 p.0) (λ i. (lender i, borrower i)) ∙ h.other;
          late = ap (λ (n : ℕ). nat_lt n m) is.same.2 ∙ h.late;
        })
  ]

  shift_goes_on : (c : Callsign) → HasShiftOver d m r c → Stays (ShiftOver c)
  shift_goes_on c h = elim (shift_kept Over r d c h.vehicle h.found h.holder h.on xs effects) [
    | inr ended ↦ over (ShiftOver c) ended
    | inl is ↦
        inl (record {
          vehicle = is.vehicle;
          found = is.found;
          holder = is.holder;
          on = is.on;
          late = ap (λ (n : ℕ). nat_le n m) is.end_same ∙ h.late;
        })
  ]

  offer_goes_on : (n : ℕ) (c : Callsign) → HasUnanswered d m r n c → Stays (Unanswered n c)
  offer_goes_on n c h = elim (offer_stays Over r d n c h.offer h.found xs effects) [
    | inr ended ↦ over (Unanswered n c) ended
    | inl found ↦
        inl (record {
          offer = h.offer;
          found = found;
          party = h.party;
          other = h.other;
          late = h.late;
        })
  ]

  abbrev holds : ℕ → Vehicle → Bool
  holds n v = is_eligible d m v && has_post n v.post

  holder_was : (n : ℕ) (u : Vehicle) → Among u (filter (holds n) (room_after e r).vehicles)
      → ((v : Vehicle) × Among v (filter (holds n) r.vehicles) × (v.callsign ≡ u.callsign))
      ⊎ Over d (Uncovered n)
  unfolding holders
  holder_was n u a =
      let is = among_filter (holds n) (room_after e r).vehicles u a in
      let eligible = left_true (is_eligible d m u) _ is.1 in
      let rest = right_true (u.holder == d) _ eligible in
      let own = left_true (u.holder == d) _ eligible in
      elim (posted_kept Over r w n xs effects u is.0 (right_true (is_eligible d m u) _ is.1)) [
        | inr now ↦
            inr (subst (λ (h : ℕ). Over h (Uncovered n)) (eqb-true u.holder d own) now.1.over)
        | inl was ↦
            let v = was.0 in
            let key : u.callsign
            ≡ v.callsign = row_key callsign_cmp vehicle_key callsigns_total exact_callsigns r.vehicles u.callsign v
            was.1.found in
            inl (
              v,
              among_passing (holds n) r.vehicles v
                  (row_there callsign_cmp vehicle_key r.vehicles u.callsign v was.1.found) (both_true _ _ (both_true _ _
                  (ap (λ (h : ℕ). h == d) (sym was.1.holder) ∙ own)
                  (both_true _ _ (posted_free r w u.callsign v was.1.found n was.1.post)
                  (ap (λ (h : ℕ). nat_lt m h) (sym was.1.end) ∙ right_true (is_free u.status) _ rest))) was.1.post),
              sym key,
            )
      ]

  point_goes_on : IsWellFormed (room_after e r) → (n : ℕ) → HasUncovered d m r n → Stays (Uncovered n)
  unfolding holders
  point_goes_on after n h = elim (point_stays Over r d n h.point h.found xs effects) [
    | inr ended ↦ over (Uncovered n) ended
    | inl found ↦
        elim (all_or (λ u. (v : Vehicle) × Among v (filter (holds n) r.vehicles) × (v.callsign ≡ u.callsign))
        (Over d (Uncovered n)) (filter (holds n) (room_after e r).vehicles) (holder_was n)) [
          | inr ended ↦ over (Uncovered n) ended
          | inl had ↦
              let few = fewer_keys callsign_cmp vehicle_key callsigns_total
              (filter (holds n) (room_after e r).vehicles) (filter (holds n) r.vehicles)
              (keyed_filter callsign_cmp vehicle_key callsigns_total (holds n) (room_after e r).vehicles
              after.order.vehicles)
              (keyed_filter callsign_cmp vehicle_key callsigns_total (holds n) r.vehicles w.order.vehicles) had in
              inl (record {
                point = h.point;
                found = found;
                short = lt-ltb _ _ (omega (arith, ltb-true _ _ h.short, few));
              })
        ]
  ]

  pub stays : IsWellFormed (room_after e r) → (k : Concern) → Has d m r k → Stays k
  stays after (Unserved n) h = unserved_stays n h
  stays after (Unacknowledged n c) h = unacknowledged_stays n c h
  stays after (LateForScene n c) h = late_stays n c h
  stays after (OutOfTurn n c) h = report_goes_on n c h
  stays after (Overdue n c) h = loan_goes_on n c h
  stays after (ShiftOver c) h = shift_goes_on c h
  stays after (Uncovered n) h = point_goes_on after n h
  stays after (Unanswered n c) h = offer_goes_on n c h

-- ---- over steps
one_step : (d m : ℕ) (k : Concern) (e : Event) (r : Room) (w : IsWellFormed r) → IsSingle e
    → IsWellFormed (room_after e r) → Has d m r k → Has d m (room_after e r) k ⊎ Ends d k e r
one_step d m k e r w single after h = go (changes_of (decided e r)) refl
  where
    go : (cs : List Change) → changes_of (decided e r) ≡ cs → Has d m (room_after e r) k ⊎ Ends d k e r
    go [] same = inl (subst (λ cs. Has d m (apply r cs) k) (sym same) h)
    go (c ∷ cs) same = elim (stays d m e r w single after k h) [
      | inl still ↦ inl still
      | inr ends ↦ inr ((λ none. let both : [] ≡ c ∷ cs = sym none ∙ same in cc), ends)
    ]

steps_still : (d m : ℕ) (k : Concern) (es : List Event) (r : Room) → IsWellFormed r
    → AreAddressed es r → AreSingle es → Has d m r k
    → Has d m (room_run es r) k ⊎ HappensIn (Ends d k) es r
steps_still d m k [] r w known single h = inl h
steps_still d m k (e ∷ es) r w known single h =
    let after = event_kept e r w known.0 known.1 in
    elim (one_step d m k e r w single.0 after h) [
      | inr ends ↦ inr (inl ends)
      | inl still ↦
          elim (steps_still d m k es (room_after e r) after
          (addressed_still es r (changes_of (decided e r)) known.2) single.1 still) [
            | inl on ↦ inl on
            | inr ended ↦ inr (inr ended)
          ]
    ]

-- ---- over a run
one_event : (d m : ℕ) (k : Concern) (e : Event) (r : Room) → IsWellFormed r → IsAddressed e r
    → IsNumbered e.ask → Has d m r k
    → Has d m (room_after e r) k ⊎ HappensIn (Ends d k) (steps_of e r) r
one_event d m k e r w known numbered h =
    subst (λ s. Has d m s k ⊎ HappensIn (Ends d k) (steps_of e r) r) (sym (steps_run e r))
    (steps_still d m k (steps_of e r) r w (steps_addressed e r known numbered) (steps_single e r) h)

pub has_still : (d m : ℕ) (k : Concern) (es : List Event) (r : Room) → IsWellFormed r
    → AreAddressed es r → Has d m r k → Has d m (room_run es r) k ⊎ IsEnded d k es r
has_still d m k [] r w known h = inl h
has_still d m k (e ∷ es) r w known h =
    elim (one_event d m k e r w known.0 known.1 h) [
      | inr ends ↦ inr (inl ends)
      | inl still ↦
          elim (has_still d m k es (room_after e r) (event_kept e r w known.0 known.1)
          (addressed_still es r (changes_of (decided e r)) known.2) still) [
            | inl on ↦ inl on
            | inr ended ↦ inr (inr ended)
          ]
    ]

run_well : (es : List Event) (r : Room) → IsWellFormed r → AreAddressed es r → IsWellFormed (room_run es r)
run_well [] r w known = w
run_well (e ∷ es) r w known =
    run_well es (room_after e r) (event_kept e r w known.0 known.1)
    (addressed_still es r (changes_of (decided e r)) known.2)

pub due_still : (d m t : ℕ) (k : Concern) (es : List Event) (r : Room) → IsWellFormed r
    → AreAddressed es r → m ≤ t → IsDue d k m r
    → IsDue d k t (room_run es r) ⊎ IsEnded d k es r
due_still d m t k es r w known le h = elim (has_still d m k es r w known (has_due d m r w k h)) [
  | inr ended ↦ inr ended
  | inl has ↦ inl (due d t (room_run es r) (run_well es r w known) k (later d m t (room_run es r) le k has))
]
