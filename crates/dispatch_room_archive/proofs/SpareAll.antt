-- What is decided in a room spares what stays behind.
use Rattle.std.proofs.Common.{ap, arith, eqb-true, inl, inr, subst, sym, ◌∙◌}
use Rattle.std.specs.Ordering.{nat_cmp}
use Rattle.std.specs.Prelude.{Bool, List, None, Option, Some, [], cond, false, filter, is_some, map}
use Rattle.std.specs.Prelude.{max, not, refl, true, ℕ, ◌&&◌, ◌+◌, ◌++◌, ◌<◌, ◌==◌, ◌∷◌, ◌≡◌, ◌≤◌}
use Rattle.std.specs.Prelude.{◌⊎◌}
use Rattle.room_place.specs.Choice.{Among, least_from}
use Rattle.room_place.specs.Plans.{division_of}
use Rattle.room_place.specs.declared.places.Place.{Place}
use Rattle.room_types.specs.KeyedRows.{keep, row_at}
use Rattle.room_types.specs.Codes.{is_active}
use Rattle.room_types.specs.Keys.{division_key, incident_key, numbered_cmp, pair_cmp, report_key}
use Rattle.room_types.specs.KeyLemmas.{exact_pair, pairs_total}
use Rattle.room_types.specs.Slices.{IsActive}
use Rattle.room_types.specs.Texts.{Callsign}
use Rattle.room_types.specs.declared.asks.Ask.{Ask}
use Rattle.room_types.specs.declared.asks.Move.{Move}
use Rattle.room_types.specs.declared.asks.NewCall.{NewCall}
use Rattle.room_types.specs.declared.asks.Press.{Press}
use Rattle.room_types.specs.declared.asks.Who.{Who}
use Rattle.room_types.specs.declared.asks.Who.TheVariants.{Crew, Desk, Position}
use Rattle.room_types.specs.declared.changes.Change.{Change}
use Rattle.room_types.specs.declared.changes.Change.TheVariants.{DropAssignment, PutVehicle}
use Rattle.room_types.specs.declared.codes.Button.{Button}
use Rattle.room_types.specs.declared.codes.Button.TheVariants as button
use Rattle.room_types.specs.declared.codes.Status.TheVariants.{Returning}
use Rattle.room_types.specs.declared.refusal_statuses.Refusal.{Refusal}
use Rattle.room_types.specs.declared.tables.Call.{Call}
use Rattle.room_types.specs.declared.tables.Division.{Division}
use Rattle.room_types.specs.declared.tables.Incident.{Incident}
use Rattle.room_types.specs.declared.tables.Loan.{Loan}
use Rattle.room_types.specs.declared.tables.Offer.{Offer}
use Rattle.room_types.specs.declared.tables.Report.{Report}
use Rattle.room_types.specs.declared.tables.Turn.{Turn}
use Rattle.room_types.specs.declared.tables.Vehicle.{Vehicle}
use Rattle.room_model.proofs.Changes.{AllOf}
use Rattle.room_model.proofs.DecisionLaws.{by_refuse, by_report}
use Rattle.room_model.proofs.KeptAsks.{mobilise_kept, stand_down_kept}
use Rattle.room_model.proofs.KeptIncidents.{incident_there}
use Rattle.room_model.proofs.MoveFolds.{apply_both, by_ask, by_moves}
use Rattle.room_model.proofs.OpenTurns.{open_there, row_there}
use Rattle.room_model.proofs.Others.{held_is, keep_some}
use Rattle.room_model.proofs.Questions.{IsQuiet, by_quiet}
use Rattle.room_model.proofs.Tests.{among_filter, left_true, right_true, row_key}
use Rattle.room_model.specs.Calls.{call_in, call_kept, call_somewhere, call_taken, new_call}
use Rattle.room_model.specs.Decisions.{Verdict, changes_of, refuse_if, where_active, where_held}
use Rattle.room_model.specs.Incidents.{change_needs, close, close_active, merge, merge_of}
use Rattle.room_model.specs.Incidents.{moved_call, needs_changed}
use Rattle.room_model.specs.Loans.{accept, accepted, decline, declined, give_back, given_back, lend}
use Rattle.room_model.specs.Loans.{offered, recall, recall_lent, withdraw, withdrawn}
use Rattle.room_model.specs.Queries.{borrowed, calls_of, held, incident_of, is_attended}
use Rattle.room_model.specs.Queries.{is_candidate, is_nearer, kept_call, kept_report, last_number}
use Rattle.room_model.specs.Queries.{lent, link_target, offered_by, offered_to, open_turn, point_of}
use Rattle.room_model.specs.Queries.{report_of, served, vehicle_at}
use Rattle.room_model.specs.Queue.{clear, clear_found}
use Rattle.room_model.specs.Reports.{back_changes, drop_changes, ends_turn, is_due, is_home}
use Rattle.room_model.specs.Reports.{outcome_of, report_held, report_in, report_kept}
use Rattle.room_model.specs.Reports.{report_somewhere, turn_after, turn_changes}
use Rattle.room_model.specs.Room.{Room, apply}
use Rattle.room_model.specs.Step.{ask_of, course, desk_asks, moves_in, position_asks, single_asks}
use Rattle.room_model.specs.Step.{verdict_of, who_asks}
use Rattle.room_model.specs.Vehicles.{duty, mobilise, mobilise_held, mobilised, off, off_duty}
use Rattle.room_model.specs.Vehicles.{on_duty, stand_down, stand_down_held, standby, standby_at}
use Rattle.room_model.specs.Vehicles.{stands_by, turn_stood_down}
use Rattle.room_model.specs.RoomAgreements.{IsGiven, IsWellFormed, NumberAgrees}
use Rattle.dispatch_room_archive.proofs.AskedAlike.{active_among, call_among, report_settled}
use Rattle.dispatch_room_archive.proofs.LeftBehind.{from_left, not_true}
use Rattle.dispatch_room_archive.proofs.RenewedAgreements.{active_stays, open_stays}
use Rattle.dispatch_room_archive.proofs.SparingChanges.{Spares, last_after, stays_all}
use Rattle.dispatch_room_archive.specs.Continuation.{IsOver, IsSettled, StaysBehind}
use Rattle.dispatch_room_archive.specs.Successor.{Behind}
use Rattle.room_types.specs.declared.asks.Ask.TheVariants as ask
use Rattle.room_types.specs.declared.refusal_statuses.Refusal.TheVariants as refusal

no_more : (n : ℕ) → n + 1 ≤ n → ⊥
no_more n h = omega (arith, h)

-- the least of a list is one of it
least_among : {X : Type 0} (lt : X → X → Bool) (xs : List X) (o : Option X) (x : X)
    → least_from lt o xs ≡ Some x → (o ≡ Some x) ⊎ Among x xs
least_among lt [] o x e = inl e
least_among lt (y ∷ ys) None x e =
    inr (elim (least_among lt ys (Some y) x e) [ inl g ↦ let same : x ≡ y = cc in inl same | inr g ↦ inr g ])
least_among {X} lt (y ∷ ys) (Some z) x e =
    (elim (lt y
    z) as (λ (b : Bool). least_from lt (cond b (Some y) (Some z)) ys ≡ Some x → (Some z ≡ Some x) ⊎ Among x (y ∷ ys)) [
      | true ↦
          λ f. inr (elim (least_among lt ys (Some y) x f) [ inl g ↦ let same : x ≡ y = cc in inl same | inr g ↦ inr g ])
      | false ↦ λ f. elim (least_among lt ys (Some z) x f) [ inl g ↦ inl g | inr g ↦ inr (inr g) ]
    ]) e

no_incident : (since : ℕ) (o : Option Incident) → o ≡ None → IsOver since o → ⊥
no_incident since None e h = h
no_incident since (Some i) e h = cc

no_report : (v : Option Vehicle) (n : ℕ) (o : Option Report) → o ≡ None → IsSettled v n o → ⊥
no_report v n None e h = h
no_report v n (Some x) e h = cc

-- a turn that goes on or ends is of the same incident
module _ (b : Behind) (at : ℕ) (t : Turn) (spared : b.incident t.division t.incident ≡ false) where
  turn_spared : (x : Button)
      → b.incident (turn_after x at t).division (turn_after x at t).incident ≡ false
  turn_spared button.Position = spared
  turn_spared button.Mobile = spared
  turn_spared button.Scene = spared
  turn_spared button.Leave = spared
  turn_spared button.Hospital = spared
  turn_spared button.Return = spared
  turn_spared button.Home = spared

module _ (since : ℕ) (b : Behind) (r : Room) (w : IsWellFormed r) (h : StaysBehind since b r) where
  abbrev Holds : Verdict → Type 0
  Holds x = AllOf (Spares b) (changes_of x)

  refuse : (x : Bool) (e : Refusal) (y : Verdict) → (x ≡ false → Holds y) → Holds (refuse_if x e y)
  refuse x e y f = by_refuse Holds x e y tt f

  append : (cs ds : List Change) → AllOf (Spares b) cs → AllOf (Spares b) ds
      → AllOf (Spares b) (cs ++ ds)
  append [] ds f g = g
  append (c ∷ cs) ds f g = (f.0, append cs ds f.1 g)

  quiet : (who : Who) (a : Ask) (at : ℕ) → IsQuiet who a → Holds (who_asks who a at r)
  quiet who a at q = by_quiet at r (AllOf (Spares b)) who a q tt

  -- ---- what is found is spared
  by_vehicle : (d : ℕ) (c : Callsign) (f : Vehicle → Verdict)
      → ((v : Vehicle) → ((n : ℕ) → b.report v.callsign n ≡ true → n < v.last_report) → Holds (f v))
      → Holds (where_held (held d c r) (lent d c r) f)
  by_vehicle d c f g =
      (elim (held d c r) as (λ (o : Option Vehicle). held d c r ≡ o → Holds (where_held o (lent d c r) f)) [
        | None ↦ λ e. tt
        | Some v ↦ λ e. g v (last_after since b r h v (held_is d c r v e).there)
      ]) refl

  -- an incident that was found and is active
  pub record IsSpared (d n : ℕ) (i : Incident) : Type 0 where
    pub division : d ≡ i.division
    pub number : n ≡ i.number
    pub spared : b.incident i.division i.number ≡ false

  found : (d n : ℕ) (i : Incident) → incident_of d n r ≡ Some i → is_active i.state ≡ true
      → IsSpared d n i
  found d n i e active =
      let there = incident_there d r w n i e in
      record {
        division = there.1;
        number = there.2;
        spared = active_stays since b r w h i.division i.number (subst IsActive (sym there.0) active);
      }

  by_incident : (d n : ℕ) (f : Incident → Verdict) → ((i : Incident) → IsSpared d n i → Holds (f i))
      → Holds (where_active (incident_of d n r) f)
  by_incident d n f g =
      (elim (incident_of d n r) as (λ (o : Option Incident). incident_of d n r ≡ o → Holds (where_active o f)) [
        | None ↦ λ e. tt
        | Some i ↦
            λ e.
            refuse (not (is_active i.state)) refusal.IncidentNotOpen (f i)
            (λ active. g i (found d n i e (from_left _ active)))
      ]) refl

  open_spared : (d : ℕ) (c : Callsign) (t : Turn) → open_turn d c r ≡ Some t
      → b.incident t.division t.incident ≡ false
  open_spared d c t e = let there = open_there d c r w.order t e in open_stays since b r w h c t.order t there.0 there.1

  -- ---- a desk's asks
  stood_down : (d : ℕ) (c : Callsign) (at : ℕ) (o : Option Turn) → open_turn d c r ≡ o
      → AllOf (Spares b) (turn_stood_down at o)
  stood_down d c at None e = tt
  stood_down d c at (Some t) e = (open_spared d c t e, tt)

  moved_one : (d n m : ℕ) → b.incident d n ≡ false → b.incident d m ≡ false → (c : Call)
      → Among c (calls_of d n r) → Spares b (moved_call m c)
  unfolding calls_of
  moved_one d n m from to c a =
      let there = among_filter (λ (c : Call). c.division == d && c.incident == n) r.calls c a in
      let mine : c.division ≡ d = eqb-true c.division d (left_true _ _ there.1) in
      let number : c.incident ≡ n = eqb-true c.incident n (right_true (c.division == d) _ there.1) in (
        call_among since b r w h c there.0
            ∙ (ap (λ x. b.incident x c.incident) mine ∙ (ap (b.incident d) number ∙ from)),
        ap (λ x. b.incident x m) mine ∙ to,
      )

  moved_all : (d n m : ℕ) → b.incident d n ≡ false → b.incident d m ≡ false → (cs : List Call)
      → ((c : Call) → Among c cs → Among c (calls_of d n r))
      → AllOf (Spares b) (map (moved_call m) cs)
  moved_all d n m from to [] g = tt
  moved_all d n m from to (c ∷ cs) g =
      (moved_one d n m from to c (g c (inl refl)), moved_all d n m from to cs (λ x a. g x (inr a)))

  merged : (d n m : ℕ) (x y : Option Incident) (attended : Bool) → incident_of d n r ≡ x
      → incident_of d m r ≡ y → Holds (merge_of x y attended (calls_of d n r))
  merged d n m None y attended e f = tt
  merged d n m (Some i) None attended e f = tt
  merged d n m (Some i) (Some j) attended e f =
      refuse _ _ _ (λ other. refuse _ _ _ (λ first. refuse _ _ _ (λ second. refuse _ _ _ (λ left.
      let p = found d n i e (from_left _ first) in
      let q = found d m j f (from_left _ second) in
      let from : b.incident d n
      ≡ false = ap (λ x. b.incident x n) p.division ∙ (ap (b.incident i.division) p.number ∙ p.spared) in (
        q.spared,
        (
          p.spared,
          moved_all d n j.number from (ap (λ x. b.incident x j.number) q.division ∙ q.spared) (calls_of d n r)
              (λ c a. a),
        ),
      )))))

  withdrawn_all : (o : Option Offer) (v : Vehicle)
      → ((n : ℕ) → b.report v.callsign n ≡ true → n < v.last_report) → Holds (withdrawn o v)
  withdrawn_all None v q = tt
  withdrawn_all (Some o) v q = (q, (tt, tt))

  declined_all : (o : Option Offer) → Holds (declined o)
  declined_all None = tt
  declined_all (Some o) = (tt, (tt, tt))

  accepted_all : (o : Option Offer) (at : ℕ) → Holds (accepted o at)
  accepted_all None at = tt
  accepted_all (Some o) at = (tt, (tt, (tt, tt)))

  recalled_all : (l : Option Loan) (v : Option Vehicle) → Holds (recall_lent l v)
  recalled_all (Some l) v = (tt, tt)
  recalled_all None (Some v) = tt
  recalled_all None None = tt

  standby_all : (p : Option ℕ) (has : ℕ → Bool) (at : ℕ) (v : Vehicle)
      → ((n : ℕ) → b.report v.callsign n ≡ true → n < v.last_report) → Holds (standby_at p has at v)
  standby_all None has at v q = (q, tt)
  standby_all (Some n) has at v q = refuse _ _ _ (λ e. refuse _ _ _ (λ f. (q, tt)))

  -- an exception that is cleared
  cleared_all : (d : ℕ) (c : Callsign) (n : ℕ) (o : Option Report) → report_of d c n r ≡ o
      → Holds (clear_found o)
  unfolding report_of
  cleared_all d c n None e = tt
  cleared_all d c n (Some x) e = refuse _ _ _ (λ f. (
    not_true (b.report x.callsign x.number) (λ g.
        let there = row_there numbered_cmp report_key r.reports (c, n) x
        (keep_some (λ (z : Report). z.division == d) (row_at numbered_cmp report_key r.reports (c, n)) x e).0 in
        let settled = report_settled since b r w h x there g in
        cc),
    tt,
  ))

  pub single_all : (d : ℕ) (a : Ask) (at : ℕ) → Holds (single_asks d a at r)
  unfolding mobilise change_needs merge close stand_down standby duty off lend withdraw decline accept recall give_back
      clear
  single_all d (ask.Mobilise n c) at =
      by_incident d n (mobilise_held d (held d c r) (lent d c r) at (λ k. served d n k r))
      (λ i p.
      by_vehicle d c (mobilised d i at (λ k. served d n k r))
      (λ v q.
      refuse _ _ _ (λ e.
      refuse _ _ _ (λ f.
      refuse _ _ _
      (λ g. refuse _ _ _ (λ k. (p.spared, (q, (ap (λ x. b.incident x i.number) p.division ∙ p.spared, (tt, tt))))))))))
  single_all d (ask.Needs n needs) at =
      by_incident d n (needs_changed needs (λ k. served d n k r)) (λ i p. refuse _ _ _ (λ e. (p.spared, tt)))
  single_all d (ask.Merge n m) at = merged d n m (incident_of d n r) (incident_of d m r) (is_attended d n r) refl refl
  single_all d (ask.Close n) at =
      by_incident d n (close_active (is_attended d n r)) (λ i p. refuse _ _ _ (λ e. (p.spared, tt)))
  single_all d (ask.Moves ms) at = tt
  single_all d (ask.StandDown c) at =
      by_vehicle d c (stand_down_held at (open_turn d c r)) (λ v q.
      refuse _ _ _ (λ e.
      append (turn_stood_down at (open_turn d c r))
      (DropAssignment v.callsign ∷ PutVehicle (record v { status = Returning }) ∷ [])
      (stood_down d c at (open_turn d c r) refl) (tt, (q, tt))))
  single_all d (ask.Standby c p) at =
      by_vehicle d c (stands_by p (λ n. is_some (point_of d n r)) at)
      (λ v q. refuse _ _ _ (λ e. standby_all p _ at v q))
  single_all d (ask.Duty c place until) at =
      by_vehicle d c (on_duty place until at) (λ v q. refuse _ _ _ (λ e. refuse _ _ _ (λ f. (q, tt))))
  single_all d (ask.Off c) at = by_vehicle d c off_duty (λ v q. refuse _ _ _ (λ e. refuse _ _ _ (λ f. (q, tt))))
  single_all d (ask.Lend c to until) at =
      by_vehicle d c (offered r.plan d to until at) (λ v q.
      refuse _ _ _ (λ e. refuse _ _ _ (λ f. refuse _ _ _ (λ g. refuse _ _ _ (λ k. refuse _ _ _ (λ l. (q, (tt, tt))))))))
  single_all d (ask.Withdraw c) at = by_vehicle d c (withdrawn (offered_by d c r)) (withdrawn_all (offered_by d c r))
  single_all d (ask.Decline c) at = declined_all (offered_to d c r)
  single_all d (ask.Accept c) at = accepted_all (offered_to d c r) at
  single_all d (ask.Recall c) at = recalled_all (lent d c r) (held d c r)
  single_all d (ask.GiveBack c) at =
      by_vehicle d c (given_back d (borrowed d c r)) (λ v q. refuse _ _ _ (λ e. refuse _ _ _ (λ f. (q, (tt, tt)))))
  single_all d (ask.Clear c n) at = cleared_all d c n (report_of d c n r) refl
  single_all d (ask.SetPoint n place cover) at = (tt, tt)
  single_all d a at = quiet (Desk d) a at refl

  -- ---- a call
  target_spared : (d : ℕ) (p : Place) (at : ℕ) (i : Incident) → link_target d p at r ≡ Some i
      → (i.division ≡ d) × (b.incident i.division i.number ≡ false)
  unfolding link_target
  target_spared d p at i e = elim (least_among (is_nearer p) (filter (is_candidate d p at) r.incidents) None i e) [
    | inl none ↦ cc
    | inr a ↦
        let there = among_filter (is_candidate d p at) r.incidents i a in (
          eqb-true i.division d (left_true (i.division == d) _ there.1),
          active_among since b r w h i there.0
              (left_true (is_active i.state) _ (right_true (i.division == d) _ there.1)),
        )
  ]

  -- a number that is not given yet
  beyond : (d : ℕ) (v : Division) (o : Option Incident)
      → row_at pair_cmp incident_key r.incidents (d, v.last_incident + 1) ≡ o
      → row_at nat_cmp division_key r.divisions d ≡ Some v → NumberAgrees r o → IsOver since o → ⊥
  beyond d v None e there g over = over
  beyond d v (Some i) e there g over =
      let key : (d, v.last_incident + 1)
      ≡ (i.division, i.number) =
      row_key pair_cmp incident_key pairs_total exact_pair r.incidents (d, v.last_incident + 1) i e in
      no_more v.last_incident (subst (IsGiven (v.last_incident + 1))
      (ap (row_at nat_cmp division_key r.divisions) (sym (ap (λ (k : ℕ × ℕ). k.0) key)) ∙ there)
      (subst (λ n. IsGiven n (row_at nat_cmp division_key r.divisions i.division)) (sym (ap (λ (k : ℕ × ℕ). k.1) key))
      g.1))

  new_number : (d : ℕ) (v : Division) → last_number d r ≡ Some v
      → b.incident d (v.last_incident + 1) ≡ false
  unfolding last_number incident_of
  new_number d v there =
      not_true (b.incident d (v.last_incident + 1))
      (λ e. beyond d v _ refl there (w.numbers d (v.last_incident + 1)) (h.incidents d (v.last_incident + 1) e))

  new_call_spared : (p s : ℕ) → kept_call p s r ≡ None → b.call p s ≡ false
  new_call_spared p s e = h.calls p s ∙ ap (λ o. is_some (keep (λ (c : Call). b.incident c.division c.incident) o)) e

  taken_all : (d : ℕ) (new : NewCall) (i : Option Incident) (v : Option Division)
      → kept_call new.position new.serial r ≡ None → link_target d new.place new.at r ≡ i
      → last_number d r ≡ v → Holds (call_taken d new i v)
  taken_all d new (Some i) v e target last =
      let p = target_spared d new.place new.at i target in
      (p.1, ((new_call_spared new.position new.serial e, ap (λ x. b.incident x i.number) (sym p.0) ∙ p.1), tt))
  taken_all d new None None e target last = tt
  taken_all d new None (Some v) e target last =
      refuse _ _ _
      (λ f. (tt, (new_number d v last, ((new_call_spared new.position new.serial e, new_number d v last), tt))))

  somewhere_all : (o : Option ℕ) (new : NewCall) → kept_call new.position new.serial r ≡ None
      → Holds (call_somewhere o new r)
  unfolding call_in
  somewhere_all None new e = tt
  somewhere_all (Some d) new e = taken_all d new (link_target d new.place new.at r) (last_number d r) e refl refl

  call_all : (new : NewCall) (o : Option Call) → kept_call new.position new.serial r ≡ o
      → Holds (call_kept o new r)
  call_all new (Some k) e = refuse _ _ _ (λ f. tt)
  call_all new None e = somewhere_all (division_of r.plan new.place) new e

  position_all : (p : ℕ) (a : Ask) (at : ℕ) → Holds (position_asks p a at r)
  position_all p (ask.Call f) at = call_all (new_call p f at) (kept_call p f.serial r) refl
  position_all p a at = quiet (Position p) a at refl

  -- ---- a report
  turn_all : (x : Button) (at : ℕ) (t : Option Turn)
      → ((u : Turn) → t ≡ Some u → b.incident u.division u.incident ≡ false)
      → AllOf (Spares b) (turn_changes x at t)
  turn_all x at None q = tt
  turn_all x at (Some t) q = (turn_spared b at t (q t refl) x, tt)

  drop_all : (c : Callsign) (x : Bool) → AllOf (Spares b) (drop_changes c x)
  drop_all c true = (tt, tt)
  drop_all c false = tt

  back_all : (c : Callsign) (x : Bool) → AllOf (Spares b) (back_changes c x)
  back_all c true = (tt, tt)
  back_all c false = tt

  reported_all : (d : ℕ) (c : Callsign) (v : Option Vehicle) → held d c r ≡ v → (t : Option Turn)
      → ((u : Turn) → t ≡ Some u → b.incident u.division u.incident ≡ false)
      → (l : Option Loan) (p : Press) (at : ℕ) → kept_report c p.number r ≡ None
      → Holds (report_held v t l p at)
  reported_all d c None e t q l p at new = tt
  reported_all d c (Some v) e t q l p at new =
      let is = held_is d c r v e in
      let fresh : b.report v.callsign p.number
      ≡ false =
      not_true (b.report v.callsign p.number)
      (λ f.
      no_report (vehicle_at v.callsign r) p.number (kept_report v.callsign p.number r)
      (ap (λ k. kept_report k p.number r) (sym is.key) ∙ new) (h.reports v.callsign p.number f)) in
      let more : (n : ℕ) → b.report v.callsign n ≡ true → n < max v.last_report p.number = λ n f.
      let less = last_after since b r h v is.there n f in omega (arith, less) in
      by_report Holds v t l p at
      (λ o. (
        fresh,
        append _ _ (turn_all p.button at t q) (append _ _ (drop_all v.callsign (ends_turn p.button))
            (append _ _ (back_all v.callsign (is_home p.button && is_due at l)) (more, tt))),
      ))
      (λ o. (fresh, (more, tt)))
      (outcome_of v t p)

  report_all : (d : ℕ) (c : Callsign) (p : Press) (at : ℕ) → kept_report c p.number r ≡ None
      → Holds (report_in d c p at r)
  unfolding report_in
  report_all d c p at new =
      reported_all d c (held d c r) refl (open_turn d c r) (open_spared d c) (borrowed d c r) p at new

  placed_all : (v : Option Vehicle) (c : Callsign) (p : Press) (at : ℕ)
      → kept_report c p.number r ≡ None → Holds (report_somewhere v c p at r)
  placed_all None c p at new = tt
  placed_all (Some v) c p at new = report_all v.holder c p at new

  kept_all : (c : Callsign) (p : Press) (at : ℕ) (o : Option Report) → kept_report c p.number r ≡ o
      → Holds (report_kept o c p at r)
  kept_all c p at (Some k) e = refuse _ _ _ (λ f. tt)
  kept_all c p at None e = placed_all (vehicle_at c r) c p at e

  crew_all : (c : Callsign) (a : Ask) (at : ℕ) → Holds (who_asks (Crew c) a at r)
  crew_all c (ask.Report p) at = kept_all c p at (kept_report c p.number r) refl
  crew_all c a at = quiet (Crew c) a at refl

-- ---- whoever asks
module _ (since : ℕ) (b : Behind) where
  -- changes spare what stayed behind, and leave a room that they may follow
  abbrev SparesOn : Room → List Change → Type 0
  SparesOn r cs = IsWellFormed r → StaysBehind since b r
      → AllOf (Spares b) cs × IsWellFormed (apply r cs)

  both_on : (r : Room) (cs ds : List Change) → SparesOn r cs → SparesOn (apply r cs) ds
      → SparesOn r (cs ++ ds)
  both_on r cs ds f g w h =
      let first = f w h in
      let rest = g first.1 (stays_all since b r cs w.order first.0 h) in (
        append since b r w h cs ds first.0 rest.0,
        subst IsWellFormed (sym (apply_both r cs ds)) rest.1,
      )

  moves_all : (d : ℕ) (ms : List Move) (at : ℕ) (r : Room)
      → SparesOn r (changes_of (verdict_of (course d ms at r)))
  moves_all d ms at r =
      by_moves d at SparesOn (λ s w h. (tt, w))
      (λ m s w h. (
        single_all since b s w h d (ask_of m) at,
        by_ask (λ a. IsWellFormed (apply s (changes_of (single_asks d a at s))))
            (λ c. stand_down_kept d s w c at) (λ n c. mobilise_kept d s w n c at) m,
      )) both_on ms r

  desk_all : (d : ℕ) (a : Ask) (at : ℕ) (r : Room) (w : IsWellFormed r) (h : StaysBehind since b r)
      → AllOf (Spares b) (changes_of (desk_asks d a at r))
  desk_all d (ask.Moves ms) at r w h = (moves_all d (moves_in ms) at r w h).0
  desk_all d a at r w h = single_all since b r w h d a at

  pub who_all : (r : Room) (w : IsWellFormed r) (h : StaysBehind since b r) (who : Who) (a : Ask)
      (at : ℕ) → AllOf (Spares b) (changes_of (who_asks who a at r))
  who_all r w h (Desk d) a at = desk_all d a at r w h
  who_all r w h (Position p) a at = position_all since b r w h p a at
  who_all r w h (Crew c) a at = crew_all since b r w h c a at
