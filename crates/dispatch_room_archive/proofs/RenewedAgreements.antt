-- A well-formed room without what stays behind is well-formed.
use Rattle.std.proofs.Common.{ap, arith, inl, inr, subst, sym, ◌∙◌}
use Rattle.std.specs.Prelude.{Bool, IfSome, None, Option, Some, cond, false, is_some, not, refl}
use Rattle.std.specs.Prelude.{true, ℕ, ◌<◌, ◌≡◌}
use Rattle.room_place.specs.Plans.{has_division}
use Rattle.room_types.proofs.KeyedLaws.{keyed_filter}
use Rattle.room_types.specs.KeyedRows.{keep, row_at}
use Rattle.room_types.specs.Codes.{is_busy}
use Rattle.room_types.specs.Keys.{assignment_key, call_key, callsign_cmp, incident_key}
use Rattle.room_types.specs.Keys.{numbered_cmp, pair_cmp, report_key, turn_key, vehicle_key}
use Rattle.room_types.specs.KeyLemmas.{callsigns_total, exact_callsigns, exact_pair, numbered_total}
use Rattle.room_types.specs.KeyLemmas.{pairs_total}
use Rattle.room_types.specs.Slices.{IsActive}
use Rattle.room_types.specs.Texts.{Callsign}
use Rattle.room_types.specs.declared.tables.Assignment.{Assignment}
use Rattle.room_types.specs.declared.tables.Call.{Call}
use Rattle.room_types.specs.declared.tables.Incident.{Incident}
use Rattle.room_types.specs.declared.tables.Report.{Report}
use Rattle.room_types.specs.declared.tables.Turn.{Turn}
use Rattle.room_types.specs.declared.tables.Vehicle.{Vehicle}
use Rattle.room_model.proofs.Tests.{row_key}
use Rattle.room_model.specs.Queries.{incident_of, kept_call, kept_report, vehicle_at}
use Rattle.room_model.specs.Room.{IsInOrder, Room}
use Rattle.room_model.specs.RoomAgreements.{AreInPlan, CallAgrees, IsOfIncident, IsPost}
use Rattle.room_model.specs.RoomAgreements.{IsWellFormed, LastAgrees, NumberAgrees, OpenAgrees}
use Rattle.room_model.specs.RoomAgreements.{OpenedAgrees, PostAgrees, ReportAgrees, SameIncident}
use Rattle.room_model.specs.RoomAgreements.{TurnAgrees, TurnIsActive}
use Rattle.dispatch_room_archive.proofs.RowsLeft.{by_left, call_left, call_there, incident_left}
use Rattle.dispatch_room_archive.proofs.RowsLeft.{incident_there, kept_is, report_left}
use Rattle.dispatch_room_archive.proofs.RowsLeft.{report_there, turn_left}
use Rattle.dispatch_room_archive.specs.Continuation.{IsOver, IsSettled, StaysBehind}
use Rattle.dispatch_room_archive.specs.Successor.{Behind, without}

pub over_active : (since : ℕ) (o : Option Incident) → IsOver since o → IsActive o → ⊥
over_active since None h g = absurd h
over_active since (Some i) h g = let idle = h.0 in cc

settled_before : (o : Option Vehicle) (v : Vehicle) (x : Option Report) → o ≡ Some v
    → IsSettled o v.last_report x → ⊥
settled_before None v x e h = cc
settled_before (Some u) v None e h = absurd h
settled_before (Some u) v (Some x) e h =
    let same : u ≡ v = cc in
    let below = subst (λ (z : Vehicle). v.last_report < z.last_report) same h.1 in omega (arith, below)

shut_turn : (v : Vehicle) (n : ℕ) (t : Turn) (o : Option ℕ) → (o ≡ None → ⊥) → OpenAgrees v n t o
    → n ≡ v.last_order → is_busy v.status ≡ false
shut_turn v n t None ends g = absurd (ends refl)
shut_turn v n t (Some at) ends g = g

if_kept : {X : Type 0} (P : X → Type 0) (p : X → Bool) (o : Option X) → IfSome o P
    → IfSome (keep p o) P
if_kept P p None h = tt
if_kept {X} P p (Some x) h = of (p x)
  where
    of : (b : Bool) → IfSome (cond b (Some x) None) P
    of true = h
    of false = tt

module _ (since : ℕ) (b : Behind) (r : Room) (w : IsWellFormed r) (h : StaysBehind since b r) where
  abbrev new : Room
  new = without b r

  -- an active incident doesn't stay behind
  pub active_stays : (d n : ℕ) → IsActive (row_at pair_cmp incident_key r.incidents (d, n))
      → b.incident d n ≡ false
  unfolding incident_of
  active_stays d n active = (elim (b.incident d n) as (λ (x : Bool). b.incident d n ≡ x → x ≡ false) [
    | true ↦
        λ e. absurd (over_active since (row_at pair_cmp incident_key r.incidents (d, n)) (h.incidents d n e) active)
    | false ↦ λ e. refl
  ]) refl

  -- an open turn doesn't stay behind
  pub open_stays : (c : Callsign) (n : ℕ) (t : Turn)
      → row_at numbered_cmp turn_key r.turns (c, n) ≡ Some t → t.ended ≡ None
      → b.incident t.division t.incident ≡ false
  open_stays c n t e unended = active_stays t.division t.incident (subst (TurnIsActive r) e (w.active c n) unended)

  -- a call stays behind with its incident
  pub with_its_incident : (p s : ℕ) (c : Call) → row_at pair_cmp call_key r.calls (p, s) ≡ Some c
      → b.call p s ≡ b.incident c.division c.incident
  unfolding kept_call
  with_its_incident p s c e =
      h.calls p s ∙ ap (λ o. is_some (keep (λ (c : Call). b.incident c.division c.incident) o)) e
      ∙ kept_is (λ (c : Call). b.incident c.division c.incident) c

  -- a vehicle's last report doesn't stay behind
  pub last_stays : (c : Callsign) (v : Vehicle)
      → row_at callsign_cmp vehicle_key r.vehicles c ≡ Some v
      → b.report v.callsign v.last_report ≡ false
  unfolding kept_report vehicle_at
  last_stays c v e =
      (elim (b.report v.callsign v.last_report) as (λ (x : Bool). b.report v.callsign v.last_report ≡ x → x ≡ false) [
        | true ↦
            λ f.
            absurd (settled_before (row_at callsign_cmp vehicle_key r.vehicles v.callsign) v _
            (subst (λ (k : Callsign). row_at callsign_cmp vehicle_key r.vehicles k ≡ Some v)
            (row_key callsign_cmp vehicle_key callsigns_total exact_callsigns r.vehicles c v e) e)
            (h.reports v.callsign v.last_report f))
        | false ↦ λ f. refl
      ]) refl

  -- ---- turns
  turn_agrees : (v : Option Vehicle) (n : ℕ) (o : Option Turn)
      → ((t : Turn) → o ≡ Some t → t.ended ≡ None → b.incident t.division t.incident ≡ false)
      → TurnAgrees v n o
      → TurnAgrees v n (keep (λ t. not (b.incident t.division t.incident)) o)
  turn_agrees v n None unended g = g
  turn_agrees None n (Some t) unended g = absurd g
  turn_agrees (Some v) n (Some t) unended g =
      (elim (b.incident t.division t.incident) as (λ (x : Bool).
      b.incident t.division t.incident ≡ x → TurnAgrees (Some v) n (cond (not x) (Some t) None)) [
        | true ↦ λ e. shut_turn v n t t.ended (λ u. let spared = unended t refl u in cc) g.2
        | false ↦ λ e. g
      ]) refl

  same_kept : (a : Option Assignment) (o : Option Turn) → SameIncident a o
      → SameIncident a (keep (λ t. not (b.incident t.division t.incident)) o)
  same_kept None o g = tt
  same_kept (Some a) None g = tt
  same_kept (Some a) (Some t) g = of (b.incident t.division t.incident)
    where
      of : (x : Bool) → SameIncident (Some a) (cond (not x) (Some t) None)
      of true = tt
      of false = g

  active_kept : (o : Option Turn) → TurnIsActive r o
      → TurnIsActive new (keep (λ t. not (b.incident t.division t.incident)) o)
  active_kept None g = tt
  active_kept (Some t) g =
      (elim (b.incident t.division t.incident) as (λ (x : Bool).
      b.incident t.division t.incident ≡ x → TurnIsActive new (cond (not x) (Some t) None)) [
        | true ↦ λ e. tt
        | false ↦ λ e u. subst IsActive (sym (incident_there b r w.order t.division t.incident e)) (g u)
      ]) refl

  -- ---- calls and incidents
  call_agrees : (p s : ℕ) (o : Option Call) → row_at pair_cmp call_key r.calls (p, s) ≡ o
      → b.call p s ≡ false → CallAgrees r o → CallAgrees new o
  call_agrees p s None e f g = tt
  call_agrees p s (Some c) e f g =
      subst (IsOfIncident c)
      (sym (incident_there b r w.order c.division c.incident (sym (with_its_incident p s c e) ∙ f))) g

  opened_kept : (d n : ℕ) (o : Option Incident)
      → row_at pair_cmp incident_key r.incidents (d, n) ≡ o → b.incident d n ≡ false
      → OpenedAgrees r o → OpenedAgrees new o
  opened_kept d n None e f g = tt
  opened_kept d n (Some i) e f g = λ m.
      let o = g m in
      let key : (d, n)
      ≡ (i.division, i.number) = row_key pair_cmp incident_key pairs_total exact_pair r.incidents (d, n) i e in
      let stays : b.call o.position o.serial ≡ false = with_its_incident o.position o.serial o.first_call o.there
      ∙ (ap (λ x. b.incident x o.first_call.incident) o.same.0
      ∙ (ap (b.incident i.division) o.same.1 ∙ (ap (λ (k : ℕ × ℕ). b.incident k.0 k.1) (sym key) ∙ f))) in
      record {
        position = o.position;
        serial = o.serial;
        first_call = o.first_call;
        there = call_there b r w.order o.position o.serial stays ∙ o.there;
        same = o.same;
      }

  number_kept : (o : Option Incident) → NumberAgrees r o → NumberAgrees new o
  number_kept None g = tt
  number_kept (Some i) g = g

  -- ---- vehicles
  last_kept : (c : Callsign) (o : Option Vehicle)
      → row_at callsign_cmp vehicle_key r.vehicles c ≡ o → LastAgrees r o → LastAgrees new o
  last_kept c None e g = tt
  last_kept c (Some v) e g = elim g [
    | inl none ↦ inl none
    | inr there ↦ inr (ap is_some (report_there b r w.order v.callsign v.last_report (last_stays c v e)) ∙ there)
  ]

  post_kept : (v : Vehicle) (o : Option ℕ) → IsPost r v o → IsPost new v o
  post_kept v None g = tt
  post_kept v (Some n) g = g

  posts_kept : (o : Option Vehicle) → PostAgrees r o → PostAgrees new o
  posts_kept None g = tt
  posts_kept (Some v) g = post_kept v v.post g

  order_kept : IsInOrder new
  order_kept = record {
    divisions = w.order.divisions;
    incidents =
        keyed_filter pair_cmp incident_key pairs_total (λ i. not (b.incident i.division i.number)) r.incidents
        w.order.incidents;
    calls = keyed_filter pair_cmp call_key pairs_total (λ c. not (b.call c.position c.serial)) r.calls w.order.calls;
    vehicles = w.order.vehicles;
    turns =
        keyed_filter numbered_cmp turn_key numbered_total (λ t. not (b.incident t.division t.incident)) r.turns
        w.order.turns;
    assignments = w.order.assignments;
    points = w.order.points;
    loans = w.order.loans;
    offers = w.order.offers;
    reports =
        keyed_filter numbered_cmp report_key numbered_total (λ x. not (b.report x.callsign x.number)) r.reports
        w.order.reports;
  }

  plan_kept : AreInPlan new
  plan_kept = record {
    divisions = w.plan.divisions;
    homes = w.plan.homes;
    vehicles = w.plan.vehicles;
    turns =
        λ c n.
        subst (λ o. IfSome o (λ t. has_division r.plan t.division ≡ true)) (sym (turn_left b r w.order c n))
        (if_kept (λ (t : Turn). has_division r.plan t.division ≡ true) (λ t. not (b.incident t.division t.incident)) _
        (w.plan.turns c n));
    points = w.plan.points;
    reports =
        λ c n.
        subst (λ o. IfSome o (λ x. has_division r.plan x.division ≡ true)) (sym (report_left b r w.order c n))
        (by_left (λ (o : Option Report). IfSome o (λ x. has_division r.plan x.division ≡ true)) (b.report c n) _ tt
        (λ e. w.plan.reports c n));
  }

  pub well_formed_without : IsWellFormed new
  well_formed_without = record {
    order = order_kept;
    loans = w.loans;
    offers = w.offers;
    assignments = w.assignments;
    turns =
        λ c n.
        subst (TurnAgrees (row_at callsign_cmp vehicle_key r.vehicles c) n) (sym (turn_left b r w.order c n))
        (turn_agrees (row_at callsign_cmp vehicle_key r.vehicles c) n (row_at numbered_cmp turn_key r.turns (c, n))
        (open_stays c n) (w.turns c n));
    same_incident =
        λ c n.
        subst (SameIncident (row_at callsign_cmp assignment_key r.assignments c)) (sym (turn_left b r w.order c n))
        (same_kept (row_at callsign_cmp assignment_key r.assignments c) (row_at numbered_cmp turn_key r.turns (c, n))
        (w.same_incident c n));
    active =
        λ c n.
        subst (TurnIsActive new) (sym (turn_left b r w.order c n))
        (active_kept (row_at numbered_cmp turn_key r.turns (c, n)) (w.active c n));
    calls =
        λ p s.
        subst (CallAgrees new) (sym (call_left b r w.order p s))
        (by_left (CallAgrees new) (b.call p s) (row_at pair_cmp call_key r.calls (p, s)) tt
        (λ e. call_agrees p s _ refl e (w.calls p s)));
    opened =
        λ d n.
        subst (OpenedAgrees new) (sym (incident_left b r w.order d n))
        (by_left (OpenedAgrees new) (b.incident d n) (row_at pair_cmp incident_key r.incidents (d, n)) tt
        (λ e. opened_kept d n _ refl e (w.opened d n)));
    numbers =
        λ d n.
        subst (NumberAgrees new) (sym (incident_left b r w.order d n))
        (by_left (NumberAgrees new) (b.incident d n) (row_at pair_cmp incident_key r.incidents (d, n)) tt
        (λ e. number_kept _ (w.numbers d n)));
    reports =
        λ c n.
        subst (ReportAgrees (row_at callsign_cmp vehicle_key r.vehicles c) n) (sym (report_left b r w.order c n))
        (by_left (ReportAgrees (row_at callsign_cmp vehicle_key r.vehicles c) n) (b.report c n)
        (row_at numbered_cmp report_key r.reports (c, n)) tt (λ e. w.reports c n));
    last_reports = λ c. last_kept c _ refl (w.last_reports c);
    posts = λ c. posts_kept _ (w.posts c);
    plan = plan_kept;
  }
