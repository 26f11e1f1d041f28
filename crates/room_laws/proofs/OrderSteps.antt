-- What one step does to the list of orders: nothing, one put, or one drop.
use Rattle.std.proofs.Common.{ap, eqb-true, inl, inr, leb-false, subst, sym, ◌∙◌}
use Rattle.std.specs.Prelude.{Bool, List, None, Option, Some, [], cond, false, nat_le, nat_lt, not}
use Rattle.std.specs.Prelude.{refl, true, ℕ, ◌&&◌, ◌++◌, ◌==◌, ◌∷◌, ◌≡◌, ◌⊎◌}
use Rattle.room_place.specs.Choice.{Among}
use Rattle.room_types.specs.Codes.{acts, is_active, is_busy, is_free}
use Rattle.room_types.specs.KeyLemmas.{callsigns_total}
use Rattle.room_types.specs.KeyedRows.{drop_row, put_row, row_at}
use Rattle.room_types.specs.Keys.{assignment_key, callsign_cmp, vehicle_key}
use Rattle.room_types.specs.Texts.{Callsign}
use Rattle.room_types.specs.declared.asks.Ask.{Ask}
use Rattle.room_types.specs.declared.asks.Event.{Event}
use Rattle.room_types.specs.declared.asks.Press.{Press}
use Rattle.room_types.specs.declared.asks.Who.{Who}
use Rattle.room_types.specs.declared.asks.Who.TheVariants.{Crew, Desk, Position}
use Rattle.room_types.specs.declared.changes.Change.TheVariants.{DropAssignment, PutReport}
use Rattle.room_types.specs.declared.changes.Change.TheVariants.{PutVehicle}
use Rattle.room_types.specs.declared.codes.Button.{Button}
use Rattle.room_types.specs.declared.codes.Outcome.TheVariants.{Late, Stale}
use Rattle.room_types.specs.declared.codes.Status.TheVariants.{Returning}
use Rattle.room_types.specs.declared.tables.Assignment.{Assignment}
use Rattle.room_types.specs.declared.tables.Incident.{Incident}
use Rattle.room_types.specs.declared.tables.Loan.{Loan}
use Rattle.room_types.specs.declared.tables.Report.{Report}
use Rattle.room_types.specs.declared.tables.Turn.{Turn}
use Rattle.room_types.specs.declared.tables.Vehicle.{Vehicle}
use Rattle.room_model.proofs.DecisionLaws.{by_refuse}
use Rattle.room_model.proofs.IncidentChanges.{found_key}
use Rattle.room_model.proofs.Others.{IsHeld, held_is}
use Rattle.room_model.proofs.Questions.{by_quiet}
use Rattle.room_model.proofs.Tests.{row_among}
use Rattle.room_model.proofs.VehicleAgreements.{free_is_idle, no_assignment}
use Rattle.room_model.proofs.VehicleChanges.{is_true}
use Rattle.room_model.specs.Decisions.{Verdict, answer_of, changes_of, where_active, where_held}
use Rattle.room_model.specs.Decisions.{with_changes}
use Rattle.room_model.specs.Events.{by_crew, by_desk}
use Rattle.room_model.specs.Queries.{assignment_at, borrowed, held, incident_of, kept_report, lent}
use Rattle.room_model.specs.Queries.{open_turn, served, vehicle_at}
use Rattle.room_model.specs.Reports.{back_changes, drop_changes, ends_turn, is_acknowledged, is_due}
use Rattle.room_model.specs.Reports.{is_home, names_order, outcome_of, press, report_acts}
use Rattle.room_model.specs.Reports.{report_held, report_in, report_kept, report_made, report_row}
use Rattle.room_model.specs.Reports.{report_somewhere, status_after, take_report, turn_changes}
use Rattle.room_model.specs.Reports.{vehicle_after, with_report}
use Rattle.room_model.specs.Room.{Room, apply}
use Rattle.room_model.specs.RoomAgreements.{AssignmentAgrees, IsWellFormed}
use Rattle.room_model.specs.Step.{desk_asks, room_after}
use Rattle.room_model.specs.Vehicles.{assignment_row, mobilise, mobilise_held, mobilised}
use Rattle.room_model.specs.Vehicles.{stand_down, stand_down_held, turn_stood_down}
use Rattle.room_laws.proofs.OrdersLeft.{desk_leaves, position_leaves}
use Rattle.room_laws.proofs.Steps.{IsSingle, is_single}
use Rattle.room_laws.specs.Orders.{EndsOrder, IsSent}
use Rattle.room_types.specs.declared.answers.Answer.TheVariants as answer
use Rattle.room_types.specs.declared.asks.Ask.TheVariants as ask
use Rattle.room_types.specs.declared.codes.Button.TheVariants as button

-- the orders afterwards: those of before, with one that was sent, or without one that was ended
pub record IsPut (e : Event) (r : Room) (after : List Assignment) : Type 0 where
  pub order : Assignment
  pub sent : IsSent e r order
  pub put : after ≡ put_row callsign_cmp assignment_key r.assignments order

pub record IsDropped (e : Event) (r : Room) (after : List Assignment) : Type 0 where
  pub callsign : Callsign
  pub ended : (a : Assignment) → Among a r.assignments → callsign ≡ a.callsign → EndsOrder e r a
  pub dropped : after ≡ drop_row callsign_cmp assignment_key r.assignments callsign

abbrev pub Moves : Event → Room → List Assignment → Type 0
Moves e r after = (after ≡ r.assignments) ⊎ (IsPut e r after ⊎ IsDropped e r after)

-- ---- the changes of the three asks
pub stood_down_after : (r : Room) (at : ℕ) (t : Option Turn) (c : Callsign) (v : Vehicle)
    → (apply r (turn_stood_down at t ++ DropAssignment c ∷ PutVehicle v ∷ [])).assignments
    ≡ drop_row callsign_cmp assignment_key r.assignments c
stood_down_after r at None c v = refl
stood_down_after r at (Some t) c v = refl

pub reported_after : (r : Room) (x : Report) (b : Button) (at : ℕ) (t : Option Turn) (c : Callsign)
    (ends back : Bool) (u : Vehicle)
    → (apply r (PutReport x ∷ turn_changes b at t
    ++ (drop_changes c ends ++ (back_changes c back ++ PutVehicle u ∷ [])))).assignments
    ≡ cond ends (drop_row callsign_cmp assignment_key r.assignments c) r.assignments
reported_after r x b at None c true true u = refl
reported_after r x b at None c true false u = refl
reported_after r x b at None c false true u = refl
reported_after r x b at None c false false u = refl
reported_after r x b at (Some t) c true true u = refl
reported_after r x b at (Some t) c true false u = refl
reported_after r x b at (Some t) c false true u = refl
reported_after r x b at (Some t) c false false u = refl

-- a button that ends the turn, of a report that acts
over_by : (v : Vehicle) (t : Option Turn) (p : Press) (n : ℕ) → v.last_order ≡ n
    → (b : Button) → p.button ≡ b → acts (outcome_of v t p) ≡ true → ends_turn b ≡ true
    → (p.button ≡ button.Home) ⊎ ((p.button ≡ button.Return) × (p.order ≡ n))
over_by v t p n last button.Home is acted ends = inl is
over_by v t p n last button.Return is acted ends = inr (
  is,
  named (nat_lt p.number v.last_report)
      (p.order == v.last_order) refl
      (subst (λ (b : Button). acts (cond (nat_lt p.number v.last_report) Late
      (cond (names_order b && not (p.order == v.last_order)) Stale
      (press v.status p.button (is_acknowledged t)))) ≡ true) is acted),
)
  where
    named : (late same : Bool) → p.order == v.last_order ≡ same
        → acts (cond late Late (cond (not same) Stale (press v.status p.button (is_acknowledged t)))) ≡ true
        → p.order ≡ n
    named true same e f = cc
    named false false e f = cc
    named false true e f = eqb-true p.order v.last_order e ∙ last
over_by v t p n last b is acted ends = cc

module _ (r : Room) (w : IsWellFormed r) where
  -- what an order says of its vehicle
  pub agreed : (a : Assignment) → Among a r.assignments → (v : Vehicle)
      → row_at callsign_cmp vehicle_key r.vehicles a.callsign ≡ Some v
      → (is_busy v.status ≡ true) × (a.division ≡ v.holder) × (a.order ≡ v.last_order)
  agreed a here v there =
      subst (λ (o : Option Vehicle). AssignmentAgrees o (Some a)) there
      (subst (AssignmentAgrees (row_at callsign_cmp vehicle_key r.vehicles a.callsign))
      (row_among callsign_cmp assignment_key callsigns_total r.assignments a w.order.assignments here)
      (w.assignments a.callsign))

  agreed_at : (c : Callsign) (d : ℕ) (v : Vehicle) → IsHeld d c r v → (a : Assignment)
      → Among a r.assignments → v.callsign ≡ a.callsign
      → (c ≡ a.callsign) × (d ≡ a.division) × (v.last_order ≡ a.order)
      × (row_at callsign_cmp vehicle_key r.vehicles a.callsign ≡ Some v)
  agreed_at c d v is a here same =
      let there : row_at callsign_cmp vehicle_key r.vehicles a.callsign ≡ Some v =
      ap (row_at callsign_cmp vehicle_key r.vehicles) (sym same) ∙ is.there in
      let says = agreed a here v there in
      (is.key ∙ same, sym (says.1 ∙ is.holder), sym says.2, there)

  -- ---- a desk sends a vehicle
  sent : (d n : ℕ) (c : Callsign) (at : ℕ) (i : Incident) → incident_of d n r ≡ Some i
      → is_active i.state ≡ true → (v : Vehicle) → IsHeld d c r v → is_free v.status ≡ true
      → nat_le v.shift_end at ≡ false
      → IsSent (by_desk d (ask.Mobilise n c) at) r (assignment_row d i v)
  unfolding incident_of vehicle_at assignment_at
  sent d n c at i found active v is free later =
      let number : n ≡ i.number = (found_key r d n i found).1 in
      record {
        asked = λ j. by_desk d (ask.Mobilise (number j) (is.key j)) at;
        vehicle = v;
        there = is.there;
        held = is.holder;
        free = free;
        within_shift = leb-false v.shift_end at later;
        without_order =
            no_assignment v (row_at callsign_cmp assignment_key r.assignments v.callsign)
            (free_is_idle v.status free).0
            (subst (λ (o : Option Vehicle).
            AssignmentAgrees o (row_at callsign_cmp assignment_key r.assignments v.callsign)) is.there
            (w.assignments v.callsign));
        numbered = refl;
        incident = i;
        named = subst (λ m. incident_of d m r ≡ Some i) number found;
        active = active;
        says = (refl, refl);
      }

  abbrev After : Verdict → List Assignment
  After x = (apply r (changes_of x)).assignments

  by_active : (e : Event) (d n : ℕ) (f : Incident → Verdict)
      → ((i : Incident) → incident_of d n r ≡ Some i → is_active i.state ≡ true
      → Moves e r (After (f i)))
      → Moves e r (After (where_active (incident_of d n r) f))
  by_active e d n f g =
      (elim (incident_of d n r) as (λ (o : Option Incident).
      incident_of d n r ≡ o → Moves e r (After (where_active o f))) [
        | None ↦ λ found. inl refl
        | Some i ↦
            λ found. by_refuse (λ x. Moves e r (After x)) _ _ _ (inl refl) (λ active. g i found (is_true _ active))
      ]) refl

  by_held : (e : Event) (d : ℕ) (c : Callsign) (f : Vehicle → Verdict)
      → ((v : Vehicle) → IsHeld d c r v → Moves e r (After (f v)))
      → Moves e r (After (where_held (held d c r) (lent d c r) f))
  by_held e d c f g =
      (elim (held d c r) as (λ (o : Option Vehicle).
      held d c r ≡ o → Moves e r (After (where_held o (lent d c r) f))) [
        | None ↦ λ found. inl refl
        | Some v ↦ λ found. g v (held_is d c r v found)
      ]) refl

  mobilise_moves : (d n : ℕ) (c : Callsign) (at : ℕ)
      → Moves (by_desk d (ask.Mobilise n c) at) r (After (mobilise d n c at r))
  unfolding mobilise
  mobilise_moves d n c at =
      let e = by_desk d (ask.Mobilise n c) at in
      let moves = λ (x : Verdict). Moves e r (After x) in
      by_active e d n (mobilise_held d (held d c r) (lent d c r) at (λ k. served d n k r)) (λ i found active.
      by_held e d c (mobilised d i at (λ k. served d n k r)) (λ v is.
      by_refuse moves _ _ _ (inl refl) (λ free.
      by_refuse moves _ _ _ (inl refl) (λ later.
      by_refuse moves _ _ _ (inl refl) (λ needed.
      by_refuse moves _ _ _ (inl refl) (λ left.
      inr (inl (record {
        order = assignment_row d i v;
        sent = sent d n c at i found active v is (is_true _ free) later;
        put = refl;
      }))))))))

  -- ---- a desk takes an order back
  stand_down_moves : (d : ℕ) (c : Callsign) (at : ℕ)
      → Moves (by_desk d (ask.StandDown c) at) r (After (stand_down d c at r))
  unfolding stand_down vehicle_at
  stand_down_moves d c at =
      let e = by_desk d (ask.StandDown c) at in
      by_held e d c (stand_down_held at (open_turn d c r)) (λ v is.
      by_refuse (λ x. Moves e r (After x)) _ _ _ (inl refl) (λ on_its_way.
      inr (inr (record {
        callsign = v.callsign;
        ended = λ a here same.
            let says = agreed_at c d v is a here same in
            inl (record {
              asked = λ j. by_desk (says.1 j) (ask.StandDown (says.0 j)) at;
              vehicle = v;
              there = says.3;
              on_its_way = is_true _ on_its_way;
            });
        dropped = stood_down_after r at (open_turn d c r) v.callsign (record v { status = Returning });
      }))))

  desk_moves : (d : ℕ) (a : Ask) (at : ℕ) → is_single (Desk d) a ≡ true
      → Moves (by_desk d a at) r (After (desk_asks d a at r))
  desk_moves d (ask.Mobilise n c) at h = mobilise_moves d n c at
  desk_moves d (ask.Moves ms) at h = cc
  desk_moves d (ask.StandDown c) at h = stand_down_moves d c at
  desk_moves d a at h = inl (desk_leaves r d a at refl)

  -- ---- a crew reports
  module _ (c : Callsign) (p : Press) (at : ℕ) (new : kept_report c p.number r ≡ None) where
    abbrev Reports : Verdict → Type 0
    Reports x = take_report c p at r ≡ x → Moves (by_crew c (ask.Report p) at) r (After x)

    acted : (d : ℕ) (v : Vehicle) → IsHeld d c r v → (t : Option Turn) (l : Option Loan)
        → acts (outcome_of v t p) ≡ true
        → Reports (with_changes (answer.Reported p.number (outcome_of v t p) (status_after v.status p.button))
        (report_acts v t l p at (outcome_of v t p) (is_home p.button && is_due at l)))
    acted d v is t l does answered =
        let back = is_home p.button && is_due at l in
        let after = reported_after r (report_row v p at (outcome_of v t p) (status_after v.status p.button)) p.button
        at t v.callsign (ends_turn p.button) back (vehicle_after v l p back) in
        (elim (ends_turn p.button) as (λ (b : Bool).
        ends_turn p.button ≡ b
        → (orders : List Assignment)
        → orders ≡ cond b (drop_row callsign_cmp assignment_key r.assignments v.callsign) r.assignments
        → Moves (by_crew c (ask.Report p) at) r orders) [
          | false ↦ λ ends orders is_so. inl is_so
          | true ↦ λ ends orders is_so. inr (inr (record {
            callsign = v.callsign;
            ended = λ a here same.
                let says = agreed_at c d v is a here same in
                inr (record {
                  press = p;
                  sent = λ j. by_crew (says.0 j) (ask.Report p) at;
                  new = subst (λ k. kept_report k p.number r ≡ None) says.0 new;
                  button = over_by v t p a.order says.2 p.button refl does ends;
                  outcome = outcome_of v t p;
                  status = status_after v.status p.button;
                  answered = ap answer_of answered;
                  acted = does;
                });
            dropped = is_so;
          }))
        ]) refl _ after

    made : (d : ℕ) (v : Vehicle) → IsHeld d c r v → (t : Option Turn) (l : Option Loan)
        → Reports (report_made v t l p at (outcome_of v t p))
    made d v is t l =
        let o = outcome_of v t p in
        (elim (acts o) as (λ (b : Bool).
        acts o ≡ b
        → Reports (cond b
        (with_changes (answer.Reported p.number o (status_after v.status p.button))
        (report_acts v t l p at o (is_home p.button && is_due at l)))
        (with_changes (answer.Reported p.number o v.status)
        (PutReport (report_row v p at o v.status) ∷ PutVehicle (with_report v p) ∷ [])))) [
          | true ↦ λ does. acted d v is t l does
          | false ↦ λ does answered. inl refl
        ]) refl

    in_division : (d : ℕ) → Reports (report_in d c p at r)
    unfolding report_in
    in_division d =
        (elim (held d c r) as (λ (o : Option Vehicle).
        held d c r ≡ o → Reports (report_held o (open_turn d c r) (borrowed d c r) p at)) [
          | None ↦ λ found answered. inl refl
          | Some v ↦ λ found. made d v (held_is d c r v found) (open_turn d c r) (borrowed d c r)
        ]) refl

    somewhere : (o : Option Vehicle) → Reports (report_somewhere o c p at r)
    somewhere None = λ answered. inl refl
    somewhere (Some v) = in_division v.holder

  report_moves : (c : Callsign) (p : Press) (at : ℕ) (o : Option Report)
      → kept_report c p.number r ≡ o
      → (report_kept o c p at r ≡ take_report c p at r)
      → Moves (by_crew c (ask.Report p) at) r (After (report_kept o c p at r))
  report_moves c p at (Some k) found same =
      by_refuse (λ x. Moves (by_crew c (ask.Report p) at) r (After x)) _ _ _ (inl refl) (λ e. inl refl)
  report_moves c p at None found same = somewhere c p at found (vehicle_at c r) (sym same)

  crew_moves : (c : Callsign) (a : Ask) (at : ℕ)
      → Moves (by_crew c a at) r (room_after (by_crew c a at) r).assignments
  crew_moves c (ask.Report p) at = report_moves c p at (kept_report c p.number r) refl refl
  crew_moves c a at = inl (by_quiet at r (λ cs. (apply r cs).assignments ≡ r.assignments) (Crew c) a refl refl)

  who_moves : (who : Who) (a : Ask) (at : ℕ) → is_single who a ≡ true
      → let e : Event = record { who = who; ask = a; at = at } in Moves e r (room_after e r).assignments
  who_moves (Desk d) a at h = desk_moves d a at h
  who_moves (Position p) a at h = inl (position_leaves r p a at)
  who_moves (Crew c) a at h = crew_moves c a at

  pub event_moves : (e : Event) → IsSingle e → Moves e r (room_after e r).assignments
  event_moves e h = who_moves e.who e.ask e.at h
