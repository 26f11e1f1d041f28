-- The tests of all rows say whether they make a well-formed room.
use Rattle.std.specs.Bool.{Decides}
use Rattle.std.specs.List.{list_all}
use Rattle.std.specs.Prelude.{IfSome, is_none, is_some, ◌&&◌, ◌==◌, ◌||◌}
use Rattle.std.proofs.Common.{Bool, List, None, Option, Some, [], ap, eq-eqb, false, refl, subst}
use Rattle.std.proofs.Common.{sym, true, ℕ, ◌∙◌, ◌∷◌, ◌≡◌, ◌≤◌}
use Rattle.std.proofs.lemmas.Bool.Decides.{Decides-like, same_from_decides}
use Rattle.std.proofs.lemmas.Bool.{and_parts, eqb-true, false_from_ne_true, false≢true, le-leb}
use Rattle.std.proofs.lemmas.List.Folds.{Any-from_list_any}
use Rattle.std.proofs.lemmas.Option.{IfSome_then}
use Rattle.room_place.specs.Plans.{Layout, has_division, is_division}
use Rattle.room_place.specs.declared.plans.Area.{Area}
use Rattle.room_place.proofs.PlanLaws.{numbered}
use Rattle.room_types.specs.Codes.{is_busy}
use Rattle.room_types.specs.Slices.{assignment_at, division_at, turn_at, vehicle_at}
use Rattle.room_types.specs.Texts.{Callsign}
use Rattle.room_types.specs.declared.slices.DivisionRows.{DivisionRows}
use Rattle.room_types.specs.declared.tables.Assignment.{Assignment}
use Rattle.room_types.specs.declared.tables.Report.{Report}
use Rattle.room_types.specs.declared.tables.Turn.{Turn}
use Rattle.room_types.specs.declared.tables.Vehicle.{Vehicle}
use Rattle.room_types.proofs.SentLaws.{itself}
use Rattle.room_model.specs.Room.{IsInOrder, Room}
use Rattle.room_model.specs.RoomSlices.{room_of}
use Rattle.room_model.specs.RoomAgreements.{AreInPlan, AssignmentAgrees, CallAgrees, IsWellFormed}
use Rattle.room_model.specs.RoomAgreements.{LastAgrees, LoanAgrees, NumberAgrees, OfferAgrees}
use Rattle.room_model.specs.RoomAgreements.{OpenAgrees, OpenedAgrees, PostAgrees, ReportAgrees}
use Rattle.room_model.specs.RoomAgreements.{SameIncident, TurnAgrees, TurnIsActive}
use Rattle.room_model.proofs.Tests.{both_true, or_right}
use Rattle.room_store_check_rows.specs.RowTests.{is_open, is_opened, report_at, rows_fit}
use Rattle.room_store_check_rows.proofs.Agreements.{has_vehicle, holds_there, joined, lift, lower}
use Rattle.room_store_check_rows.proofs.Agreements.{there_if}
use Rattle.room_store_check_rows.proofs.AtEachKey.{Fits, fits_decides}
use Rattle.room_store_check_rows.proofs.RowLaws.{ReportFits, TurnFits, VehicleFits}

-- ---- no row
no_report : (v : Option Vehicle) (n : ℕ) → ReportAgrees v n None
no_report None n = tt
no_report (Some v) n = tt

no_turn : (a : Option Assignment) → SameIncident a None
no_turn None = tt
no_turn (Some a) = tt

-- ---- the plan
covered : (f : ℕ → Bool) (areas : List Area) (d : ℕ) → list_all (λ a. f a.division) areas ≡ true
    → has_division areas d ≡ true → f d ≡ true
covered f [] d h there = absurd (false≢true there)
covered f (a ∷ areas) d h there =
    let parts = and_parts _ _ h in
    (elim (a.division == d) as (λ (b : Bool). a.division == d ≡ b → b || has_division areas d ≡ true → f d ≡ true) [
      | true ↦ λ same any. subst (λ n. f n ≡ true) (eqb-true _ _ same) parts.0
      | false ↦ λ other any. covered f areas d parts.1 any
    ]) refl there

covers : (f : ℕ → Bool) (areas : List Area) → ((d : ℕ) → has_division areas d ≡ true → f d ≡ true)
    → list_all (λ a. f a.division) areas ≡ true
covers f [] h = refl
covers f (a ∷ areas) h =
    let here : f a.division
    ≡ true = h a.division (ap (λ b. b || has_division areas a.division) (eq-eqb a.division a.division refl)) in
    both_true _ _ here (covers f areas (λ d there. h d (or_right (a.division == d) _ there)))

pub in_range : (layout : Layout) (d : ℕ) → has_division layout.areas d ≡ true → is_division d ≡ true
in_range layout d h =
    let any = Any-from_list_any (λ (a : Area). a.division == d) layout.areas h in
    let range = numbered layout.areas layout.zone (λ a. Unit {0}) d layout.sound
    (any.0, any.1, any.2, any.3, (eqb-true _ _ any.4, tt)) in
    both_true _ _ (le-leb _ _ range.0) (le-leb _ _ range.1)

module _ (layout : Layout) (s : DivisionRows) where
  abbrev plan : List Area
  plan = layout.areas

  abbrev r : Room
  r = room_of plan s

  -- ---- what they say is that the room is well-formed
  turn_joined : (c : Callsign) (n : ℕ) (v : Option Vehicle) (t : Option Turn) → vehicle_at c s ≡ v
      → turn_at c n s ≡ t → Fits plan s → TurnAgrees v n t
  turn_joined c n None None e g f = tt
  turn_joined c n None (Some t) e g f =
      let h : TurnFits plan s (c, n) t = rw g at (f.turns (c, n)) in
      rw e at h.in_turn
  turn_joined c n (Some v) (Some t) e g f =
      let h : TurnFits plan s (c, n) t = rw g at (f.turns (c, n)) in
      rw e at h.in_turn
  turn_joined c n (Some v) None e g f = λ last. false_from_ne_true _ (λ busy.
      let h : VehicleFits plan s c v = rw e at (f.vehicles c) in
      let there : is_open (turn_at c n s)
      ≡ true = subst (λ m. is_open (turn_at c m s) ≡ true) (sym last) (h.turn busy).1 in
      false≢true (rw g at there))

  division_shown : Fits plan s → (d : ℕ) → is_some (division_at d s) ≡ has_division plan d
  division_shown f d = same_from_decides _ _ (
    holds_there (division_at d s) (f.divisions d),
    λ h. (and_parts _ _ (covered (λ n. is_division n && is_some (division_at n s)) plan d f.have_rows h)).1,
  )
      (itself _)

  planned : Fits plan s → AreInPlan r
  planned f = record {
    divisions = division_shown f;
    homes = λ c. IfSome_then _ (f.vehicles c) (λ v (h : VehicleFits plan s c v). h.home);
    vehicles = λ c. IfSome_then _ (f.vehicles c) (λ v (h : VehicleFits plan s c v). h.holder);
    turns = λ c n. IfSome_then _ (f.turns (c, n)) (λ t (h : TurnFits plan s (c, n) t). h.planned);
    points = λ d n. f.points (d, n);
    reports = λ c n. IfSome_then _ (f.reports (c, n)) (λ x (h : ReportFits plan s (c, n) x). h.planned);
  }

  well_formed : IsInOrder r → Fits plan s → IsWellFormed r
  well_formed o f = record {
    order = o;
    loans =
        λ c.
        joined LoanAgrees tt _ _ (IfSome_then _ (f.vehicles c) (λ v (h : VehicleFits plan s c v). h.loan)) (f.loans c);
    offers =
        λ c.
        joined (OfferAgrees plan) tt _ _ (IfSome_then _ (f.vehicles c) (λ v (h : VehicleFits plan s c v). h.offer))
        (f.offers c);
    assignments =
        λ c.
        joined AssignmentAgrees tt _ _ (IfSome_then _ (f.vehicles c) (λ v (h : VehicleFits plan s c v). h.assignment))
        (f.assignments c);
    turns = λ c n. turn_joined c n _ _ refl refl f;
    same_incident =
        λ c n.
        lift (SameIncident (assignment_at c s)) (no_turn _) _
        (IfSome_then _ (f.turns (c, n)) (λ t (h : TurnFits plan s (c, n) t). h.as_assigned));
    active =
        λ c n.
        lift (TurnIsActive r) tt _ (IfSome_then _ (f.turns (c, n)) (λ t (h : TurnFits plan s (c, n) t). h.active));
    calls = λ p n. lift (CallAgrees r) tt _ (f.calls (p, n));
    opened = λ d n. lift (OpenedAgrees r) tt _ (f.opened (d, n));
    numbers = λ d n. lift (NumberAgrees r) tt _ (f.numbers (d, n));
    reports =
        λ c n.
        lift (ReportAgrees (vehicle_at c s) n) (no_report (vehicle_at c s) n) _
        (IfSome_then _ (f.reports (c, n)) (λ x (h : ReportFits plan s (c, n) x). h.numbered));
    last_reports =
        λ c. lift (LastAgrees r) tt _ (IfSome_then _ (f.vehicles c) (λ v (h : VehicleFits plan s c v). h.report));
    posts = λ c. lift (PostAgrees r) tt _ (IfSome_then _ (f.vehicles c) (λ v (h : VehicleFits plan s c v). h.post));
    plan = planned f;
  }

  -- ---- and back
  unended : (v : Vehicle) (n : ℕ) (t : Turn) (ended : Option ℕ) → n ≡ v.last_order
      → OpenAgrees v n t ended → is_busy v.status ≡ true → is_none ended ≡ true
  unended v n t None last h busy = refl
  unended v n t (Some at) last h busy = absurd (false≢true (sym (h last) ∙ busy))

  busy_turn : (v : Vehicle) (n : ℕ) (t : Option Turn) → n ≡ v.last_order → TurnAgrees (Some v) n t
      → is_busy v.status ≡ true → (1 ≤ n) × (is_open t ≡ true)
  busy_turn v n None last h busy = absurd (false≢true (sym (h last) ∙ busy))
  busy_turn v n (Some t) last h busy = (h.0, unended v n t t.ended last h.2 busy)

  vehicle_of : IsWellFormed r → (c : Callsign) (v : Option Vehicle) → vehicle_at c s ≡ v
      → IfSome v (VehicleFits plan s c)
  vehicle_of w c None e = tt
  vehicle_of w c (Some v) e = record {
    home = rw e at (w.plan.homes c);
    holder = rw e at (w.plan.vehicles c);
    loan = rw e at (w.loans c);
    offer = rw e at (w.offers c);
    assignment = rw e at (w.assignments c);
    turn = busy_turn v v.last_order _ refl (rw e at (w.turns c v.last_order));
    report = rw e at (w.last_reports c);
    post = rw e at (w.posts c);
  }

  turn_of : IsWellFormed r → (c : Callsign) (n : ℕ) (t : Option Turn) → turn_at c n s ≡ t
      → IfSome t (TurnFits plan s (c, n))
  turn_of w c n None e = tt
  turn_of w c n (Some t) e = record {
    planned = rw e at (w.plan.turns c n);
    in_turn = rw e at (w.turns c n);
    as_assigned = rw e at (w.same_incident c n);
    active = rw e at (w.active c n);
  }

  report_of : IsWellFormed r → (c : Callsign) (n : ℕ) (x : Option Report) → report_at c n s ≡ x
      → IfSome x (ReportFits plan s (c, n))
  report_of w c n None e = tt
  report_of w c n (Some x) e = record { planned = rw e at (w.plan.reports c n); numbered = rw e at (w.reports c n) }

  fitting : IsWellFormed r → Fits plan s
  fitting w = record {
    have_rows =
        covers (λ d. is_division d && is_some (division_at d s)) plan
        (λ d h. both_true _ _ (in_range layout d h) (w.plan.divisions d ∙ h));
    divisions = λ d. there_if _ _ (w.plan.divisions d);
    points = λ k. w.plan.points k.0 k.1;
    vehicles = λ c. vehicle_of w c _ refl;
    loans = λ c. has_vehicle LoanAgrees (λ l h. h) _ _ (w.loans c);
    offers = λ c. has_vehicle (OfferAgrees plan) (λ l h. h) _ _ (w.offers c);
    assignments = λ c. has_vehicle AssignmentAgrees (λ a h. h) _ _ (w.assignments c);
    turns = λ k. turn_of w k.0 k.1 _ refl;
    reports = λ k. report_of w k.0 k.1 _ refl;
    calls = λ k. lower (CallAgrees r) _ (w.calls k.0 k.1);
    numbers = λ k. lower (NumberAgrees r) _ (w.numbers k.0 k.1);
    opened = λ k. lower (OpenedAgrees r) _ (w.opened k.0 k.1);
  }

  -- in a room whose rows are in order, the tests decide whether it is well-formed
  pub well_formed_decides : IsInOrder r
      → Decides (rows_fit plan s && list_all (is_opened s) s.incidents) (IsWellFormed r)
  well_formed_decides o = Decides-like _ (well_formed o) fitting (fits_decides plan s o)
