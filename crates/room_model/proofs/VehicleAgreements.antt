-- What the rows of one vehicle agree on, and a room that keeps it.
use Rattle.std.proofs.Common.{ap, subst, sym, ◌∙◌}
use Rattle.std.specs.Ordering.{is_eq, nat_cmp}
use Rattle.std.specs.Prelude.{Bool, IfSome, List, None, Option, Some, false, is_some, refl, true, ℕ}
use Rattle.std.specs.Prelude.{◌≡◌, ◌≤◌, ◌⊎◌}
use Rattle.room_place.specs.Plans.{has_division}
use Rattle.room_place.specs.declared.plans.Area.{Area}
use Rattle.room_types.specs.KeyedRows.{row_at}
use Rattle.room_types.specs.Keys.{call_key, callsign_cmp, division_key, incident_key, numbered_cmp}
use Rattle.room_types.specs.Keys.{pair_cmp, point_key, report_key, vehicle_key}
use Rattle.room_types.specs.KeyLemmas.{callsigns_total, exact_callsigns}
use Rattle.room_types.specs.Texts.{Callsign}
use Rattle.room_types.specs.declared.changes.Change.{Change}
use Rattle.room_types.specs.declared.codes.Status.{Status}
use Rattle.room_types.specs.declared.codes.Status.TheVariants.{AtHospital, AtScene, Available}
use Rattle.room_types.specs.declared.codes.Status.TheVariants.{Leaving, Mobilised, OffDuty, Offered}
use Rattle.room_types.specs.declared.codes.Status.TheVariants.{Returning}
use Rattle.room_types.specs.declared.tables.Assignment.{Assignment}
use Rattle.room_types.specs.declared.tables.Incident.{Incident}
use Rattle.room_types.specs.declared.tables.Offer.{Offer}
use Rattle.room_types.specs.declared.tables.Report.{Report}
use Rattle.room_types.specs.declared.tables.Turn.{Turn}
use Rattle.room_types.specs.declared.tables.Vehicle.{Vehicle}
use Rattle.room_model.proofs.OwnChanges.{in_order_apply}
use Rattle.room_model.proofs.Tests.{is_equal, row_key}
use Rattle.room_model.proofs.VehicleRows.{AllConcern, VehicleRows, all_after, bare, bare_stays}
use Rattle.room_model.proofs.VehicleRows.{changed, others_stay, rows_of}
use Rattle.room_types.specs.Codes.{is_busy, is_free, is_offered}
use Rattle.room_model.specs.Room.{IsInOrder, Room, apply}
use Rattle.room_model.specs.RoomAgreements.{AssignmentAgrees, CallAgrees, IsWellFormed, LastAgrees}
use Rattle.room_model.specs.RoomAgreements.{LoanAgrees, NumberAgrees, OfferAgrees, OpenAgrees}
use Rattle.room_model.specs.RoomAgreements.{OpenedAgrees, PostAgrees, ReportAgrees, SameIncident}
use Rattle.room_model.specs.RoomAgreements.{TurnAgrees, TurnIsActive}

-- the vehicle's last report is there, where it sent any
abbrev pub IsLast : (ℕ → Option Report) → Option Vehicle → Type 0
IsLast f None = Unit {0}
IsLast f (Some v) = (v.last_report ≡ 0) ⊎ (is_some (f v.last_report) ≡ true)

-- what the rows of a vehicle agree on, in a room with this plan, these incidents and these points
pub record Agrees (s : Room) (p : VehicleRows) : Type 0 where
  pub loan : LoanAgrees p.vehicle p.loan
  pub offer : OfferAgrees s.plan p.vehicle p.offer
  pub assignment : AssignmentAgrees p.vehicle p.assignment
  pub turn : (n : ℕ) → TurnAgrees p.vehicle n (p.turn n)
  pub same_incident : (n : ℕ) → SameIncident p.assignment (p.turn n)
  pub active : (n : ℕ) → TurnIsActive s (p.turn n)
  pub report : (n : ℕ) → ReportAgrees p.vehicle n (p.report n)
  pub last_report : IsLast p.report p.vehicle
  pub post : PostAgrees s p.vehicle
  pub home : IfSome p.vehicle (λ v. has_division s.plan v.home ≡ true)
  pub holder : IfSome p.vehicle (λ v. has_division s.plan v.holder ≡ true)
  pub turn_division : (n : ℕ) → IfSome (p.turn n) (λ t. has_division s.plan t.division ≡ true)
  pub report_division : (n : ℕ) → IfSome (p.report n) (λ x. has_division s.plan x.division ≡ true)

-- what the other rows agree on
pub record AreRecorded (s : Room) : Type 0 where
  pub calls : (p n : ℕ) → CallAgrees s (row_at pair_cmp call_key s.calls (p, n))
  pub opened : (d n : ℕ) → OpenedAgrees s (row_at pair_cmp incident_key s.incidents (d, n))
  pub numbers : (d n : ℕ) → NumberAgrees s (row_at pair_cmp incident_key s.incidents (d, n))
  pub divisions : (d : ℕ) → is_some (row_at nat_cmp division_key s.divisions d)
      ≡ has_division s.plan d
  pub points : (d n : ℕ) → IfSome (row_at pair_cmp point_key s.points (d, n))
      (λ p. has_division s.plan p.division ≡ true)

-- what opened an incident opened it in any room with the same calls
pub opened_alike : (r s : Room) (o : Option Incident) → r.calls ≡ s.calls → OpenedAgrees r o
    → OpenedAgrees s o
opened_alike r s None e h = tt
opened_alike r s (Some i) e h =
    λ m.
    let o = h m in
    record {
      position = o.position;
      serial = o.serial;
      first_call = o.first_call;
      there = ap (λ cs. row_at pair_cmp call_key cs (o.position, o.serial)) (sym e) ∙ o.there;
      same = o.same;
    }

module _ (r : Room) where
  last_from : (c : Callsign) (o : Option Vehicle)
      → row_at callsign_cmp vehicle_key r.vehicles c ≡ o → LastAgrees r o
      → IsLast (λ n. row_at numbered_cmp report_key r.reports (c, n)) o
  last_from c None e h = tt
  last_from c (Some v) e h = rw (row_key callsign_cmp vehicle_key callsigns_total exact_callsigns r.vehicles c v e) h

  last_to : (c : Callsign) (o : Option Vehicle) → row_at callsign_cmp vehicle_key r.vehicles c ≡ o
      → IsLast (λ n. row_at numbered_cmp report_key r.reports (c, n)) o → LastAgrees r o
  last_to c None e h = tt
  last_to c (Some v) e h = rw (← row_key callsign_cmp vehicle_key callsigns_total exact_callsigns r.vehicles c v e) h

  pub agreed : IsWellFormed r → (c : Callsign) → Agrees (bare r) (rows_of c r)
  agreed w c = record {
    loan = w.loans c;
    offer = w.offers c;
    assignment = w.assignments c;
    turn = w.turns c;
    same_incident = w.same_incident c;
    active = w.active c;
    report = w.reports c;
    last_report = last_from c _ refl (w.last_reports c);
    post = w.posts c;
    home = w.plan.homes c;
    holder = w.plan.vehicles c;
    turn_division = w.plan.turns c;
    report_division = w.plan.reports c;
  }

  pub recorded : IsWellFormed r → AreRecorded (bare r)
  recorded w = record {
    calls = w.calls;
    opened = λ d n. opened_alike r (bare r) _ refl (w.opened d n);
    numbers = w.numbers;
    divisions = w.plan.divisions;
    points = w.plan.points;
  }

  -- a room is well-formed by what each vehicle's rows agree on, and the others
  pub well_formed : IsInOrder r → ((c : Callsign) → Agrees (bare r) (rows_of c r))
      → AreRecorded (bare r) → IsWellFormed r
  well_formed order f g = record {
    order = order;
    loans = λ c. (f c).loan;
    offers = λ c. (f c).offer;
    assignments = λ c. (f c).assignment;
    turns = λ c. (f c).turn;
    same_incident = λ c. (f c).same_incident;
    active = λ c. (f c).active;
    calls = g.calls;
    opened = λ d n. opened_alike (bare r) r _ refl (g.opened d n);
    numbers = g.numbers;
    reports = λ c. (f c).report;
    last_reports = λ c. last_to c _ refl (f c).last_report;
    posts = λ c. (f c).post;
    plan = record {
      divisions = g.divisions;
      homes = λ c. (f c).home;
      vehicles = λ c. (f c).holder;
      turns = λ c. (f c).turn_division;
      points = g.points;
      reports = λ c. (f c).report_division;
    };
  }

-- changes of one vehicle's rows keep the room well-formed, where these rows agree afterwards
pub kept_by : (k : Callsign) (r : Room) (xs : List Change) → IsWellFormed r → AllConcern k xs
    → Agrees (bare r) (all_after (rows_of k r) xs) → IsWellFormed (apply r xs)
kept_by k r xs w e h =
    let same = bare_stays k r xs e in
    well_formed (apply r xs) (in_order_apply r xs w.order)
    (λ c. subst (λ s. Agrees s (rows_of c (apply r xs))) (sym same) (each c))
    (subst AreRecorded (sym same) (recorded r w))
  where
    each : (c : Callsign) → Agrees (bare r) (rows_of c (apply r xs))
    each c =
        (elim (is_eq
        (callsign_cmp c k)) as (λ (b : Bool). is_eq (callsign_cmp c k) ≡ b → Agrees (bare r) (rows_of c (apply r xs))) [
          | true ↦
              λ f.
              subst (λ j. Agrees (bare r) (rows_of j (apply r xs))) (sym (exact_callsigns c k (is_equal _ f)))
              (subst (Agrees (bare r)) (sym (changed k r xs w.order e)) h)
          | false ↦ λ f. subst (Agrees (bare r)) (sym (others_stay k r xs c w.order e f)) (agreed r w c)
        ]) refl

-- the same rows, with a vehicle that is known
pub known : (s : Room) (p : VehicleRows) (v : Vehicle) → p.vehicle ≡ Some v → Agrees s p
    → Agrees s (record p { vehicle = Some v })
known s p v e h = subst (λ o. Agrees s (record p { vehicle = o })) e h

-- ---- a vehicle for another
-- its status is as busy, and it keeps its holder where it is
module _ (v u : Vehicle) (busy : is_busy u.status ≡ is_busy v.status)
    (holder : is_busy u.status ≡ true → u.holder ≡ v.holder)
    (order : u.last_order ≡ v.last_order) where
  pub like_assignment : (o : Option Assignment) → AssignmentAgrees (Some v) o
      → AssignmentAgrees (Some u) o
  like_assignment None h = busy ∙ h
  like_assignment (Some a) h = (busy ∙ h.0, h.1 ∙ sym (holder (busy ∙ h.0)), h.2 ∙ sym order)

  pub like_open : (n : ℕ) (t x : Turn) (o : Option ℕ) → x.division ≡ t.division
      → OpenAgrees v n t o → OpenAgrees u n x o
  like_open n t x None e h = (h.0 ∙ sym order, e ∙ (h.1 ∙ sym (holder (busy ∙ h.2))), busy ∙ h.2)
  like_open n t x (Some at) e h = λ g. busy ∙ h (g ∙ order)

  pub like_turn : (n : ℕ) (o : Option Turn) → TurnAgrees (Some v) n o → TurnAgrees (Some u) n o
  like_turn n None h = λ g. busy ∙ h (g ∙ order)
  like_turn n (Some t) h = (h.0, subst (λ m. n ≤ m) (sym order) h.1, like_open n t t t.ended refl h.2)

-- ---- what a status excludes
pub free_is_idle : (s : Status) → is_free s ≡ true → (is_busy s ≡ false) × (is_offered s ≡ false)
free_is_idle OffDuty e = cc
free_is_idle Available e = (refl, refl)
free_is_idle Mobilised e = cc
free_is_idle AtScene e = cc
free_is_idle Leaving e = cc
free_is_idle AtHospital e = cc
free_is_idle Returning e = (refl, refl)
free_is_idle Offered e = cc

pub no_offer : (plan : List Area) (v : Vehicle) (o : Option Offer) → is_offered v.status ≡ false
    → OfferAgrees plan (Some v) o → o ≡ None
no_offer plan v None e h = refl
no_offer plan v (Some o) e h = let g = h.0 in cc

pub no_assignment : (v : Vehicle) (o : Option Assignment) → is_busy v.status ≡ false
    → AssignmentAgrees (Some v) o → o ≡ None
no_assignment v None e h = refl
no_assignment v (Some a) e h = let g = h.0 in cc
