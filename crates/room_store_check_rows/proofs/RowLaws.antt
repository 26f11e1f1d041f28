-- What the tests of single rows decide.
use Rattle.std.specs.Bool.{Decides}
use Rattle.std.specs.Prelude.{is_some, nat_le, not, ◌&&◌, ◌||◌}
use Rattle.std.proofs.Common.{Bool, List, None, Option, Some, ap, arith, false, refl, true, ℕ, ◌≡◌}
use Rattle.std.proofs.Common.{◌≤◌}
use Rattle.std.proofs.lemmas.Bool.Decides.{Decides-and, Decides-eqb, Decides-like, Decides-not}
use Rattle.std.proofs.lemmas.Bool.Decides.{Decides-or}
use Rattle.std.proofs.lemmas.Bool.{false≢true, le-leb, leb-true, not-true}
use Rattle.room_place.specs.Plans.{has_division}
use Rattle.room_place.specs.declared.plans.Area.{Area}
use Rattle.room_types.specs.Codes.{is_busy}
use Rattle.room_types.specs.Slices.{IsActive, assignment_at, division_at, is_active_one, turn_at}
use Rattle.room_types.specs.Slices.{vehicle_at}
use Rattle.room_types.specs.Texts.{Callsign}
use Rattle.room_types.specs.declared.slices.DivisionRows.{DivisionRows}
use Rattle.room_types.specs.declared.tables.Assignment.{Assignment}
use Rattle.room_types.specs.declared.tables.Call.{Call}
use Rattle.room_types.specs.declared.tables.Division.{Division}
use Rattle.room_types.specs.declared.tables.Incident.{Incident}
use Rattle.room_types.specs.declared.tables.Loan.{Loan}
use Rattle.room_types.specs.declared.tables.Offer.{Offer}
use Rattle.room_types.specs.declared.tables.Report.{Report}
use Rattle.room_types.specs.declared.tables.Turn.{Turn}
use Rattle.room_types.specs.declared.tables.Vehicle.{Vehicle}
use Rattle.room_types.proofs.SentLaws.{itself}
use Rattle.room_model.specs.Room.{Room}
use Rattle.room_model.specs.RoomSlices.{room_of}
use Rattle.room_model.specs.RoomAgreements.{AssignmentAgrees, CallAgrees, IsGiven, IsOfIncident}
use Rattle.room_model.specs.RoomAgreements.{IsPost, LastAgrees, LoanAgrees, OfferAgrees, OpenAgrees}
use Rattle.room_model.specs.RoomAgreements.{PostAgrees, ReportAgrees, SameIncident, TurnAgrees}
use Rattle.room_model.specs.RoomAgreements.{TurnIsActive}
use Rattle.room_store_check_rows.specs.RowTests.{assignment_fits, call_fits, has_post}
use Rattle.room_store_check_rows.specs.RowTests.{incident_fits, is_as_assigned, is_given}
use Rattle.room_store_check_rows.specs.RowTests.{is_in_turn, is_numbered, is_of, is_open, loan_at}
use Rattle.room_store_check_rows.specs.RowTests.{loan_fits, offer_at, offer_fits, open_fits}
use Rattle.room_store_check_rows.specs.RowTests.{report_fits, turn_fits, vehicle_fits}

-- ---- tests of tests
pub idle : (b : Bool) → Decides (not b) (b ≡ false)
idle b = (not-true b, ap not)

pub at_most : (m n : ℕ) → Decides (nat_le m n) (m ≤ n)
at_most m n = (leb-true m n, le-leb m n)

unless : {P Q : Type 0} (p q : Bool) → Decides p P → Decides q Q → Decides (not p || q) (P → Q)
unless true q d e = (λ h x. e.0 h, λ f. e.1 (f (d.0 refl)))
unless false q d e = (λ h x. absurd (false≢true (d.1 x)), λ f. refl)

pub three : {P Q R : Type 0} (p q r : Bool) → Decides p P → Decides q Q → Decides r R
    → Decides (p && (q && r)) (P × Q × R)
three p q r d e f =
    Decides-like _ (λ h. (h.0, h.1.0, h.1.1)) (λ h. (h.0, (h.1, h.2))) (Decides-and _ _ d (Decides-and _ _ e f))

-- ---- a vehicle
pub loan_decides : (v : Vehicle) (l : Option Loan) → Decides (loan_fits v l) (LoanAgrees (Some v) l)
loan_decides v None = Decides-eqb _ _
loan_decides v (Some l) = three _ _ _ (Decides-eqb _ _) (Decides-eqb _ _) (Decides-not _ (Decides-eqb _ _))

pub offer_decides : (plan : List Area) (v : Vehicle) (o : Option Offer)
    → Decides (offer_fits plan v o) (OfferAgrees plan (Some v) o)
offer_decides plan v None = idle _
offer_decides plan v (Some o) = Decides-like _
    (λ h. (h.0, h.1.0, h.1.1.0, h.1.1.1.0, h.1.1.1.1))
    (λ h. (h.0, (h.1, (h.2, (h.3, h.4)))))
    (Decides-and _ _ (itself _) (Decides-and _ _ (Decides-eqb _ _)
    (Decides-and _ _ (Decides-eqb _ _) (Decides-and _ _ (Decides-not _ (Decides-eqb _ _)) (itself _)))))

pub assignment_decides : (v : Vehicle) (a : Option Assignment)
    → Decides (assignment_fits v a) (AssignmentAgrees (Some v) a)
assignment_decides v None = idle _
assignment_decides v (Some a) = three _ _ _ (itself _) (Decides-eqb _ _) (Decides-eqb _ _)

pub none_sent : (n : ℕ) → Decides (not (nat_le 1 n)) (n ≡ 0)
none_sent n = Decides-like _ (λ h. omega (arith, h)) (λ h m. omega (arith, h, m)) (Decides-not _ (at_most 1 n))

module _ (plan : List Area) (s : DivisionRows) where
  abbrev r : Room
  r = room_of plan s

  pub record VehicleFits (c : Callsign) (v : Vehicle) : Type 0 where
    pub home : has_division plan v.home ≡ true
    pub holder : has_division plan v.holder ≡ true
    pub loan : LoanAgrees (Some v) (loan_at c s)
    pub offer : OfferAgrees plan (Some v) (offer_at c s)
    pub assignment : AssignmentAgrees (Some v) (assignment_at c s)
    pub turn : is_busy v.status ≡ true
        → (1 ≤ v.last_order) × (is_open (turn_at c v.last_order s) ≡ true)
    pub report : LastAgrees r (Some v)
    pub post : PostAgrees r (Some v)

  pub post_decides : (v : Vehicle) (p : Option ℕ) → Decides (has_post s v p) (IsPost r v p)
  post_decides v None = (λ h. tt, λ h. refl)
  post_decides v (Some n) = Decides-and _ _ (itself _) (itself _)

  pub vehicle_decides : (v : Vehicle) → Decides (vehicle_fits plan s v) (VehicleFits v.callsign v)
  vehicle_decides v = Decides-like _
      (λ h. record {
        home = h.0;
        holder = h.1.0;
        loan = h.1.1.0;
        offer = h.1.1.1.0;
        assignment = h.1.1.1.1.0;
        turn = h.1.1.1.1.1.0;
        report = h.1.1.1.1.1.1.0;
        post = h.1.1.1.1.1.1.1;
      })
      (λ h. (h.home, (h.holder, (h.loan, (h.offer, (h.assignment, (h.turn, (h.report, h.post))))))))
      (Decides-and _ _ (itself _) (Decides-and _ _ (itself _)
      (Decides-and _ _ (loan_decides v _)
      (Decides-and _ _ (offer_decides plan v _) (Decides-and _ _ (assignment_decides v _)
      (Decides-and _ _ (unless _ _ (itself _) (Decides-and _ _ (at_most _ _) (itself _)))
      (Decides-and _ _ (Decides-or _ _ (none_sent _) (itself _)) (post_decides v v.post))))))))

  -- ---- a turn
  pub open_decides : (v : Vehicle) (t : Turn) (ended : Option ℕ)
      → Decides (open_fits v t ended) (OpenAgrees v t.order t ended)
  open_decides v t None = three _ _ _ (Decides-eqb _ _) (Decides-eqb _ _) (itself _)
  open_decides v t (Some at) = unless _ _ (Decides-eqb _ _) (idle _)

  in_turn_decides : (t : Turn) (v : Option Vehicle)
      → Decides (is_in_turn t v) (TurnAgrees v t.order (Some t))
  in_turn_decides t None = (λ h. false≢true h, λ h. absurd h)
  in_turn_decides t (Some v) = three _ _ _ (at_most _ _) (at_most _ _) (open_decides v t t.ended)

  pub as_assigned_decides : (t : Turn) (a : Option Assignment)
      → Decides (is_as_assigned t a) (SameIncident a (Some t))
  as_assigned_decides t None = (λ h. tt, λ h. refl)
  as_assigned_decides t (Some a) = unless _ _ (Decides-eqb _ _) (Decides-eqb _ _)

  pub active_decides : (i : Option Incident) → Decides (is_active_one i) (IsActive i)
  active_decides None = (λ h. false≢true h, λ h. absurd h)
  active_decides (Some i) = itself _

  pub over_decides : {B : Type 0} (ended : Option ℕ) (b : Bool) → Decides b B
      → Decides (is_some ended || b) (ended ≡ None → B)
  over_decides None b d = (λ h e. d.0 h, λ f. d.1 (f refl))
  over_decides (Some at) b d = (λ h e. cc, λ f. refl)

  pub record TurnFits (k : Callsign × ℕ) (t : Turn) : Type 0 where
    pub planned : has_division plan t.division ≡ true
    pub in_turn : TurnAgrees (vehicle_at k.0 s) k.1 (Some t)
    pub as_assigned : SameIncident (assignment_at k.0 s) (Some t)
    pub active : TurnIsActive r (Some t)

  pub turn_decides : (t : Turn) → Decides (turn_fits plan s t) (TurnFits (t.callsign, t.order) t)
  turn_decides t = Decides-like _
      (λ h. record { planned = h.0; in_turn = h.1.0; as_assigned = h.1.1.0; active = h.1.1.1 })
      (λ h. (h.planned, (h.in_turn, (h.as_assigned, h.active))))
      (Decides-and _ _ (itself _) (Decides-and _ _ (in_turn_decides t _)
      (Decides-and _ _ (as_assigned_decides t _) (over_decides t.ended _ (active_decides _)))))

  -- ---- a report
  pub numbered_decides : (x : Report) (v : Option Vehicle)
      → Decides (is_numbered x v) (ReportAgrees v x.number (Some x))
  numbered_decides x None = (λ h. false≢true h, λ h. absurd h)
  numbered_decides x (Some v) = Decides-and _ _ (at_most _ _) (at_most _ _)

  pub record ReportFits (k : Callsign × ℕ) (x : Report) : Type 0 where
    pub planned : has_division plan x.division ≡ true
    pub numbered : ReportAgrees (vehicle_at k.0 s) k.1 (Some x)

  pub report_decides : (x : Report)
      → Decides (report_fits plan s x) (ReportFits (x.callsign, x.number) x)
  report_decides x =
      Decides-like _ (λ h. record { planned = h.0; numbered = h.1 }) (λ h. (h.planned, h.numbered))
      (Decides-and _ _ (itself _) (numbered_decides x _))

  -- ---- a call and an incident
  of_decides : (c : Call) (i : Option Incident) → Decides (is_of c i) (IsOfIncident c i)
  of_decides c None = (λ h. false≢true h, λ h. absurd h)
  of_decides c (Some i) = Decides-and _ _ (idle _) (at_most _ _)

  pub call_decides : (c : Call) → Decides (call_fits s c) (CallAgrees r (Some c))
  call_decides c = of_decides c _

  given_decides : (i : Incident) (d : Option Division)
      → Decides (is_given i d) ((1 ≤ i.number) × IsGiven i.number d)
  given_decides i None = (λ h. absurd (false≢true h), λ h. absurd h.1)
  given_decides i (Some d) = Decides-and _ _ (at_most _ _) (at_most _ _)

  pub incident_decides : (i : Incident)
      → Decides (incident_fits s i) ((1 ≤ i.number) × IsGiven i.number (division_at i.division s))
  incident_decides i = given_decides i _
