-- What an event makes of the rows that queues speak of: each stays what its entry needs, or the
-- event is one that ends the entry.
use Rattle.std.proofs.Common.{ap, arith, eq-eqb, eqb-true, inl, inr, subst, sym, ◌∙◌}
use Rattle.std.proofs.lemmas.Cmp.{tied_itself}
use Rattle.std.specs.Ordering.{is_eq}
use Rattle.std.specs.Prelude.{Bool, List, None, Option, Result, Some, [], cond, false, min, refl}
use Rattle.std.specs.Prelude.{true, ℕ, ◌&&◌, ◌++◌, ◌+◌, ◌==◌, ◌||◌, ◌∷◌, ◌≡◌, ◌≢◌, ◌≤◌, ◌⊎◌}
use Rattle.room_place.specs.Choice.{Among}
use Rattle.room_types.specs.Codes.{is_active, is_busy, is_free, is_mobilised, is_off, is_offered}
use Rattle.room_types.specs.KeyLemmas.{callsigns_total}
use Rattle.room_types.specs.KeyedRows.{row_at}
use Rattle.room_types.specs.Keys.{callsign_cmp, incident_key, loan_key, numbered_cmp, offer_key}
use Rattle.room_types.specs.Keys.{pair_cmp, report_key, same_callsign, turn_key, vehicle_key}
use Rattle.room_types.specs.Texts.{Callsign}
use Rattle.room_types.specs.declared.answers.Answer.{Answer}
use Rattle.room_types.specs.declared.answers.Answer.TheVariants as answer
use Rattle.room_types.specs.declared.asks.Ask.{Ask}
use Rattle.room_types.specs.declared.asks.Ask.TheVariants as ask
use Rattle.room_types.specs.declared.asks.Event.{Event}
use Rattle.room_types.specs.declared.changes.Change.{Change}
use Rattle.room_types.specs.declared.changes.Change.TheVariants.{DropLoan, DropOffer, PutIncident}
use Rattle.room_types.specs.declared.changes.Change.TheVariants.{PutLoan, PutOffer, PutPoint}
use Rattle.room_types.specs.declared.changes.Change.TheVariants.{PutReport, PutTurn, PutVehicle}
use Rattle.room_types.specs.declared.changes.Change.TheVariants.{Settle}
use Rattle.room_types.specs.declared.codes.Status.{Status}
use Rattle.room_types.specs.declared.codes.Status.TheVariants.{Mobilised, OffDuty, Offered}
use Rattle.room_types.specs.declared.refusal_statuses.Refusal.{Refusal}
use Rattle.room_types.specs.declared.tables.Incident.{Incident}
use Rattle.room_types.specs.declared.tables.Loan.{Loan}
use Rattle.room_types.specs.declared.tables.Offer.{Offer}
use Rattle.room_types.specs.declared.tables.Report.{Report}
use Rattle.room_types.specs.declared.tables.Turn.{Turn}
use Rattle.room_types.specs.declared.tables.Vehicle.{Vehicle}
use Rattle.room_model.proofs.Tests.{both_true, or_left, or_right}
use Rattle.room_model.specs.Moments.{scene_limit}
use Rattle.room_model.specs.Queries.{counts, has_post}
use Rattle.room_model.specs.Room.{Room}
use Rattle.room_model.specs.RoomAgreements.{IsPost, IsWellFormed, LoanAgrees, OfferAgrees}
use Rattle.room_model.specs.RoomAgreements.{PostAgrees, TurnAgrees}
use Rattle.room_laws.specs.Exceptions.{Concern, OutOfTurn, Overdue, ShiftOver, LateForScene}
use Rattle.room_laws.specs.Exceptions.{Unanswered, Uncovered, Unacknowledged, Unserved}
use Rattle.room_laws.specs.Exceptions.{any_desk_ends, ends_by, is_back_due, own_desk_ends}

-- ---- what a change does to rows that are there; `Over` says what is ended
abbrev pub turn_at : Callsign → ℕ → Room → Option Turn
turn_at c n r = row_at numbered_cmp turn_key r.turns (c, n)

abbrev pub vehicle_in : Callsign → Room → Option Vehicle
vehicle_in c r = row_at callsign_cmp vehicle_key r.vehicles c

abbrev pub incident_in : ℕ → ℕ → Room → Option Incident
incident_in d n r = row_at pair_cmp incident_key r.incidents (d, n)

module _ (Over : ℕ → Concern → Type 0) where
  pub record IncidentStep (i x : Incident) : Type 0 where
    pub opened : x.opened ≤ i.opened
    pub active : is_active i.state ≡ true
        → (is_active x.state ≡ true) ⊎ Over x.division (Unserved x.number)
    pub class : (x.class ≡ 0) ⊎ (scene_limit x.class ≤ scene_limit i.class)

  pub record VehicleStep (v u : Vehicle) : Type 0 where
    pub way : is_mobilised v.status ≡ true
        → ((is_mobilised u.status ≡ true) × (u.holder ≡ v.holder))
        ⊎ ((n : ℕ) → Over v.holder (Unacknowledged n v.callsign) × Over v.holder (LateForScene n v.callsign))
    pub duty : is_off v.status ≡ false
        → ((is_off u.status ≡ false) × (u.holder ≡ v.holder) × (u.shift_end ≡ v.shift_end))
        ⊎ Over v.holder (ShiftOver v.callsign)
    pub post : (n : ℕ) → has_post n u.post ≡ true
        → ((has_post n v.post ≡ true) × (u.holder ≡ v.holder) × (u.shift_end ≡ v.shift_end))
        ⊎ (Over u.holder (Uncovered n) × (is_free v.status ≡ true))

  -- what a turn that was open became
  pub record TurnGoesOn (t x : Turn) : Type 0 where
    pub same : (x.division ≡ t.division) × (x.incident ≡ t.incident) × (x.ordered ≡ t.ordered)
    pub read : ((x.ended ≡ None) × (x.acknowledged ≡ t.acknowledged))
        ⊎ Over x.division (Unacknowledged x.incident x.callsign)
    pub way : (x.ended ≡ None) ⊎ Over x.division (LateForScene x.incident x.callsign)

  abbrev pub Served : Room → Turn → Type 0
  Served r x = (t : Turn) × Among t r.turns × (t.division ≡ x.division)
      × (t.incident ≡ x.incident) × (counts t ≡ true)

  pub record TurnStep (r : Room) (x : Turn) : Type 0 where
    pub served : counts x ≡ true → Served r x ⊎ Over x.division (Unserved x.incident)
    pub goes_on : (t : Turn) → turn_at x.callsign x.order r ≡ Some t → t.ended ≡ None
        → TurnGoesOn t x

  abbrev pub Effect : Room → Change → Type 0
  Effect r (PutIncident x) = (i : Incident) → incident_in x.division x.number r ≡ Some i
      → IncidentStep i x
  Effect r (PutVehicle u) = (v : Vehicle) × (vehicle_in u.callsign r ≡ Some v) × VehicleStep v u
  Effect r (PutTurn x) = TurnStep r x
  Effect r (PutPoint p) = Over p.division (Uncovered p.number)
  Effect r (PutLoan x) = (l : Loan) → row_at callsign_cmp loan_key r.loans x.callsign ≡ Some l
      → (x.lender ≡ l.lender) × (x.borrower ≡ l.borrower) × (x.until ≡ l.until)
  Effect r (DropLoan c) = (d n : ℕ) → Over d (Overdue n c)
  Effect r (PutOffer x) = (o : Offer) → row_at callsign_cmp offer_key r.offers x.callsign ≡ Some o
      → ⊥
  Effect r (DropOffer c) = (d n : ℕ) → Over d (Unanswered n c)
  Effect r (PutReport y) = (x : Report)
      → row_at numbered_cmp report_key r.reports (y.callsign, y.number) ≡ Some x
      → Over x.division (OutOfTurn y.number y.callsign)
  Effect r (Settle c h) = (v : Vehicle) → vehicle_in c r ≡ Some v
      → (is_offered v.status ≡ true) × ((h ≡ v.holder) ⊎ ((d : ℕ) → Over d (ShiftOver c)))
  Effect r x = Unit {0}

  abbrev pub Effects : Room → List Change → Type 0
  Effects r [] = Unit {0}
  Effects r (x ∷ xs) = Effect r x × Effects r xs

  pub effects_join : (r : Room) (xs ys : List Change) → Effects r xs → Effects r ys
      → Effects r (xs ++ ys)
  effects_join r [] ys f g = g
  effects_join r (x ∷ xs) ys f g = (f.0, effects_join r xs ys f.1 g)

-- ---- what an event ends
abbrev pub EndsBy : Event → Room → Result Answer Refusal → ℕ → Concern → Type 0
EndsBy e r given d k = ends_by d k e.who e.ask (is_back_due e.who e.at r) given ≡ true

pub by_own : (h d : ℕ) (a : Ask) (k : Concern) → h ≡ d → own_desk_ends k a ≡ true
    → (h == d && own_desk_ends k a) || any_desk_ends k a ≡ true
by_own h d a k e own = or_left _ _ (both_true _ _ (eq-eqb h d e) own)

pub by_any : (h d : ℕ) (a : Ask) (k : Concern) → any_desk_ends k a ≡ true
    → (h == d && own_desk_ends k a) || any_desk_ends k a ≡ true
by_any h d a k any = or_right _ _ any

pub same_self : (c e : Callsign) → c ≡ e → same_callsign c e ≡ true
same_self c e same = ap is_eq (ap (callsign_cmp c) (sym same) ∙ tied_itself callsigns_total c)

-- ---- statuses
pub free_still : (s : Status) → is_free s ≡ true → is_mobilised s ≡ true → ⊥
free_still Mobilised f g = cc
free_still s f g = cc

pub idle_still : (s : Status) → is_busy s ≡ false → is_mobilised s ≡ true → ⊥
idle_still Mobilised f g = cc
idle_still s f g = cc

pub offered_still : (s : Status) → is_offered s ≡ true → is_mobilised s ≡ true → ⊥
offered_still Mobilised f g = cc
offered_still s f g = cc

pub offered_unfree : (s : Status) → is_offered s ≡ true → is_free s ≡ true → ⊥
offered_unfree Offered f g = cc
offered_unfree s f g = cc

pub off_still : (s : Status) → is_off s ≡ true → is_mobilised s ≡ true → ⊥
off_still OffDuty f g = cc
off_still s f g = cc

pub off_unfree : (s : Status) → is_off s ≡ true → is_free s ≡ true → ⊥
off_unfree OffDuty f g = cc
off_unfree s f g = cc

-- ---- what a well-formed room has
module _ (r : Room) (w : IsWellFormed r) where
  pub posted_free : (c : Callsign) (v : Vehicle) → vehicle_in c r ≡ Some v → (n : ℕ)
      → has_post n v.post ≡ true → is_free v.status ≡ true
  posted_free c v there n = go v.post (subst (PostAgrees r) there (w.posts c))
    where
      go : (o : Option ℕ) → IsPost r v o → has_post n o ≡ true → is_free v.status ≡ true
      go None h e = cc
      go (Some m) h e = h.0

  pub is_offer_of : (c : Callsign) (v : Vehicle) (o : Offer) → vehicle_in c r ≡ Some v
      → row_at callsign_cmp offer_key r.offers c ≡ Some o
      → OfferAgrees r.plan (Some v) (Some o)
  is_offer_of c v o there found =
      subst (λ (x : Option Vehicle). OfferAgrees r.plan x (Some o)) there
      (subst (OfferAgrees r.plan (vehicle_in c r)) found (w.offers c))

  pub is_loan_of : (c : Callsign) (v : Vehicle) (l : Loan) → vehicle_in c r ≡ Some v
      → row_at callsign_cmp loan_key r.loans c ≡ Some l → LoanAgrees (Some v) (Some l)
  is_loan_of c v l there found =
      subst (λ (x : Option Vehicle). LoanAgrees x (Some l)) there
      (subst (LoanAgrees (vehicle_in c r)) found (w.loans c))

  -- the next order is not given yet
  pub no_next : (c : Callsign) (v : Vehicle) (t : Turn) → vehicle_in c r ≡ Some v
      → turn_at c (v.last_order + 1) r ≡ Some t → ⊥
  no_next c v t there found =
      too_late (subst (λ (x : Option Vehicle). TurnAgrees x (v.last_order + 1) (Some t)) there
      (subst (TurnAgrees (vehicle_in c r) (v.last_order + 1)) found (w.turns c (v.last_order + 1))))
    where
      too_late : TurnAgrees (Some v) (v.last_order + 1) (Some t) → ⊥
      too_late f = let late = f.1 in omega (arith, late)

-- ---- a lower class has no longer limit
abbrev limit_by : Bool → Bool → ℕ
limit_by one two = cond one 480 (cond two 840 3600)

abbrev LimitIs : ℕ → ℕ → Type 0
LimitIs c limit = ((c ≡ 1) × (limit ≡ 480))
    ⊎ (((c ≡ 2) × (limit ≡ 840)) ⊎ ((c ≢ 1) × (c ≢ 2) × (limit ≡ 3600)))

limit_is : (c : ℕ) → LimitIs c (scene_limit c)
limit_is c =
    (elim (c == 1) as (λ (b : Bool). c == 1 ≡ b → LimitIs c (limit_by b (c == 2))) [
      | true ↦ λ e. inl (eqb-true c 1 e, refl)
      | false ↦ λ e.
          (elim (c == 2) as (λ (b : Bool). c == 2 ≡ b → LimitIs c (limit_by false b)) [
            | true ↦ λ f. inr (inl (eqb-true c 2 f, refl))
            | false ↦ λ f.
                inr (inr (
                  λ same. let one = eq-eqb c 1 same in cc,
                  λ same. let two = eq-eqb c 2 same in cc,
                  refl,
                ))
          ]) refl
    ]) refl

limit_falls : (a b : ℕ) → a ≤ b → (a ≡ 0) ⊎ (scene_limit a ≤ scene_limit b)
limit_falls a b h = elim (limit_is a) [
  | inl one ↦ elim (limit_is b) [
    | inl g ↦ inr (omega (arith, one.1, g.1))
    | inr more ↦ elim more [
      | inl g ↦ inr (omega (arith, one.1, g.1))
      | inr g ↦ inr (omega (arith, one.1, g.2))
    ]
  ]
  | inr more ↦ elim more [
    | inl two ↦ elim (limit_is b) [
      | inl g ↦ absurd (omega (arith, h, two.0, g.0))
      | inr rest ↦ elim rest [
        | inl g ↦ inr (omega (arith, two.1, g.1))
        | inr g ↦ inr (omega (arith, two.1, g.2))
      ]
    ]
    | inr high ↦ elim (limit_is b) [
      | inl g ↦ inl (small a b h high.0 high.1 (omega (arith, g.0)))
      | inr rest ↦ elim rest [
        | inl g ↦ inl (small a b h high.0 high.1 (omega (arith, g.0)))
        | inr g ↦ inr (omega (arith, high.2, g.2))
      ]
    ]
  ]
]
  where
    small : (a b : ℕ) → a ≤ b → a ≢ 1 → a ≢ 2 → b ≤ 2 → a ≡ 0
    small a b h one two le = omega (arith, h, one, two, le)

pub class_left : (a b : ℕ) → (min a b ≡ 0) ⊎ (scene_limit (min a b) ≤ scene_limit a)
class_left a b = limit_falls (min a b) a (omega arith)

pub class_right : (a b : ℕ) → (min a b ≡ 0) ⊎ (scene_limit (min a b) ≤ scene_limit b)
class_right a b = limit_falls (min a b) b (omega arith)
