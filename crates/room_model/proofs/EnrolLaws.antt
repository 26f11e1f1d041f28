-- An enrolled fleet row keeps a room well-formed and its terminals fit, and changes nothing the
-- second time.
use Rattle.std.proofs.Common.{ap, eq-eqb, inl, inr, subst, sym, ◌∙◌}
use Rattle.std.proofs.lemmas.Cmp.{tied_itself}
use Rattle.std.proofs.lemmas.Map.Lookups.{CmpEqualImpliesEq}
use Rattle.std.specs.Cmp.{IsTotalOrder}
use Rattle.std.specs.Ordering.{is_eq}
use Rattle.std.specs.Prelude.{Bool, List, None, Option, Some, [], cond, false, is_some, option_map}
use Rattle.std.specs.Prelude.{refl, true, ℕ, ◌==◌, ◌∷◌, ◌≡◌, ◌⊎◌}
use Rattle.room_place.specs.Plans.{has_division}
use Rattle.room_types.proofs.KeyedLaws.{keyed_put}
use Rattle.room_types.specs.KeyedRows.{put_row, row_at}
use Rattle.room_types.specs.Keys.{callsign_cmp, vehicle_key}
use Rattle.room_types.specs.KeyLemmas.{callsigns_total, exact_callsigns}
use Rattle.room_types.specs.Texts.{Callsign, Token}
use Rattle.room_types.specs.declared.asks.Who.TheVariants.{Crew, Desk}
use Rattle.room_types.specs.declared.changes.Change.TheVariants.{PutVehicle}
use Rattle.room_types.specs.declared.codes.Kind.{Kind}
use Rattle.room_types.specs.declared.codes.Kind.TheVariants.{Ambulance, Car, Support}
use Rattle.room_types.specs.declared.fleet.FleetRow.{FleetRow}
use Rattle.room_types.specs.declared.fleet.RowFate.{RowFate}
use Rattle.room_types.specs.declared.fleet.RowFate.TheVariants.{Added, Refused, Same}
use Rattle.room_types.specs.declared.fleet.Terminal.{Terminal}
use Rattle.room_types.specs.declared.tables.Assignment.{Assignment}
use Rattle.room_types.specs.declared.tables.Loan.{Loan}
use Rattle.room_types.specs.declared.tables.Offer.{Offer}
use Rattle.room_types.specs.declared.tables.Report.{Report}
use Rattle.room_types.specs.declared.tables.Turn.{Turn}
use Rattle.room_types.specs.declared.tables.Vehicle.{Vehicle}
use Rattle.room_model.proofs.IncidentChanges.{put_rows, vehicles_put}
use Rattle.room_model.proofs.KeptCalls.{row_stays}
use Rattle.room_model.proofs.KeptEvents.{put_there}
use Rattle.room_model.proofs.Tests.{both_true}
use Rattle.room_model.proofs.VehicleAgreements.{Agrees, agreed, kept_by}
use Rattle.room_model.proofs.VehicleRows.{VehicleRows, bare, put_here, rows_of}
use Rattle.room_types.specs.Codes.{same_kind}
use Rattle.room_model.specs.FleetRows.{AreTerminals, fate_again, fate_by, fate_of, is_same_vehicle}
use Rattle.room_model.specs.FleetRows.{new_terminal, new_vehicle, room_by, room_enrolled}
use Rattle.room_model.specs.FleetRows.{terminal_at, terminal_key, terminals_by, terminals_enrolled}
use Rattle.room_model.specs.FleetRows.{token_cmp}
use Rattle.room_model.specs.Room.{Room}
use Rattle.room_model.specs.RoomAgreements.{AssignmentAgrees, IsWellFormed, LoanAgrees, OfferAgrees}
use Rattle.room_model.specs.RoomAgreements.{ReportAgrees, TurnAgrees}
use Rattle.room_types.specs.declared.refusal_statuses.Refusal.TheVariants as refusal

-- the rows of a callsign that no vehicle has
module _ (s : Room) (p : VehicleRows) (x : FleetRow)
    (h : Agrees s (record p { vehicle = None })) where
  no_loan : (o : Option Loan) → LoanAgrees None o → LoanAgrees (Some (new_vehicle x)) o
  no_loan None g = refl
  no_loan (Some l) g = absurd g

  none_offered : (o : Option Offer) → OfferAgrees s.plan None o
      → OfferAgrees s.plan (Some (new_vehicle x)) o
  none_offered None g = refl
  none_offered (Some o) g = absurd g

  none_assigned : (o : Option Assignment) → AssignmentAgrees None o
      → AssignmentAgrees (Some (new_vehicle x)) o
  none_assigned None g = refl
  none_assigned (Some a) g = absurd g

  none_ordered : (n : ℕ) (o : Option Turn) → TurnAgrees None n o
      → TurnAgrees (Some (new_vehicle x)) n o
  none_ordered n None g = λ e. refl
  none_ordered n (Some t) g = absurd g

  none_reported : (n : ℕ) (o : Option Report) → ReportAgrees None n o
      → ReportAgrees (Some (new_vehicle x)) n o
  none_reported n None g = tt
  none_reported n (Some y) g = absurd g

  added_agrees : has_division s.plan x.division ≡ true
      → Agrees s (record p { vehicle = Some (new_vehicle x) })
  added_agrees planned = record {
    loan = no_loan p.loan h.loan;
    offer = none_offered p.offer h.offer;
    assignment = none_assigned p.assignment h.assignment;
    turn = λ n. none_ordered n (p.turn n) (h.turn n);
    same_incident = h.same_incident;
    active = h.active;
    report = λ n. none_reported n (p.report n) (h.report n);
    last_report = inl refl;
    post = tt;
    home = planned;
    holder = planned;
    turn_division = h.turn_division;
    report_division = h.report_division;
  }

-- ---- what a row that is added means
pub record IsAdded (r : Room) (ts : List Terminal) (x : FleetRow) : Type 0 where
  pub planned : has_division r.plan x.division ≡ true
  pub new_callsign : row_at callsign_cmp vehicle_key r.vehicles x.callsign ≡ None
  pub new_token : terminal_at x.token ts ≡ None

added_by : (v : Option Vehicle) (t : Option Terminal) (x : FleetRow) → fate_by v t x ≡ Added
    → (v ≡ None) × (t ≡ None)
added_by None None x e = (refl, refl)
added_by None (Some t) x e = cc
added_by (Some v) t x e =
    (elim (is_same_vehicle v t
    x) as (λ (b : Bool). cond b Same (Refused refusal.CallsignTaken) ≡ Added → (Some v ≡ None) × (t ≡ None)) [
      | true ↦ λ f. absurd cc
      | false ↦ λ f. absurd cc
    ]) e

pub is_added : (r : Room) (ts : List Terminal) (x : FleetRow) → fate_of r ts x ≡ Added
    → IsAdded r ts x
is_added r ts x =
    (elim (has_division r.plan x.division) as (λ (b : Bool).
    has_division r.plan x.division ≡ b
    → cond b (fate_by (row_at callsign_cmp vehicle_key r.vehicles x.callsign) (terminal_at x.token ts) x)
    (Refused refusal.NoSuchDivision) ≡ Added → IsAdded r ts x) [
      | true ↦
          λ planned e. let f = added_by _ _ x e in record { planned = planned; new_callsign = f.0; new_token = f.1 }
      | false ↦ λ planned e. absurd cc
    ]) refl

same_kind_itself : (k : Kind) → same_kind k k ≡ true
same_kind_itself Ambulance = refl
same_kind_itself Car = refl
same_kind_itself Support = refl

pub tokens_total : IsTotalOrder token_cmp
tokens_total = callsigns_total

pub exact_tokens : CmpEqualImpliesEq token_cmp
exact_tokens = exact_callsigns

-- what is found at each token, after a terminal was put
pub terminals_put : (P : Token → Option Terminal → Type 0) (ts : List Terminal) (t : Terminal)
    → P t.token (Some t) → ((k : Token) → is_eq (token_cmp k t.token) ≡ false
    → P k (terminal_at k ts)) → (k : Token)
    → P k (terminal_at k (put_row token_cmp terminal_key ts t))
terminals_put = put_rows token_cmp terminal_key tokens_total exact_tokens

module _ (r : Room) (ts : List Terminal) (x : FleetRow) where
  -- an enrolled row keeps the room well-formed
  by_fate : (f : RowFate) → fate_of r ts x ≡ f → IsWellFormed r → IsWellFormed (room_by f x r)
  by_fate Same e w = w
  by_fate (Refused k) e w = w
  by_fate Added e w =
      let is = is_added r ts x e in
      let p = rows_of x.callsign r in
      kept_by x.callsign r (PutVehicle (new_vehicle x) ∷ []) w (refl, tt)
      (added_agrees (bare r) p x
      (subst (λ o. Agrees (bare r) (record p { vehicle = o })) is.new_callsign (agreed r w x.callsign)) is.planned)

  pub enrolled_kept : IsWellFormed r → IsWellFormed (room_enrolled r ts x)
  enrolled_kept w = by_fate (fate_of r ts x) refl w

  -- once it is added it is the same
  added_same : IsAdded r ts x → fate_of (room_by Added x r) (terminals_by Added x ts) x ≡ Same
  added_same is =
      let v = put_here callsign_cmp vehicle_key callsigns_total r.vehicles (new_vehicle x) x.callsign refl in
      let t = put_here token_cmp terminal_key tokens_total ts (new_terminal x) x.token refl in
      ap (λ (b : Bool).
      cond b
      (fate_by
      (row_at callsign_cmp vehicle_key (put_row callsign_cmp vehicle_key r.vehicles (new_vehicle x)) x.callsign)
      (terminal_at x.token (put_row token_cmp terminal_key ts (new_terminal x))) x) (Refused refusal.NoSuchDivision))
      is.planned
      ∙ ap (λ o. fate_by o (terminal_at x.token (put_row token_cmp terminal_key ts (new_terminal x))) x) v
      ∙ ap (λ o. fate_by (Some (new_vehicle x)) o x) t
      ∙ ap (λ (b : Bool). cond b Same (Refused refusal.CallsignTaken))
      (both_true (x.division == x.division) _ (eq-eqb x.division x.division refl)
      (both_true (same_kind x.kind x.kind) _ (same_kind_itself x.kind)
      (ap is_eq (tied_itself callsigns_total x.callsign))))

  again_by : (f : RowFate) → fate_of r ts x ≡ f
      → fate_of (room_by f x r) (terminals_by f x ts) x ≡ fate_again f
  again_by Same e = e
  again_by (Refused k) e = e
  again_by Added e = added_same (is_added r ts x e)

  pub enrolled_again : fate_of (room_enrolled r ts x) (terminals_enrolled r ts x) x
      ≡ fate_again (fate_of r ts x)
  enrolled_again = again_by (fate_of r ts x) refl

  -- the terminals fit the room afterwards
  module _ (is : IsAdded r ts x) (are : AreTerminals r ts) where
    old_crew : (k : Token) (c : Callsign)
        → terminal_at k ts ≡ Some (record { token = k; who = Crew c }) → (c ≡ x.callsign → ⊥)
    old_crew k c there same =
        let v = are.crews k c there in
        let none : is_some (row_at callsign_cmp vehicle_key r.vehicles c)
        ≡ false = ap is_some (ap (row_at callsign_cmp vehicle_key r.vehicles) same ∙ is.new_callsign) in
        cc

    -- a crew's terminal is the new one, or was there
    crew_after : (c : Callsign) (k : Token)
        → terminal_at k (terminals_by Added x ts) ≡ Some (record { token = k; who = Crew c })
        → ((k ≡ x.token) × (c ≡ x.callsign))
        ⊎ (terminal_at k ts ≡ Some (record { token = k; who = Crew c }))
    crew_after c =
        terminals_put
        (λ k o.
        o ≡ Some (record { token = k; who = Crew c })
        → ((k ≡ x.token) × (c ≡ x.callsign)) ⊎ (terminal_at k ts ≡ Some (record { token = k; who = Crew c }))) ts
        (new_terminal x)
        (λ e.
        let whos : Some (Crew x.callsign) ≡ Some (Crew c) = ap (option_map (λ (t : Terminal). t.who)) e in
        let same : x.callsign ≡ c = cc in inl (refl, sym same)) (λ k apart e. inr e)

    desk_after : (d : ℕ) (k : Token) → terminal_at k (terminals_by Added x ts)
        ≡ Some (record { token = k; who = Desk d })
        → terminal_at k ts ≡ Some (record { token = k; who = Desk d })
    desk_after d =
        terminals_put
        (λ k o.
        o ≡ Some (record { token = k; who = Desk d }) → terminal_at k ts ≡ Some (record { token = k; who = Desk d })) ts
        (new_terminal x)
        (λ e.
        let whos : Some (Crew x.callsign) ≡ Some (Desk d) = ap (option_map (λ (t : Terminal). t.who)) e in absurd cc)
        (λ k apart e. e)

    crew_there : (c : Callsign) → is_some
        (row_at callsign_cmp vehicle_key (room_by Added x r).vehicles c) ≡ true
        → (k : Token) × (terminal_at k (terminals_by Added x ts)
        ≡ Some (record { token = k; who = Crew c }))
    crew_there =
        vehicles_put
        (λ c o.
        is_some o ≡ true
        → (k : Token) × (terminal_at k (terminals_by Added x ts) ≡ Some (record { token = k; who = Crew c })))
        r.vehicles (new_vehicle x)
        (λ e. (x.token, put_here token_cmp terminal_key tokens_total ts (new_terminal x) x.token refl))
        (λ c apart e.
        let old = are.has_crew c e in (
          old.0,
          row_stays token_cmp terminal_key tokens_total exact_tokens ts (new_terminal x)
              (record { token = old.0; who = Crew c }) is.new_token old.0 old.1,
        ))

    terminals_added : AreTerminals (room_by Added x r) (terminals_by Added x ts)
    terminals_added = record {
      keyed = keyed_put token_cmp terminal_key tokens_total ts (new_terminal x) are.keyed;
      has_crew = crew_there;
      one_crew = λ j k c e f. elim (crew_after c j e) [
        | inl a ↦ elim (crew_after c k f) [
          | inl b ↦ a.0 ∙ sym b.0
          | inr b ↦ absurd (old_crew k c b a.1)
        ]
        | inr a ↦ elim (crew_after c k f) [
          | inl b ↦ absurd (old_crew j c a b.1)
          | inr b ↦ are.one_crew j k c a b
        ]
      ];
      crews = λ k c e. elim (crew_after c k e) [
        | inl a ↦
            ap (λ j. is_some (row_at callsign_cmp vehicle_key (room_by Added x r).vehicles j)) a.1
            ∙ ap is_some (put_here callsign_cmp vehicle_key callsigns_total r.vehicles (new_vehicle x) x.callsign refl)
        | inr a ↦ put_there c r.vehicles (new_vehicle x) (are.crews k c a)
      ];
      desks = λ k d e. are.desks k d (desk_after d k e);
    }

  terminals_by_fate : (f : RowFate) → fate_of r ts x ≡ f → AreTerminals r ts
      → AreTerminals (room_by f x r) (terminals_by f x ts)
  terminals_by_fate Same e are = are
  terminals_by_fate (Refused k) e are = are
  terminals_by_fate Added e are = terminals_added (is_added r ts x e) are

  pub terminals_kept : AreTerminals r ts
      → AreTerminals (room_enrolled r ts x) (terminals_enrolled r ts x)
  terminals_kept are = terminals_by_fate (fate_of r ts x) refl are
