-- What an entry of the queue needs of the room's rows: the queue has the entry exactly where they
-- are so.
use Rattle.std.proofs.Common.{ap, arith, eq-eqb, eqb-true, inl, inr, lt-ltb, ltb-true, subst, sym}
use Rattle.std.proofs.Common.{◌∙◌}
use Rattle.std.specs.List.{cons_option}
use Rattle.std.specs.Prelude.{Bool, List, None, Option, Some, [], cond, false, filter, filter_map}
use Rattle.std.specs.Prelude.{is_none, length, nat_le, nat_lt, not, refl, suc, true, ℕ, ◌&&◌, ◌++◌}
use Rattle.std.specs.Prelude.{◌+◌, ◌-◌, ◌==◌, ◌∷◌, ◌≡◌, ◌≤◌, ◌⊎◌}
use Rattle.room_place.specs.Choice.{Among}
use Rattle.room_types.specs.Codes.{is_active, is_exception, is_mobilised, is_off, same_kind}
use Rattle.room_types.specs.KeyLemmas.{callsigns_total, exact_callsigns, exact_numbered, exact_pair}
use Rattle.room_types.specs.KeyLemmas.{numbered_total, pairs_total}
use Rattle.room_types.specs.KeyedRows.{row_at}
use Rattle.room_types.specs.Keys.{callsign_cmp, incident_key, loan_key, numbered_cmp, offer_key}
use Rattle.room_types.specs.Keys.{owns_loan, owns_offer, pair_cmp, point_key, report_key, turn_key}
use Rattle.room_types.specs.Keys.{vehicle_key}
use Rattle.room_types.specs.Texts.{Callsign}
use Rattle.room_types.specs.declared.answers.QueueEntry.{QueueEntry}
use Rattle.room_types.specs.declared.codes.Kind.{Kind}
use Rattle.room_types.specs.declared.codes.Kind.TheVariants.{Ambulance, Car, Support}
use Rattle.room_types.specs.declared.tables.Incident.{Incident}
use Rattle.room_types.specs.declared.tables.Loan.{Loan}
use Rattle.room_types.specs.declared.tables.Offer.{Offer}
use Rattle.room_types.specs.declared.tables.Point.{Point}
use Rattle.room_types.specs.declared.tables.Report.{Report}
use Rattle.room_types.specs.declared.tables.Turn.{Turn}
use Rattle.room_types.specs.declared.tables.Vehicle.{Vehicle}
use Rattle.room_model.proofs.AssignedOnce.{one_open_turn}
use Rattle.room_model.proofs.KeptIncidents.{incident_there}
use Rattle.room_model.proofs.OpenTurns.{open_is, open_there, row_there}
use Rattle.room_model.proofs.Tests.{Implies, both_true, left_true, none_of, right_true, row_among}
use Rattle.room_model.proofs.Tests.{row_key}
use Rattle.room_model.specs.Moments.{age, scene_limit}
use Rattle.room_model.specs.Queries.{counts, holders, incident_of, open_turn, served}
use Rattle.room_model.specs.Queue.{entries, exception, is_unserved, overdue, shift_over}
use Rattle.room_model.specs.Queue.{late_for_scene, late_incident, late_turn, unanswered, uncovered}
use Rattle.room_model.specs.Queue.{unacknowledged, unacknowledged_turn, unserved}
use Rattle.room_model.specs.Room.{Room}
use Rattle.room_model.specs.RoomAgreements.{IsWellFormed}
use Rattle.room_laws.proofs.AskEffects.{open_own}
use Rattle.room_laws.proofs.Effects.{incident_in, turn_at, vehicle_in}
use Rattle.room_laws.specs.Exceptions.{Concern, IsOf, OutOfTurn, Overdue, ShiftOver, Shows}
use Rattle.room_laws.specs.Exceptions.{LateForScene, Unanswered, Uncovered, Unacknowledged}
use Rattle.room_laws.specs.Exceptions.{Unserved, label}
use Rattle.room_types.specs.Ranks.{is_past, rank_number}
use Rattle.room_types.specs.declared.ranks.Rank.{Rank}
use Rattle.room_types.specs.declared.ranks.Rank.TheVariants as rank

-- ---- lists
pub among_join : {X : Type 0} (xs ys : List X) (y : X) → Among y (xs ++ ys) → Among y xs ⊎ Among y ys
among_join [] ys y h = inr h
among_join (x ∷ xs) ys y h = elim h [
  | inl e ↦ inl (inl e)
  | inr a ↦ elim (among_join xs ys y a) [ inl b ↦ inl (inr b) | inr b ↦ inr b ]
]

pub among_left : {X : Type 0} (xs ys : List X) (y : X) → Among y xs → Among y (xs ++ ys)
among_left [] ys y h = absurd h
among_left (x ∷ xs) ys y h = elim h [ inl e ↦ inl e | inr a ↦ inr (among_left xs ys y a) ]

pub among_right : {X : Type 0} (xs ys : List X) (y : X) → Among y ys → Among y (xs ++ ys)
among_right [] ys y h = h
among_right (x ∷ xs) ys y h = inr (among_right xs ys y h)

made_head : {Y : Type 0} (o : Option Y) (ys : List Y) (y : Y) → Among y (cons_option o ys)
    → (o ≡ Some y) ⊎ Among y ys
made_head None ys y h = inr h
made_head (Some z) ys y h = elim h [ inl e ↦ inl (ap Some (sym e)) | inr a ↦ inr a ]

pub made_of : {X Y : Type 0} (f : X → Option Y) (xs : List X) (y : Y) → Among y (filter_map f xs)
    → (x : X) × Among x xs × (f x ≡ Some y)
made_of f [] y h = absurd h
made_of {X} {Y} f (x ∷ xs) y h = elim (made_head (f x) (filter_map f xs) y h) [
  | inl e ↦ (x, inl refl, e)
  | inr a ↦ let more = made_of f xs y a in (more.0, inr more.1, more.2)
]

head_makes : {Y : Type 0} (o : Option Y) (ys : List Y) (y : Y) → o ≡ Some y → Among y (cons_option o ys)
head_makes None ys y h = cc
head_makes (Some z) ys y h = let same : y ≡ z = cc in inl same

more_makes : {Y : Type 0} (o : Option Y) (ys : List Y) (y : Y) → Among y ys → Among y (cons_option o ys)
more_makes None ys y h = h
more_makes (Some z) ys y h = inr h

pub makes : {X Y : Type 0} (f : X → Option Y) (xs : List X) (x : X) (y : Y) → Among x xs
    → f x ≡ Some y → Among y (filter_map f xs)
makes f [] x y a e = absurd a
makes {X} {Y} f (z ∷ xs) x y a e = elim a [
  | inl same ↦ head_makes (f z) (filter_map f xs) y (ap f (sym same) ∙ e)
  | inr b ↦ more_makes (f z) (filter_map f xs) y (makes f xs x y b e)
]

pub cond_is : {X : Type 0} (b : Bool) (o : Option X) (y : X) → cond b o None ≡ Some y
    → (b ≡ true) × (o ≡ Some y)
cond_is true o y h = (refl, h)
cond_is false o y h = cc

pub cond_on : {X : Type 0} (b : Bool) (o : Option X) → b ≡ true → cond b o None ≡ o
cond_on b o h = rw h refl

pub some_is : {X : Type 0} (x y : X) → Some x ≡ Some y → x ≡ y
some_is x y h = cc

-- none passes, or one does
pub none_or : {X : Type 0} (p : X → Bool) (xs : List X)
    → ((x : X) → Among x xs → p x ≡ true → ⊥) ⊎ ((x : X) × Among x xs × (p x ≡ true))
none_or p [] = inl (λ x a t. a)
none_or {X} p (y ∷ ys) =
    (elim (p y) as (λ (b : Bool).
    p y ≡ b → ((x : X) → Among x (y ∷ ys) → p x ≡ true → ⊥) ⊎ ((x : X) × Among x (y ∷ ys) × (p x ≡ true))) [
      | true ↦ λ e. inr (y, inl refl, e)
      | false ↦ λ e. elim (none_or p ys) [
        | inr one ↦ inr (one.0, inr one.1, one.2)
        | inl none ↦ inl (λ x a t. elim a [
          | inl same ↦ let passes : p y ≡ true = ap p (sym same) ∙ t in cc
          | inr b ↦ none x b t
        ])
      ]
    ]) refl

pub none_pass : {X : Type 0} (p : X → Bool) (xs : List X) → ((x : X) → Among x xs → p x ≡ true → ⊥)
    → filter p xs ≡ []
none_pass p [] h = refl
none_pass {X} p (y ∷ ys) h =
    (elim (p y) as (λ (b : Bool). p y ≡ b → cond b (y ∷ filter p ys) (filter p ys) ≡ []) [
      | true ↦ λ e. absurd (h y (inl refl) e)
      | false ↦ λ e. none_pass p ys (λ x a t. h x (inr a) t)
    ]) refl

pub among_passing : {X : Type 0} (p : X → Bool) (xs : List X) (x : X) → Among x xs → p x ≡ true
    → Among x (filter p xs)
among_passing p [] x a t = absurd a
among_passing {X} p (y ∷ ys) x a t =
    (elim (p y) as (λ (b : Bool). p y ≡ b → Among x (cond b (y ∷ filter p ys) (filter p ys))) [
      | true ↦ λ e. elim a [ inl same ↦ inl same | inr b ↦ inr (among_passing p ys x b t) ]
      | false ↦ λ e. elim a [
        | inl same ↦ let passes : p y ≡ true = ap p (sym same) ∙ t in cc
        | inr b ↦ among_passing p ys x b t
      ]
    ]) refl

empty_has : {X : Type 0} (xs : List X) (x : X) → length xs == 0 ≡ true → Among x xs → ⊥
empty_has [] x e a = a
empty_has (y ∷ ys) x e a = let none = eqb-true (length (y ∷ ys)) 0 e in absurd (omega (arith, none))

pub fewer_pass : {X : Type 0} (p q : X → Bool) (xs : List X) → Implies p q
    → length (filter p xs) ≤ length (filter q xs)
fewer_pass p q [] h = omega arith
fewer_pass {X} p q (y ∷ ys) h =
    let rest = fewer_pass p q ys h in
    (elim (p y) as (λ (b : Bool). p y ≡ b
    → length (cond b (y ∷ filter p ys) (filter p ys)) ≤ length (cond (q y) (y ∷ filter q ys) (filter q ys))) [
      | true ↦ λ e.
          subst (λ (b : Bool). suc (length (filter p ys)) ≤ length (cond b (y ∷ filter q ys) (filter q ys)))
          (sym (h y e))
          (omega (arith, rest))
      | false ↦ λ e.
          (elim (q y) as (λ (b : Bool). length (filter p ys) ≤ length (cond b (y ∷ filter q ys) (filter q ys))) [
            | true ↦ omega (arith, rest)
            | false ↦ rest
          ])
    ]) refl

-- ---- what one entry is of is one thing
abbrev Tag : Type 0
Tag = Rank × ℕ × Option Callsign

some_same : (c e : Callsign) → Some c ≡ Some e → c ≡ e
some_same c e h = cc

pub same_label : (k j : Concern) → label k ≡ label j → k ≡ j
same_label (Unserved n) (Unserved m) e = ap (λ (t : Tag). Unserved t.1) e
same_label (Unacknowledged n c) (Unacknowledged m f) e =
    let a = ap (λ (t : Tag). t.1) e in
    let b = some_same c f (ap (λ (t : Tag). t.2) e) in λ i. Unacknowledged (a i) (b i)
same_label (LateForScene n c) (LateForScene m f) e =
    let a = ap (λ (t : Tag). t.1) e in let b = some_same c f (ap (λ (t : Tag). t.2) e) in λ i. LateForScene (a i) (b i)
same_label (OutOfTurn n c) (OutOfTurn m f) e =
    let a = ap (λ (t : Tag). t.1) e in let b = some_same c f (ap (λ (t : Tag). t.2) e) in λ i. OutOfTurn (a i) (b i)
same_label (Overdue n c) (Overdue m f) e =
    let a = ap (λ (t : Tag). t.1) e in let b = some_same c f (ap (λ (t : Tag). t.2) e) in λ i. Overdue (a i) (b i)
same_label (ShiftOver c) (ShiftOver f) e =
    let b = some_same c f (ap (λ (t : Tag). t.2) e) in λ i. ShiftOver (b i)
same_label (Uncovered n) (Uncovered m) e = ap (λ (t : Tag). Uncovered t.1) e
same_label (Unanswered n c) (Unanswered m f) e =
    let a = ap (λ (t : Tag). t.1) e in let b = some_same c f (ap (λ (t : Tag). t.2) e) in λ i. Unanswered (a i) (b i)
same_label k j e =
    let ranks = ap (λ (t : Tag). rank_number t.0) e in absurd (omega (arith, ranks))

-- ---- moments
pub later_age : (a m t s : ℕ) → m ≤ t → nat_lt a (age m s) ≡ true → nat_lt a (age t s) ≡ true
later_age a m t s le h = lt-ltb _ _ (omega (arith, ltb-true a (m - s) h, le))

pub earlier_start : (a b m s u : ℕ) → b ≤ a → u ≤ s → nat_lt a (age m s) ≡ true
    → nat_lt b (age m u) ≡ true
earlier_start a b m s u less le h = lt-ltb _ _ (omega (arith, ltb-true a (m - s) h, le, less))

-- ---- what each entry needs
module _ (d : ℕ) (r : Room) where
  -- a vehicle on its way to the incident
  pub record IsOnWay (n : ℕ) (c : Callsign) : Type 0 where
    pub vehicle : Vehicle
    pub found : vehicle_in c r ≡ Some vehicle
    pub holder : vehicle.holder ≡ d
    pub mobilised : is_mobilised vehicle.status ≡ true
    pub turn : Turn
    pub turn_found : turn_at c turn.order r ≡ Some turn
    pub unended : turn.ended ≡ None
    pub own : turn.division ≡ d
    pub for_it : turn.incident ≡ n

module _ (d m : ℕ) (r : Room) where
  pub record HasUnserved (n : ℕ) : Type 0 where
    pub incident : Incident
    pub found : incident_in d n r ≡ Some incident
    pub active : is_active incident.state ≡ true
    pub late : is_past rank.Unserved (age m incident.opened) ≡ true
    pub nobody : (t : Turn) → Among t r.turns → t.division ≡ d → t.incident ≡ n
        → counts t ≡ true → ⊥

  pub record HasUnacknowledged (n : ℕ) (c : Callsign) : Type 0 where
    pub way : IsOnWay d r n c
    pub unseen : way.turn.acknowledged ≡ None
    pub late : is_past rank.Unacknowledged (age m way.turn.ordered) ≡ true

  pub record HasLate (n : ℕ) (c : Callsign) : Type 0 where
    pub way : IsOnWay d r n c
    pub incident : Incident
    pub found : incident_in d n r ≡ Some incident
    pub late : nat_lt (scene_limit incident.class) (age m incident.opened) ≡ true

  pub record HasReport (n : ℕ) (c : Callsign) : Type 0 where
    pub report : Report
    pub found : row_at numbered_cmp report_key r.reports (c, n) ≡ Some report
    pub own : report.division ≡ d
    pub unended : is_exception report ≡ true

  pub record HasOverdue (n : ℕ) (c : Callsign) : Type 0 where
    pub loan : Loan
    pub found : row_at callsign_cmp loan_key r.loans c ≡ Some loan
    pub party : owns_loan d loan ≡ true
    pub other : cond (loan.lender == d) loan.borrower loan.lender ≡ n
    pub late : nat_lt loan.until m ≡ true

  pub record HasShiftOver (c : Callsign) : Type 0 where
    pub vehicle : Vehicle
    pub found : vehicle_in c r ≡ Some vehicle
    pub holder : vehicle.holder ≡ d
    pub on : is_off vehicle.status ≡ false
    pub late : nat_le vehicle.shift_end m ≡ true

  pub record HasUncovered (n : ℕ) : Type 0 where
    pub point : Point
    pub found : row_at pair_cmp point_key r.points (d, n) ≡ Some point
    pub short : nat_lt (length (holders d n m r)) point.cover ≡ true

  pub record HasUnanswered (n : ℕ) (c : Callsign) : Type 0 where
    pub offer : Offer
    pub found : row_at callsign_cmp offer_key r.offers c ≡ Some offer
    pub party : owns_offer d offer ≡ true
    pub other : cond (offer.lender == d) offer.borrower offer.lender ≡ n
    pub late : is_past rank.Unanswered (age m offer.since) ≡ true

  abbrev pub Has : Concern → Type 0
  Has (Unserved n) = HasUnserved n
  Has (Unacknowledged n c) = HasUnacknowledged n c
  Has (LateForScene n c) = HasLate n c
  Has (OutOfTurn n c) = HasReport n c
  Has (Overdue n c) = HasOverdue n c
  Has (ShiftOver c) = HasShiftOver c
  Has (Uncovered n) = HasUncovered n
  Has (Unanswered n c) = HasUnanswered n c

  -- an entry and what it is of
  abbrev pub Named : QueueEntry → Type 0
  Named e = (k : Concern) × IsOf k e × Has k

  abbrev tag : QueueEntry → Rank × ℕ × Option Callsign
  tag x = (x.rank, x.number, x.callsign)

  module _ (w : IsWellFormed r) where
    pub incident_at : (i : Incident) → Among i r.incidents → i.division == d ≡ true
        → incident_in d i.number r ≡ Some i
    incident_at i a own =
        subst (λ (h : ℕ). incident_in h i.number r ≡ Some i) (eqb-true i.division d own)
        (row_among pair_cmp incident_key pairs_total r.incidents i w.order.incidents a)

    abbrev serves : ℕ → Kind → Turn → Bool
    serves n k t = t.division == d && (t.incident == n && (same_kind t.kind k && counts t))

    served_none : (n : ℕ) (k : Kind) (t : Turn) → served d n k r == 0 ≡ true → Among t r.turns
        → t.division ≡ d → t.incident ≡ n → counts t ≡ true → same_kind t.kind k ≡ true → ⊥
    unfolding served
    served_none n k t none a own for_it on kind =
        empty_has (filter (serves n k) r.turns) t none
        (among_passing (serves n k) r.turns t a
        (both_true _ _ (eq-eqb t.division d own)
        (both_true _ _ (eq-eqb t.incident n for_it) (both_true _ _ kind on))))

    pub served_by : (n : ℕ) (t : Turn) (k : Kind) → t.kind ≡ k → is_unserved d n r ≡ true → Among t r.turns
        → t.division ≡ d → t.incident ≡ n → counts t ≡ true → ⊥
    served_by n t Ambulance is none a own for_it on =
        served_none n Ambulance t (left_true (served d n Ambulance r == 0) _ none) a own for_it on
        (ap (λ k. same_kind k Ambulance) is)
    served_by n t Car is none a own for_it on =
        served_none n Car t
        (left_true (served d n Car r == 0) _ (right_true (served d n Ambulance r == 0) _ none)) a own for_it on
        (ap (λ k. same_kind k Car) is)
    served_by n t Support is none a own for_it on =
        served_none n Support t
        (right_true (served d n Car r == 0) _ (right_true (served d n Ambulance r == 0) _ none)) a own for_it on
        (ap (λ k. same_kind k Support) is)

    from_unserved : (e : QueueEntry) → Among e (filter_map (unserved d m r) r.incidents) → Named e
    from_unserved e a =
        let is = made_of (unserved d m r) r.incidents e a in
        let i = is.0 in
        let c = cond_is _ _ e is.2 in
        let own = left_true (i.division == d) _ c.0 in
        let rest = right_true (i.division == d) _ c.0 in
        let more = right_true (is_active i.state) _ rest in (
          Unserved i.number,
          ap tag (sym (some_is _ e c.1)),
          record {
            incident = i;
            found = incident_at i is.1 own;
            active = left_true (is_active i.state) _ rest;
            late = right_true (is_unserved d i.number r) _ more;
            nobody = λ t b. served_by i.number t t.kind refl (left_true (is_unserved d i.number r) _ more) b;
          },
        )

    pub vehicle_here : (v : Vehicle) → Among v r.vehicles → vehicle_in v.callsign r ≡ Some v
    vehicle_here v a = row_among callsign_cmp vehicle_key callsigns_total r.vehicles v w.order.vehicles a

    unfoldable pub on_way : (v : Vehicle) (t : Turn) → Among v r.vehicles
        → v.holder == d && is_mobilised v.status ≡ true → open_turn d v.callsign r ≡ Some t
        → IsOnWay d r t.incident v.callsign
    on_way v t a b e =
        let is = open_there d v.callsign r w.order t e in
        record {
          vehicle = v;
          found = vehicle_here v a;
          holder = eqb-true v.holder d (left_true (v.holder == d) _ b);
          mobilised = right_true (v.holder == d) _ b;
          turn = t;
          turn_found = is.0;
          unended = is.1;
          own = open_own r w d v.callsign t e;
          for_it = refl;
        }

    unacknowledged_of : (v : Vehicle) (e : QueueEntry) → Among v r.vehicles
        → v.holder == d && is_mobilised v.status ≡ true → (o : Option Turn)
        → open_turn d v.callsign r ≡ o → unacknowledged_turn m v o ≡ Some e → Named e
    unfolding on_way
    unacknowledged_of v e a b None f g = cc
    unacknowledged_of v e a b (Some t) f g =
        let c = cond_is _ _ e g in (
          Unacknowledged t.incident v.callsign,
          ap tag (sym (some_is _ e c.1)),
          record {
            way = on_way v t a b f;
            unseen = none_of t.acknowledged (left_true (is_none t.acknowledged) _ c.0);
            late = right_true (is_none t.acknowledged) _ c.0;
          },
        )

    from_unacknowledged : (e : QueueEntry) → Among e (filter_map (unacknowledged d m r) r.vehicles) → Named e
    from_unacknowledged e a =
        let is = made_of (unacknowledged d m r) r.vehicles e a in
        let c = cond_is _ _ e is.2 in
        unacknowledged_of is.0 e is.1 c.0 (open_turn d is.0.callsign r) refl c.1

    late_of : (v : Vehicle) (t : Turn) (e : QueueEntry) → Among v r.vehicles
        → v.holder == d && is_mobilised v.status ≡ true → open_turn d v.callsign r ≡ Some t
        → (i : Option Incident) → incident_of d t.incident r ≡ i → late_incident m v i ≡ Some e
        → Named e
    unfolding incident_of
    late_of v t e a b f None g h = cc
    late_of v t e a b f (Some i) g h =
        let c = cond_is _ _ e h in
        let is = incident_there d r w t.incident i g in (
          LateForScene t.incident v.callsign,
          ap tag (sym (some_is _ e c.1)) ∙ ap (λ (n : ℕ). (rank.LateForScene, n, Some v.callsign)) (sym is.2),
          record { way = on_way v t a b f; incident = i; found = g; late = c.0 },
        )

    late_turn_of : (v : Vehicle) (e : QueueEntry) → Among v r.vehicles
        → v.holder == d && is_mobilised v.status ≡ true → (o : Option Turn)
        → open_turn d v.callsign r ≡ o → late_turn d m r v o ≡ Some e → Named e
    late_turn_of v e a b None f g = cc
    late_turn_of v e a b (Some t) f g = late_of v t e a b f (incident_of d t.incident r) refl g

    from_late : (e : QueueEntry) → Among e (filter_map (late_for_scene d m r) r.vehicles) → Named e
    from_late e a =
        let is = made_of (late_for_scene d m r) r.vehicles e a in
        let c = cond_is _ _ e is.2 in
        late_turn_of is.0 e is.1 c.0 (open_turn d is.0.callsign r) refl c.1

    from_report : (e : QueueEntry) → Among e (filter_map (exception d) r.reports) → Named e
    from_report e a =
        let is = made_of (exception d) r.reports e a in
        let x = is.0 in
        let c = cond_is _ _ e is.2 in (
          OutOfTurn x.number x.callsign,
          ap tag (sym (some_is _ e c.1)),
          record {
            report = x;
            found = row_among numbered_cmp report_key numbered_total r.reports x w.order.reports is.1;
            own = eqb-true x.division d (left_true (x.division == d) _ c.0);
            unended = right_true (x.division == d) _ c.0;
          },
        )

    from_overdue : (e : QueueEntry) → Among e (filter_map (overdue d m) r.loans) → Named e
    from_overdue e a =
        let is = made_of (overdue d m) r.loans e a in
        let l = is.0 in
        let c = cond_is _ _ e is.2 in (
          Overdue (cond (l.lender == d) l.borrower l.lender) l.callsign,
          ap tag (sym (some_is _ e c.1)),
          record {
            loan = l;
            found = row_among callsign_cmp loan_key callsigns_total r.loans l w.order.loans is.1;
            party = left_true (owns_loan d l) _ c.0;
            other = refl;
            late = right_true (owns_loan d l) _ c.0;
          },
        )

    not_true : (b : Bool) → not b ≡ true → b ≡ false
    not_true true h = cc
    not_true false h = refl

    from_shift : (e : QueueEntry) → Among e (filter_map (shift_over d m) r.vehicles) → Named e
    from_shift e a =
        let is = made_of (shift_over d m) r.vehicles e a in
        let v = is.0 in
        let c = cond_is _ _ e is.2 in
        let rest = right_true (v.holder == d) _ c.0 in (
          ShiftOver v.callsign,
          ap tag (sym (some_is _ e c.1)),
          record {
            vehicle = v;
            found = vehicle_here v is.1;
            holder = eqb-true v.holder d (left_true (v.holder == d) _ c.0);
            on = not_true _ (left_true (not (is_off v.status)) _ rest);
            late = right_true (not (is_off v.status)) _ rest;
          },
        )

    from_uncovered : (e : QueueEntry) → Among e (filter_map (uncovered d m r) r.points) → Named e
    from_uncovered e a =
        let is = made_of (uncovered d m r) r.points e a in
        let p = is.0 in
        let c = cond_is _ _ e is.2 in (
          Uncovered p.number,
          ap tag (sym (some_is _ e c.1)),
          record {
            point = p;
            found =
                subst (λ (h : ℕ). row_at pair_cmp point_key r.points (h, p.number) ≡ Some p)
                (eqb-true p.division d (left_true (p.division == d) _ c.0))
                (row_among pair_cmp point_key pairs_total r.points p w.order.points is.1);
            short = right_true (p.division == d) _ c.0;
          },
        )

    from_unanswered : (e : QueueEntry) → Among e (filter_map (unanswered d m) r.offers) → Named e
    from_unanswered e a =
        let is = made_of (unanswered d m) r.offers e a in
        let o = is.0 in
        let c = cond_is _ _ e is.2 in (
          Unanswered (cond (o.lender == d) o.borrower o.lender) o.callsign,
          ap tag (sym (some_is _ e c.1)),
          record {
            offer = o;
            found = row_among callsign_cmp offer_key callsigns_total r.offers o w.order.offers is.1;
            party = left_true (owns_offer d o) _ c.0;
            other = refl;
            late = right_true (owns_offer d o) _ c.0;
          },
        )

    -- each entry is of something that the rows have
    pub named_entry : (e : QueueEntry) → Among e (entries d m r) → Named e
    unfolding entries
    named_entry e a = elim (among_join (filter_map (unserved d m r) r.incidents) _ e a) [
      | inl b ↦ from_unserved e b
      | inr a ↦ elim (among_join (filter_map (unacknowledged d m r) r.vehicles) _ e a) [
        | inl b ↦ from_unacknowledged e b
        | inr a ↦ elim (among_join (filter_map (late_for_scene d m r) r.vehicles) _ e a) [
          | inl b ↦ from_late e b
          | inr a ↦ elim (among_join (filter_map (exception d) r.reports) _ e a) [
            | inl b ↦ from_report e b
            | inr a ↦ elim (among_join (filter_map (overdue d m) r.loans) _ e a) [
              | inl b ↦ from_overdue e b
              | inr a ↦ elim (among_join (filter_map (shift_over d m) r.vehicles) _ e a) [
                | inl b ↦ from_shift e b
                | inr a ↦ elim (among_join (filter_map (uncovered d m r) r.points) _ e a) [
                  | inl b ↦ from_uncovered e b
                  | inr b ↦ from_unanswered e b
                ]
              ]
            ]
          ]
        ]
      ]
    ]

    -- ---- the other way: what the rows have, the queue has
    incident_key_of : (n : ℕ) (i : Incident) → incident_in d n r ≡ Some i
        → (i.division ≡ d) × (i.number ≡ n)
    incident_key_of n i e =
        let k = row_key pair_cmp incident_key pairs_total exact_pair r.incidents (d, n) i e in
        (sym (ap (λ (p : ℕ × ℕ). p.0) k), sym (ap (λ (p : ℕ × ℕ). p.1) k))

    served_zero : (n : ℕ) (k : Kind) → ((t : Turn) → Among t r.turns → t.division ≡ d
        → t.incident ≡ n → counts t ≡ true → ⊥) → served d n k r == 0 ≡ true
    unfolding served
    served_zero n k nobody =
        ap (λ (ts : List Turn). length ts == 0) (none_pass (serves n k) r.turns (λ t a pass.
        let rest = right_true (t.division == d) _ pass in
        let more = right_true (t.incident == n) _ rest in
        nobody t a (eqb-true t.division d (left_true (t.division == d) _ pass))
        (eqb-true t.incident n (left_true (t.incident == n) _ rest)) (right_true (same_kind t.kind k) _ more)))

    due_unserved : (n : ℕ) → HasUnserved n → Shows (Unserved n) (entries d m r)
    unfolding entries
    due_unserved n h =
        let i = h.incident in
        let key = incident_key_of n i h.found in
        let e : QueueEntry = record { rank = rank.Unserved; since = i.opened; number = i.number; callsign = None } in
        let alone : is_unserved d i.number r ≡ true = subst (λ (n : ℕ). is_unserved d n r ≡ true) (sym key.1)
        (both_true _ _ (served_zero n Ambulance h.nobody)
        (both_true _ _ (served_zero n Car h.nobody) (served_zero n Support h.nobody))) in
        record {
          entry = e;
          there =
              among_left (filter_map (unserved d m r) r.incidents) _ e
              (makes (unserved d m r) r.incidents i e
              (row_there pair_cmp incident_key r.incidents (d, n) i h.found)
              (cond_on _ (Some e) (both_true _ _ (eq-eqb i.division d key.0)
              (both_true _ _ h.active (both_true _ _ alone h.late)))));
          named = ap (λ (n : ℕ). (rank.Unserved, n, None)) key.1;
        }

    open_same : (n : ℕ) (c : Callsign) (h : IsOnWay d r n c) → open_turn d c r ≡ Some h.turn
    open_same n c h =
        (elim (open_turn d c r) as (λ (o : Option Turn). open_turn d c r ≡ o → o ≡ Some h.turn) [
          | None ↦ λ e. absurd (open_is d c r w.order None e h.turn.order h.turn h.turn_found h.unended h.own)
          | Some u ↦ λ e.
              let is = open_there d c r w.order u e in
              let key : c
              ≡ h.turn.callsign =
              ap (λ (k : Callsign × ℕ). k.0)
              (row_key numbered_cmp turn_key numbered_total exact_numbered r.turns (c, h.turn.order) h.turn
              h.turn_found) in
              ap Some (one_open_turn r w u h.turn (row_there numbered_cmp turn_key r.turns (c, u.order) u is.0)
              (row_there numbered_cmp turn_key r.turns (c, h.turn.order) h.turn h.turn_found) is.1 h.unended
              (is.2 ∙ key))
        ]) refl

    -- the vehicle's own callsign is the one that it was found by
    named_so : (c : Callsign) (v : Vehicle) → vehicle_in c r ≡ Some v → v.callsign ≡ c
    named_so c v e = sym (row_key callsign_cmp vehicle_key callsigns_total exact_callsigns r.vehicles c v e)

    due_unacknowledged : (n : ℕ) (c : Callsign) → HasUnacknowledged n c → Shows (Unacknowledged n c) (entries d m r)
    unfolding entries
    due_unacknowledged n c h =
        let v = h.way.vehicle in
        let t = h.way.turn in
        let key = named_so c v h.way.found in
        let e : QueueEntry = record {
          rank = rank.Unacknowledged;
          since = t.ordered;
          number = t.incident;
          callsign = Some v.callsign;
        } in
        let found : open_turn d v.callsign r ≡ Some t = ap (λ (k : Callsign). open_turn d k r) key
        ∙ open_same n c h.way in
        let makes_it : unacknowledged d m r v ≡ Some e =
        cond_on _ _ (both_true _ _ (eq-eqb v.holder d h.way.holder) h.way.mobilised)
        ∙ (ap (unacknowledged_turn m v) found
        ∙ cond_on _ (Some e) (both_true _ _ (ap is_none h.unseen) h.late)) in
        record {
          entry = e;
          there =
              among_right (filter_map (unserved d m r) r.incidents) _ e
              (among_left (filter_map (unacknowledged d m r) r.vehicles) _ e
              (makes (unacknowledged d m r) r.vehicles v e
              (row_there callsign_cmp vehicle_key r.vehicles c v h.way.found) makes_it));
          named = λ i. (rank.Unacknowledged, h.way.for_it i, Some (key i));
        }

    due_late : (n : ℕ) (c : Callsign) → HasLate n c → Shows (LateForScene n c) (entries d m r)
    unfolding entries incident_of
    due_late n c h =
        let v = h.way.vehicle in
        let t = h.way.turn in
        let i = h.incident in
        let key = named_so c v h.way.found in
        let number = incident_key_of n i h.found in
        let e : QueueEntry = record {
          rank = rank.LateForScene;
          since = i.opened;
          number = i.number;
          callsign = Some v.callsign;
        } in
        let found : open_turn d v.callsign r ≡ Some t = ap (λ (k : Callsign). open_turn d k r) key
        ∙ open_same n c h.way in
        let its : incident_of d t.incident r ≡ Some i = ap (λ (n : ℕ). incident_of d n r) h.way.for_it ∙ h.found in
        let makes_it : late_for_scene d m r v ≡ Some e =
        cond_on _ _ (both_true _ _ (eq-eqb v.holder d h.way.holder) h.way.mobilised) ∙ (ap (late_turn d m r v) found
        ∙ (ap (late_incident m v) its ∙ cond_on _ (Some e) h.late)) in
        record {
          entry = e;
          there =
              among_right (filter_map (unserved d m r) r.incidents) _ e
              (among_right (filter_map (unacknowledged d m r) r.vehicles) _ e
              (among_left (filter_map (late_for_scene d m r) r.vehicles) _ e
              (makes (late_for_scene d m r) r.vehicles v e
              (row_there callsign_cmp vehicle_key r.vehicles c v h.way.found) makes_it)));
          named = λ i. (rank.LateForScene, number.1 i, Some (key i));
        }

    due_report : (n : ℕ) (c : Callsign) → HasReport n c → Shows (OutOfTurn n c) (entries d m r)
    unfolding entries
    due_report n c h =
        let x = h.report in
        let key = row_key numbered_cmp report_key numbered_total exact_numbered r.reports (c, n) x h.found in
        let e :
        QueueEntry = record { rank = rank.OutOfTurn; since = x.at; number = x.number; callsign = Some x.callsign } in
        record {
          entry = e;
          there =
              among_right (filter_map (unserved d m r) r.incidents) _ e
              (among_right (filter_map (unacknowledged d m r) r.vehicles) _ e
              (among_right (filter_map (late_for_scene d m r) r.vehicles) _ e
              (among_left (filter_map (exception d) r.reports) _ e
              (makes (exception d) r.reports x e (row_there numbered_cmp report_key r.reports (c, n) x h.found)
              (cond_on _ (Some e) (both_true _ _ (eq-eqb x.division d h.own) h.unended))))));
          named = ap (λ (k : Callsign × ℕ). (rank.OutOfTurn, k.1, Some k.0)) (sym key);
        }

    due_overdue : (n : ℕ) (c : Callsign) → HasOverdue n c → Shows (Overdue n c) (entries d m r)
    unfolding entries
    due_overdue n c h =
        let l = h.loan in
        let key = row_key callsign_cmp loan_key callsigns_total exact_callsigns r.loans c l h.found in
        let e : QueueEntry = record {
          rank = rank.Overdue;
          since = l.until;
          number = cond (l.lender == d) l.borrower l.lender;
          callsign = Some l.callsign;
        } in
        record {
          entry = e;
          there =
              among_right (filter_map (unserved d m r) r.incidents) _ e
              (among_right (filter_map (unacknowledged d m r) r.vehicles) _ e
              (among_right (filter_map (late_for_scene d m r) r.vehicles) _ e
              (among_right (filter_map (exception d) r.reports) _ e
              (among_left (filter_map (overdue d m) r.loans) _ e
              (makes (overdue d m) r.loans l e (row_there callsign_cmp loan_key r.loans c l h.found)
              (cond_on _ (Some e) (both_true _ _ h.party h.late)))))));
          named = λ i. (rank.Overdue, h.other i, Some (sym key i));
        }

    due_shift : (c : Callsign) → HasShiftOver c → Shows (ShiftOver c) (entries d m r)
    unfolding entries
    due_shift c h =
        let v = h.vehicle in
        let key = named_so c v h.found in
        let e :
        QueueEntry = record { rank = rank.ShiftOver; since = v.shift_end; number = 0; callsign = Some v.callsign } in
        record {
          entry = e;
          there =
              among_right (filter_map (unserved d m r) r.incidents) _ e
              (among_right (filter_map (unacknowledged d m r) r.vehicles) _ e
              (among_right (filter_map (late_for_scene d m r) r.vehicles) _ e
              (among_right (filter_map (exception d) r.reports) _ e
              (among_right (filter_map (overdue d m) r.loans) _ e
              (among_left (filter_map (shift_over d m) r.vehicles) _ e
              (makes (shift_over d m) r.vehicles v e (row_there callsign_cmp vehicle_key r.vehicles c v h.found)
              (cond_on _ (Some e) (both_true _ _ (eq-eqb v.holder d h.holder)
              (both_true _ _ (ap not h.on) h.late)))))))));
          named = λ i. (rank.ShiftOver, 0, Some (key i));
        }

    due_uncovered : (n : ℕ) → HasUncovered n → Shows (Uncovered n) (entries d m r)
    unfolding entries
    due_uncovered n h =
        let p = h.point in
        let key = row_key pair_cmp point_key pairs_total exact_pair r.points (d, n) p h.found in
        let number : p.number ≡ n = sym (ap (λ (k : ℕ × ℕ). k.1) key) in
        let e : QueueEntry = record { rank = rank.Uncovered; since = 0; number = p.number; callsign = None } in
        record {
          entry = e;
          there =
              among_right (filter_map (unserved d m r) r.incidents) _ e
              (among_right (filter_map (unacknowledged d m r) r.vehicles) _ e
              (among_right (filter_map (late_for_scene d m r) r.vehicles) _ e
              (among_right (filter_map (exception d) r.reports) _ e
              (among_right (filter_map (overdue d m) r.loans) _ e
              (among_right (filter_map (shift_over d m) r.vehicles) _ e
              (among_left (filter_map (uncovered d m r) r.points) _ e
              (makes (uncovered d m r) r.points p e (row_there pair_cmp point_key r.points (d, n) p h.found)
              (cond_on _ (Some e) (both_true _ _
              (eq-eqb p.division d (sym (ap (λ (k : ℕ × ℕ). k.0) key)))
              (subst (λ (k : ℕ). nat_lt (length (holders d k m r)) p.cover ≡ true) (sym number) h.short))))))))));
          named = ap (λ (n : ℕ). (rank.Uncovered, n, None)) number;
        }

    due_unanswered : (n : ℕ) (c : Callsign) → HasUnanswered n c → Shows (Unanswered n c) (entries d m r)
    unfolding entries
    due_unanswered n c h =
        let o = h.offer in
        let key = row_key callsign_cmp offer_key callsigns_total exact_callsigns r.offers c o h.found in
        let e : QueueEntry = record {
          rank = rank.Unanswered;
          since = o.since;
          number = cond (o.lender == d) o.borrower o.lender;
          callsign = Some o.callsign;
        } in
        record {
          entry = e;
          there =
              among_right (filter_map (unserved d m r) r.incidents) _ e
              (among_right (filter_map (unacknowledged d m r) r.vehicles) _ e
              (among_right (filter_map (late_for_scene d m r) r.vehicles) _ e
              (among_right (filter_map (exception d) r.reports) _ e
              (among_right (filter_map (overdue d m) r.loans) _ e
              (among_right (filter_map (shift_over d m) r.vehicles) _ e
              (among_right (filter_map (uncovered d m r) r.points) _ e
              (makes (unanswered d m) r.offers o e (row_there callsign_cmp offer_key r.offers c o h.found)
              (cond_on _ (Some e) (both_true _ _ h.party h.late)))))))));
          named = λ i. (rank.Unanswered, h.other i, Some (sym key i));
        }

    pub due : (k : Concern) → Has k → Shows k (entries d m r)
    due (Unserved n) h = due_unserved n h
    due (Unacknowledged n c) h = due_unacknowledged n c h
    due (LateForScene n c) h = due_late n c h
    due (OutOfTurn n c) h = due_report n c h
    due (Overdue n c) h = due_overdue n c h
    due (ShiftOver c) h = due_shift c h
    due (Uncovered n) h = due_uncovered n h
    due (Unanswered n c) h = due_unanswered n c h

    pub has_due : (k : Concern) → Shows k (entries d m r) → Has k
    has_due k h =
        let is = named_entry h.entry h.there in
        subst Has (same_label is.0 k (sym is.1 ∙ h.named)) is.2
