-- What one division's rows are to another's share.
use Rattle.std.proofs.Common.{ap, arith, eqb-true, subst, sym, ◌∙◌}
use Rattle.std.specs.Cmp.{IsTotalOrder}
use Rattle.std.specs.Ordering.{is_eq}
use Rattle.std.specs.Prelude.{Bool, List, None, Option, Some, [], cond, false, filter, refl, true}
use Rattle.std.specs.Prelude.{ℕ, ◌+◌, ◌==◌, ◌∷◌, ◌≡◌}
use Rattle.std.specs.declared.cmp.Ordering.{Ordering}
use Rattle.std.specs.declared.cmp.Ordering.TheVariants.{Equal, Greater, Less}
use Rattle.room_place.specs.Choice.{Among}
use Rattle.room_types.proofs.KeyedLaws.{below_from_less, row_below, row_filter}
use Rattle.room_types.specs.KeyedRows.{IsKeyed, keep, put_row, row_at}
use Rattle.room_types.specs.Keys.{assignment_key, call_key, callsign_cmp, incident_key}
use Rattle.room_types.specs.Keys.{numbered_cmp, owns_assignment, owns_call, owns_incident}
use Rattle.room_types.specs.Keys.{owns_point, owns_report, owns_turn, owns_vehicle, pair_cmp}
use Rattle.room_types.specs.Keys.{point_key, report_key, turn_key, vehicle_key}
use Rattle.room_types.specs.KeyLemmas.{callsigns_total, exact_callsigns, exact_numbered, exact_pair}
use Rattle.room_types.specs.KeyLemmas.{numbered_total, pairs_total}
use Rattle.room_types.specs.declared.changes.Change.TheVariants.{PutCall, PutIncident, PutPoint}
use Rattle.room_types.specs.declared.changes.Change.TheVariants.{PutReport, PutTurn, PutVehicle}
use Rattle.room_types.specs.declared.tables.Assignment.{Assignment}
use Rattle.room_types.specs.declared.tables.Call.{Call}
use Rattle.room_types.specs.declared.tables.Incident.{Incident}
use Rattle.room_types.specs.declared.tables.Point.{Point}
use Rattle.room_types.specs.declared.tables.Report.{Report}
use Rattle.room_types.specs.declared.tables.Turn.{Turn}
use Rattle.room_types.specs.declared.tables.Vehicle.{Vehicle}
use Rattle.room_types.specs.Texts.{Callsign}
use Rattle.room_model.proofs.Foreign.{IsForeign}
use Rattle.room_model.proofs.Tests.{row_among, row_key}
use Rattle.room_model.specs.Queries.{held, report_of}
use Rattle.room_model.specs.Room.{Room}
use Rattle.room_model.specs.Shares.{own}
use Rattle.room_model.specs.RoomAgreements.{AssignmentAgrees, IsWellFormed, TurnAgrees}

-- one number is not another
pub apart_from : (a b d : ℕ) → a ≡ b → b == d ≡ false → a == d ≡ false
apart_from a b d e f = ap (λ x. x == d) e ∙ f

keep_none : {X : Type 0} (p : X → Bool) (o : Option X) → ((x : X) → o ≡ Some x → p x ≡ false)
    → keep p o ≡ None
keep_none p None f = refl
keep_none p (Some x) f = rw (f x refl)

pub keep_some : {X : Type 0} (p : X → Bool) (o : Option X) (x : X) → keep p o ≡ Some x
    → (o ≡ Some x) × (p x ≡ true)
keep_some p None x g = cc
keep_some {X} p (Some y) x g =
    (elim (p y) as (λ (b : Bool). p y ≡ b → cond b (Some y) None ≡ Some x → (Some y ≡ Some x) × (p x ≡ true)) [
      | true ↦ λ e f. let same : y ≡ x = cc in (f, subst (λ z. p z ≡ true) same e)
      | false ↦ λ e f. cc
    ]) refl g

-- none in a share, where what is found in the room is another's
pub none_own : {X K : Type 0} (cmp : K → K → Ordering) (key : X → K) (total : IsTotalOrder cmp)
    (p : X → Bool) (xs : List X) (k : K) → IsKeyed cmp key xs
    → ((x : X) → row_at cmp key xs k ≡ Some x → p x ≡ false) → row_at cmp key (filter p xs) k ≡ None
none_own cmp key total p xs k g f = row_filter cmp key total p xs k g ∙ keep_none p _ f

module _ {X K : Type 0} (cmp : K → K → Ordering) (key : X → K) (total : IsTotalOrder cmp) where
  -- a row that is there is put at no cost
  pub put_same : (xs : List X) (x : X) → IsKeyed cmp key xs → row_at cmp key xs (key x) ≡ Some x
      → put_row cmp key xs x ≡ xs
  put_same [] x h e = cc
  put_same (y ∷ ys) x h e =
      (elim (cmp (key x) (key y)) as (λ (o : Ordering).
      cmp (key x) (key y) ≡ o → cond (is_eq o) (Some y) (row_at cmp key ys (key x)) ≡ Some x
      → put_row cmp key (y ∷ ys) x ≡ y ∷ ys) [
        | Less ↦
            λ f g.
            let none = row_below cmp key total (y ∷ ys) (key x) (below_from_less cmp key total (key x) y ys f h) in cc
        | Equal ↦ λ f g. let same : y ≡ x = cc in rw f (ap (λ z. z ∷ ys) (sym same))
        | Greater ↦ λ f g. rw f (ap (λ zs. y ∷ zs) (put_same ys x h.1 g))
      ]) refl e

-- the vehicle of a callsign, with its holder
pub record IsHeld (h : ℕ) (c : Callsign) (r : Room) (v : Vehicle) : Type 0 where
  pub there : row_at callsign_cmp vehicle_key r.vehicles v.callsign ≡ Some v
  pub holder : v.holder ≡ h
  pub key : c ≡ v.callsign

pub held_is : (h : ℕ) (c : Callsign) (r : Room) (v : Vehicle) → held h c r ≡ Some v → IsHeld h c r v
unfolding held
held_is h c r v g =
    let parts = keep_some (λ v. v.holder == h) (row_at callsign_cmp vehicle_key r.vehicles c) v g in
    let same : c
    ≡ v.callsign = row_key callsign_cmp vehicle_key callsigns_total exact_callsigns r.vehicles c v parts.0 in
    record {
      there = subst (λ (k : Callsign). row_at callsign_cmp vehicle_key r.vehicles k ≡ Some v) same
          parts.0;
      holder = eqb-true v.holder h parts.1;
      key = same;
    }

module _ (d h : ℕ) (r : Room) (w : IsWellFormed r) (apart : h == d ≡ false) where
  not_own : (n : ℕ) → n ≡ h → n == d ≡ false
  not_own n e = apart_from n h d e apart

  -- what is found where v is found is v
  pub found_same : {X : Type 0} (o : Option X) (x y : X) → o ≡ Some x → o ≡ Some y → x ≡ y
  found_same o x y e f = let both : Some x ≡ Some y = sym e ∙ f in cc

  pub vehicle_foreign : (c : Callsign) (v : Vehicle) → IsHeld h c r v → (x : Vehicle)
      → x.callsign ≡ v.callsign → x.holder ≡ h → IsForeign d (own d r) (PutVehicle x)
  vehicle_foreign c v g x same holder = (
    not_own x.holder holder,
    ap (λ (k : Callsign). row_at callsign_cmp vehicle_key (own d r).vehicles k) same
        ∙ none_own callsign_cmp vehicle_key callsigns_total (owns_vehicle d) r.vehicles v.callsign w.order.vehicles
        (λ y e. not_own y.holder (ap (λ (z : Vehicle). z.holder) (sym (found_same _ v y g.there e)) ∙ g.holder)),
  )

  pub incident_foreign : (i : Incident) → i.division ≡ h → IsForeign d (own d r) (PutIncident i)
  incident_foreign i e = (
    not_own i.division e,
    none_own pair_cmp incident_key pairs_total (owns_incident d) r.incidents (incident_key i) w.order.incidents
        (λ y f.
        not_own y.division (sym
        (ap (λ (p : ℕ × ℕ). p.0)
        (row_key pair_cmp incident_key pairs_total exact_pair r.incidents (incident_key i) y f))
        ∙ e)),
  )

  pub point_foreign : (p : Point) → p.division ≡ h → IsForeign d (own d r) (PutPoint p)
  point_foreign p e = (
    not_own p.division e,
    none_own pair_cmp point_key pairs_total (owns_point d) r.points (point_key p) w.order.points
        (λ y f.
        not_own y.division
        (sym (ap (λ (p : ℕ × ℕ). p.0) (row_key pair_cmp point_key pairs_total exact_pair r.points (point_key p) y f))
        ∙ e)),
  )

  pub call_foreign : (c : Call) → Among c r.calls → c.division ≡ h → (m : ℕ)
      → IsForeign d (own d r) (PutCall (record c { incident = m }))
  call_foreign c g e m = (
    not_own c.division e,
    none_own pair_cmp call_key pairs_total (owns_call d) r.calls (call_key c) w.order.calls
        (λ y f.
        not_own y.division (ap (λ (z : Call). z.division)
        (sym (found_same _ c y (row_among pair_cmp call_key pairs_total r.calls c w.order.calls g) f)) ∙ e)),
  )

  pub turn_foreign : (t : Turn) → Among t r.turns → t.division ≡ h → (x : Turn)
      → x.callsign ≡ t.callsign → x.order ≡ t.order → x.division ≡ h
      → IsForeign d (own d r) (PutTurn x)
  turn_foreign t g e x same order division = (
    not_own x.division division,
    ap (λ (k : Callsign). row_at numbered_cmp turn_key (own d r).turns (k, x.order)) same
        ∙ ap (λ (n : ℕ). row_at numbered_cmp turn_key (own d r).turns (t.callsign, n)) order
        ∙ none_own numbered_cmp turn_key numbered_total (owns_turn d) r.turns (turn_key t) w.order.turns
        (λ y f.
        not_own y.division (ap (λ (z : Turn). z.division)
        (sym (found_same _ t y (row_among numbered_cmp turn_key numbered_total r.turns t w.order.turns g) f)) ∙ e)),
  )

  pub report_foreign : (c : Callsign) (n : ℕ) (x : Report) → report_of h c n r ≡ Some x
      → (y : Report) → y.callsign ≡ x.callsign → y.number ≡ x.number → y.division ≡ x.division
      → IsForeign d (own d r) (PutReport y)
  unfolding report_of
  report_foreign c n x g y callsign number division =
      let parts = keep_some (λ x. x.division == h) (row_at numbered_cmp report_key r.reports (c, n)) x g in
      let same : (c, n)
      ≡ report_key x = row_key numbered_cmp report_key numbered_total exact_numbered r.reports (c, n) x parts.0 in
      let owner : x.division ≡ h = eqb-true x.division h parts.1 in
      let there : row_at numbered_cmp report_key r.reports (report_key x)
      ≡ Some x = subst (λ (k : Callsign × ℕ). row_at numbered_cmp report_key r.reports k ≡ Some x) same parts.0 in (
        not_own y.division (division ∙ owner),
        ap (λ (k : Callsign). row_at numbered_cmp report_key (own d r).reports (k, y.number)) callsign
            ∙ ap (λ (m : ℕ). row_at numbered_cmp report_key (own d r).reports (x.callsign, m)) number
            ∙ none_own numbered_cmp report_key numbered_total (owns_report d) r.reports (report_key x) w.order.reports
            (λ z f. not_own z.division (ap (λ (u : Report). u.division) (sym (found_same _ x z there f)) ∙ owner)),
      )

  -- the assignment of a vehicle that h holds
  pub other_assignment : (c : Callsign) (v : Vehicle) → IsHeld h c r v
      → row_at callsign_cmp assignment_key (own d r).assignments v.callsign ≡ None
  other_assignment c v g =
      none_own callsign_cmp assignment_key callsigns_total (owns_assignment d) r.assignments v.callsign
      w.order.assignments (λ a e.
      not_own a.division (agreed a (subst (λ o. AssignmentAgrees o (Some a)) g.there
      (subst (λ o. AssignmentAgrees (row_at callsign_cmp vehicle_key r.vehicles v.callsign) o) e
      (w.assignments v.callsign)))))
    where
      agreed : (a : Assignment) → AssignmentAgrees (Some v) (Some a) → a.division ≡ h
      agreed a f = f.1 ∙ g.holder

  -- the next order is not given yet
  pub no_turn : (c : Callsign) (v : Vehicle) → IsHeld h c r v
      → row_at numbered_cmp turn_key (own d r).turns (v.callsign, v.last_order + 1) ≡ None
  no_turn c v g =
      none_own numbered_cmp turn_key numbered_total (owns_turn d) r.turns (v.callsign, v.last_order + 1) w.order.turns
      (λ t e.
      absurd (too_late t (subst (λ o. TurnAgrees o (v.last_order + 1) (Some t)) g.there
      (subst (λ o. TurnAgrees (row_at callsign_cmp vehicle_key r.vehicles v.callsign) (v.last_order + 1) o) e
      (w.turns v.callsign (v.last_order + 1))))))
    where
      too_late : (t : Turn) → TurnAgrees (Some v) (v.last_order + 1) (Some t) → ⊥
      too_late t f = let late = f.1 in omega (arith, late)
