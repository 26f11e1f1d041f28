-- What incidents, calls and divisions agree on after changes of them.
use Rattle.std.proofs.Common.{ap, arith, subst, sym, ◌∙◌}
use Rattle.std.proofs.lemmas.Cmp.{nat_cmp_total}
use Rattle.std.proofs.lemmas.Map.Lookups.{CmpEqualImpliesEq}
use Rattle.std.specs.Cmp.{IsTotalOrder}
use Rattle.std.specs.Ordering.{is_eq, nat_cmp}
use Rattle.std.specs.Prelude.{Bool, List, None, Option, Some, cond, false, is_some, refl, true, ℕ}
use Rattle.std.specs.Prelude.{◌≡◌, ◌≤◌}
use Rattle.std.specs.declared.cmp.Ordering.{Ordering}
use Rattle.room_types.proofs.KeyedLaws.{row_put}
use Rattle.room_types.specs.KeyedRows.{put_row, row_at}
use Rattle.room_types.specs.Keys.{call_key, callsign_cmp, division_key, incident_key, numbered_cmp}
use Rattle.room_types.specs.Keys.{pair_cmp, point_key, turn_key, vehicle_key}
use Rattle.room_types.specs.KeyLemmas.{callsigns_total, exact_callsigns, exact_number, exact_pair}
use Rattle.room_types.specs.KeyLemmas.{pairs_total}
use Rattle.room_types.specs.Texts.{Callsign}
use Rattle.room_types.specs.declared.changes.Change.TheVariants.{PutIncident}
use Rattle.room_types.specs.declared.tables.Call.{Call}
use Rattle.room_types.specs.declared.tables.Division.{Division}
use Rattle.room_types.specs.declared.tables.Incident.{Incident}
use Rattle.room_types.specs.declared.tables.Point.{Point}
use Rattle.room_types.specs.declared.tables.Turn.{Turn}
use Rattle.room_types.specs.declared.tables.Vehicle.{Vehicle}
use Rattle.room_model.proofs.OwnChanges.{in_order_one}
use Rattle.room_model.proofs.Tests.{is_equal, row_key}
use Rattle.room_model.proofs.VehicleAgreements.{AreRecorded, agreed, opened_alike, well_formed}
use Rattle.room_model.proofs.VehicleRows.{bare}
use Rattle.room_types.specs.Codes.{is_active, is_merged}
use Rattle.room_model.specs.Room.{IsInOrder, Room}
use Rattle.room_types.specs.Slices.{IsActive}
use Rattle.room_model.specs.RoomAgreements.{CallAgrees, IsOfIncident, IsPost, IsWellFormed}
use Rattle.room_model.specs.RoomAgreements.{NumberAgrees, OpenedAgrees, PostAgrees, TurnIsActive}

-- what is found at each key, after a row was put
pub put_rows : {R K : Type 0} (cmp : K → K → Ordering) (key : R → K) (total : IsTotalOrder cmp)
    (exact : CmpEqualImpliesEq cmp) (P : K → Option R → Type 0) (xs : List R) (x : R)
    → P (key x) (Some x) → ((k : K) → is_eq (cmp k (key x)) ≡ false → P k (row_at cmp key xs k))
    → (k : K) → P k (row_at cmp key (put_row cmp key xs x) k)
put_rows {R} {K} cmp key total exact P xs x here there k =
    subst (P k) (sym (row_put cmp key total xs x k)) ((elim (is_eq
    (cmp k (key x))) as (λ (b : Bool). is_eq (cmp k (key x)) ≡ b → P k (cond b (Some x) (row_at cmp key xs k))) [
      | true ↦ λ e. subst (λ j. P j (Some x)) (sym (exact k (key x) (is_equal _ e))) here
      | false ↦ λ e. there k e
    ]) refl)

-- likewise of incidents, calls, divisions, points and vehicles
pub incidents_put : (P : ℕ × ℕ → Option Incident → Type 0) (xs : List Incident) (x : Incident)
    → P (incident_key x) (Some x) → ((k : ℕ × ℕ) → is_eq (pair_cmp k (incident_key x)) ≡ false
    → P k (row_at pair_cmp incident_key xs k)) → (k : ℕ × ℕ)
    → P k (row_at pair_cmp incident_key (put_row pair_cmp incident_key xs x) k)
incidents_put = put_rows pair_cmp incident_key pairs_total exact_pair

pub calls_put : (P : ℕ × ℕ → Option Call → Type 0) (xs : List Call) (x : Call)
    → P (call_key x) (Some x) → ((k : ℕ × ℕ) → is_eq (pair_cmp k (call_key x)) ≡ false
    → P k (row_at pair_cmp call_key xs k)) → (k : ℕ × ℕ)
    → P k (row_at pair_cmp call_key (put_row pair_cmp call_key xs x) k)
calls_put = put_rows pair_cmp call_key pairs_total exact_pair

pub divisions_put : (P : ℕ → Option Division → Type 0) (xs : List Division) (x : Division)
    → P (division_key x) (Some x) → ((k : ℕ) → is_eq (nat_cmp k (division_key x)) ≡ false
    → P k (row_at nat_cmp division_key xs k)) → (k : ℕ)
    → P k (row_at nat_cmp division_key (put_row nat_cmp division_key xs x) k)
divisions_put = put_rows nat_cmp division_key nat_cmp_total exact_number

pub points_put : (P : ℕ × ℕ → Option Point → Type 0) (xs : List Point) (x : Point)
    → P (point_key x) (Some x) → ((k : ℕ × ℕ) → is_eq (pair_cmp k (point_key x)) ≡ false
    → P k (row_at pair_cmp point_key xs k)) → (k : ℕ × ℕ)
    → P k (row_at pair_cmp point_key (put_row pair_cmp point_key xs x) k)
points_put = put_rows pair_cmp point_key pairs_total exact_pair

pub vehicles_put : (P : Callsign → Option Vehicle → Type 0) (xs : List Vehicle) (x : Vehicle)
    → P (vehicle_key x) (Some x) → ((k : Callsign) → is_eq (callsign_cmp k (vehicle_key x)) ≡ false
    → P k (row_at callsign_cmp vehicle_key xs k)) → (k : Callsign)
    → P k (row_at callsign_cmp vehicle_key (put_row callsign_cmp vehicle_key xs x) k)
vehicles_put = put_rows callsign_cmp vehicle_key callsigns_total exact_callsigns

-- the room with other rows beside its vehicles'
abbrev pub amended : Room → List Division → List Incident → List Call → List Point → Room
amended r ds is cs ps = record r { divisions = ds; incidents = is; calls = cs; points = ps }

module _ (r : Room) (w : IsWellFormed r) (ds : List Division) (is : List Incident) (cs : List Call)
    (ps : List Point) where
  post_beside : (v : Vehicle) (o : Option ℕ)
      → ((d n : ℕ) → is_some (row_at pair_cmp point_key r.points (d, n)) ≡ true
      → is_some (row_at pair_cmp point_key ps (d, n)) ≡ true) → IsPost r v o
      → IsPost (amended r ds is cs ps) v o
  post_beside v None f h = tt
  post_beside v (Some n) f h = (h.0, f v.holder n h.1)

  posts_beside : (o : Option Vehicle)
      → ((d n : ℕ) → is_some (row_at pair_cmp point_key r.points (d, n)) ≡ true
      → is_some (row_at pair_cmp point_key ps (d, n)) ≡ true) → PostAgrees r o
      → PostAgrees (amended r ds is cs ps) o
  posts_beside None f h = tt
  posts_beside (Some v) f h = post_beside v v.post f h

  -- a room stays well-formed with other rows beside its vehicles', where open turns' incidents are
  -- active in it and its points are there
  pub amended_kept : IsInOrder (amended r ds is cs ps)
      → ((c : Callsign) (n : ℕ) → TurnIsActive (amended r ds is cs ps)
      (row_at numbered_cmp turn_key r.turns (c, n)))
      → ((d n : ℕ) → is_some (row_at pair_cmp point_key r.points (d, n)) ≡ true
      → is_some (row_at pair_cmp point_key ps (d, n)) ≡ true)
      → AreRecorded (bare (amended r ds is cs ps))
      → IsWellFormed (amended r ds is cs ps)
  amended_kept order active points g = well_formed (amended r ds is cs ps) order (λ c. let h = agreed r w c in record {
    loan = h.loan;
    offer = h.offer;
    assignment = h.assignment;
    turn = h.turn;
    same_incident = h.same_incident;
    active = active c;
    report = h.report;
    last_report = h.last_report;
    post = posts_beside (row_at callsign_cmp vehicle_key r.vehicles c) points h.post;
    home = h.home;
    holder = h.holder;
    turn_division = h.turn_division;
    report_division = h.report_division;
  }) g

-- ---- an incident in the place of another
-- of the same division and number, opened then, and merged only where that was
pub record IsRenewal (i x : Incident) : Type 0 where
  pub division : x.division ≡ i.division
  pub number : x.number ≡ i.number
  pub opened : x.opened ≡ i.opened
  pub merged : is_merged x.state ≡ is_merged i.state

-- an incident that is found has its key
pub found_key : (r : Room) (d n : ℕ) (i : Incident)
    → row_at pair_cmp incident_key r.incidents (d, n) ≡ Some i → (d ≡ i.division) × (n ≡ i.number)
found_key r d n i e =
    let k = row_key pair_cmp incident_key pairs_total exact_pair r.incidents (d, n) i e in
    (ap (λ (p : ℕ × ℕ). p.0) k, ap (λ (p : ℕ × ℕ). p.1) k)

-- the incident of an open turn is active after an incident was put, if that one is active or is not
-- the turn's
pub put_active : (r s : Room) (x : Incident) (o : Option Turn)
    → s.incidents ≡ put_row pair_cmp incident_key r.incidents x
    → ((t : Turn) → o ≡ Some t → t.ended ≡ None → (t.division, t.incident) ≡ incident_key x
    → is_active x.state ≡ true) → TurnIsActive r o → TurnIsActive s o
put_active r s x None e f h = tt
put_active r s x (Some t) e f h =
    λ u. subst (λ is. IsActive (row_at pair_cmp incident_key is (t.division, t.incident))) (sym e)
    (incidents_put (λ k o. (t.division, t.incident) ≡ k → IsActive o) r.incidents x (f t refl u)
    (λ k apart same. subst (λ j. IsActive (row_at pair_cmp incident_key r.incidents j)) same (h u))
    (t.division, t.incident) refl)

-- a call of an incident stays so, where another incident that was opened no later stands in its
-- place
pub no_later : (c : Call) (o : Option Incident) (i x : Incident) → o ≡ Some i
    → (is_merged i.state ≡ false → is_merged x.state ≡ false) → x.opened ≤ i.opened
    → IsOfIncident c o → IsOfIncident c (Some x)
no_later c None i x e f le h = absurd h
no_later c (Some j) i x e f le h =
    let same : j ≡ i = cc in let g = subst (λ z. IsOfIncident c (Some z)) same h in let at = g.1 in (f g.0, omega arith)

-- an open turn of the incident
pub record IsTurnFor (r : Room) (i : Incident) (c : Callsign) (n : ℕ) (t : Turn) : Type 0 where
  pub there : row_at numbered_cmp turn_key r.turns (c, n) ≡ Some t
  pub unended : t.ended ≡ None
  pub incident : (t.division, t.incident) ≡ incident_key i

abbrev pub with_incident : Room → Incident → Room
with_incident r x = record r { incidents = put_row pair_cmp incident_key r.incidents x }

module _ (r : Room) (w : IsWellFormed r) (i x : Incident)
    (there : row_at pair_cmp incident_key r.incidents (incident_key x) ≡ Some i)
    (like : IsRenewal i x) where
  renewed_calls : (o : Option Call) → CallAgrees r o → CallAgrees (with_incident r x) o
  renewed_calls None h = tt
  renewed_calls (Some c) h =
      incidents_put (λ k o. IsOfIncident c (row_at pair_cmp incident_key r.incidents k) → IsOfIncident c o) r.incidents
      x (no_later c _ i x there (λ e. like.merged ∙ e) (omega (arith, like.opened))) (λ k e g. g)
      (c.division, c.incident) h

  renewed_opened : OpenedAgrees r (Some i) → OpenedAgrees (bare (with_incident r x)) (Some x)
  renewed_opened h =
      λ m.
      let o = h (sym like.merged ∙ m) in
      record {
        position = o.position;
        serial = o.serial;
        first_call = o.first_call;
        there = o.there;
        same = (o.same.0 ∙ sym like.division, o.same.1 ∙ sym like.number, o.same.2 ∙ sym like.opened);
      }

  -- such an incident keeps the room well-formed, where it is active or has no open turn
  pub renewed_kept : ((c : Callsign) (n : ℕ) (t : Turn) → IsTurnFor r x c n t
      → is_active x.state ≡ true) → IsWellFormed (with_incident r x)
  renewed_kept active =
      amended_kept r w r.divisions (put_row pair_cmp incident_key r.incidents x) r.calls r.points
      (in_order_one r (PutIncident x) w.order)
      (λ c n.
      put_active r (with_incident r x) x _ refl
      (λ t e u k. active c n t (record { there = e; unended = u; incident = k })) (w.active c n))
      (λ d n e. e)
      (record {
        calls = λ p n. renewed_calls _ (w.calls p n);
        opened =
            λ d n.
            incidents_put (λ k o. OpenedAgrees (bare (with_incident r x)) o) r.incidents x
            (renewed_opened (subst (OpenedAgrees r) there (w.opened x.division x.number)))
            (λ k e. opened_alike r (bare (with_incident r x)) _ refl (w.opened k.0 k.1)) (d, n);
        numbers =
            λ d n.
            incidents_put (λ k o. NumberAgrees r o) r.incidents x
            (rw (like.number, like.division) (subst (NumberAgrees r) there (w.numbers x.division x.number)))
            (λ k e. w.numbers k.0 k.1) (d, n);
        divisions = w.plan.divisions;
        points = w.plan.points;
      })
