-- What a vehicle's rows agree on after its open turn went on or ended, and after a report.
use Rattle.std.proofs.Common.{ap, arith, inl, inr, subst, sym, ◌∙◌}
use Rattle.std.proofs.lemmas.Cmp.{nat_cmp_total, tied_itself}
use Rattle.std.specs.Ordering.{is_eq, nat_cmp}
use Rattle.std.specs.Prelude.{Bool, IfSome, None, Option, Some, cond, false, is_some, max, refl}
use Rattle.std.specs.Prelude.{true, ℕ, ◌≡◌, ◌≤◌, ◌⊎◌}
use Rattle.room_place.specs.Plans.{has_division}
use Rattle.room_types.specs.KeyedRows.{row_at}
use Rattle.room_types.specs.Keys.{incident_key, pair_cmp}
use Rattle.room_types.specs.declared.codes.Status.TheVariants.{Returning}
use Rattle.room_types.specs.declared.tables.Assignment.{Assignment}
use Rattle.room_types.specs.declared.tables.Report.{Report}
use Rattle.room_types.specs.declared.tables.Turn.{Turn}
use Rattle.room_types.specs.declared.tables.Vehicle.{Vehicle}
use Rattle.room_model.proofs.VehicleAgreements.{Agrees, IsLast, like_turn}
use Rattle.room_model.proofs.VehicleChanges.{like_offer, like_post, mobilised_is, replaced}
use Rattle.room_model.proofs.VehicleRows.{VehicleRows, put_at}
use Rattle.room_types.specs.Codes.{is_busy, is_mobilised, is_offered}
use Rattle.room_model.specs.Room.{Room}
use Rattle.room_model.specs.Vehicles.{mobilised}
use Rattle.room_types.specs.Slices.{IsActive}
use Rattle.room_model.specs.RoomAgreements.{OpenAgrees, ReportAgrees, SameIncident, TurnAgrees}
use Rattle.room_model.specs.RoomAgreements.{TurnIsActive}

-- the open turn, as the turns of one vehicle have it
abbrev pub IsOpenTurn : ℕ → (ℕ → Option Turn) → Option Turn → Type 0
IsOpenTurn d f None = (n : ℕ) (x : Turn) → f n ≡ Some x → x.ended ≡ None → x.division ≡ d → ⊥
IsOpenTurn d f (Some t) = (f t.order ≡ Some t) × (t.ended ≡ None)

-- the turns with the open one changed
abbrev pub with_turn : (Turn → Turn) → Option Turn → (ℕ → Option Turn) → ℕ → Option Turn
with_turn change None f = f
with_turn change (Some t) f = put_at (change t).order (change t) f

-- a turn that keeps what it is of
pub record IsTurnOf (t x : Turn) : Type 0 where
  pub order : x.order ≡ t.order
  pub division : x.division ≡ t.division
  pub incident : x.incident ≡ t.incident

module _ (s : Room) (p : VehicleRows) (v : Vehicle) (h : Agrees s (record p { vehicle = Some v }))
    (change : Turn → Turn) (same : (t : Turn) → IsTurnOf t (change t)) where
  -- what is agreed of the open turn
  open_agreed : (t : Turn) → (p.turn t.order ≡ Some t) × (t.ended ≡ None)
      → (1 ≤ t.order) × (t.order ≡ v.last_order) × (t.division ≡ v.holder)
      × (is_busy v.status ≡ true)
  open_agreed t is =
      let g : TurnAgrees (Some v) t.order (Some t) = subst (TurnAgrees (Some v) t.order) is.0 (h.turn t.order) in
      let k : OpenAgrees v t.order t None = subst (OpenAgrees v t.order t) is.1 g.2 in
      (g.0, k.0, k.1, k.2)

  shut_open : (u : Vehicle) (n : ℕ) (x : Turn) (o : Option ℕ) → is_busy u.status ≡ false
      → (o ≡ None → OpenAgrees v n x None → ⊥) → OpenAgrees v n x o → OpenAgrees u n x o
  shut_open u n x None idle none g = absurd (none refl g)
  shut_open u n x (Some at) idle none g = λ e. idle

  shut_turn : (u : Vehicle) (n : ℕ) (o : Option Turn) → is_busy u.status ≡ false
      → u.last_order ≡ v.last_order → ((x : Turn) → o ≡ Some x → x.ended ≡ None
      → OpenAgrees v n x None → ⊥) → TurnAgrees (Some v) n o → TurnAgrees (Some u) n o
  shut_turn u n None idle order none g = λ e. idle
  shut_turn u n (Some x) idle order none g =
      (g.0, subst (λ m. n ≤ m) (sym order) g.1, shut_open u n x x.ended idle (none x refl) g.2)

  has_ended : (u : Vehicle) (n : ℕ) (x : Turn) (o : Option ℕ) → is_some o ≡ true
      → is_busy u.status ≡ false → OpenAgrees u n x o
  has_ended u n x None e idle = cc
  has_ended u n x (Some at) e idle = λ k. idle

  -- it has ended, and the vehicle is idle
  pub ended_turns : (u : Vehicle) (o : Option Turn) → IsOpenTurn v.holder p.turn o
      → ((t : Turn) → is_some (change t).ended ≡ true) → is_busy u.status ≡ false
      → u.last_order ≡ v.last_order → (n : ℕ) → TurnAgrees (Some u) n (with_turn change o p.turn n)
  ended_turns u None is ends idle order =
      λ n. shut_turn u n (p.turn n) idle order (λ x e g k. is n x e g k.1) (h.turn n)
  ended_turns u (Some t) is ends idle order =
      let known = open_agreed t is in
      let kept = same t in
      replaced (λ n o. TurnAgrees (Some u) n o) (change t).order (change t) p.turn (
        subst (λ n. 1 ≤ n) (sym kept.order) known.0,
        omega (arith, kept.order, known.1, order),
        has_ended u (change t).order (change t) (change t).ended (ends t) idle,
      )
      (λ n other. shut_turn u n (p.turn n) idle order (λ x e g k. other (k.0 ∙ sym (kept.order ∙ known.1))) (h.turn n))

  -- it goes on, and the vehicle is as busy as it was
  pub moved_turns : (u : Vehicle) (o : Option Turn) → IsOpenTurn v.holder p.turn o
      → ((t : Turn) → (change t).ended ≡ t.ended) → is_busy u.status ≡ is_busy v.status
      → u.holder ≡ v.holder → u.last_order ≡ v.last_order → (n : ℕ)
      → TurnAgrees (Some u) n (with_turn change o p.turn n)
  moved_turns u None is goes busy holder order = λ n. like_turn v u busy (λ b. holder) order n (p.turn n) (h.turn n)
  moved_turns u (Some t) is goes busy holder order =
      let known = open_agreed t is in
      let kept = same t in
      replaced (λ n o. TurnAgrees (Some u) n o) (change t).order (change t) p.turn (
        subst (λ n. 1 ≤ n) (sym kept.order) known.0,
        omega (arith, kept.order, known.1, order),
        subst (OpenAgrees u (change t).order (change t)) (sym (goes t ∙ is.1))
            (kept.order ∙ (known.1 ∙ sym order), kept.division ∙ (known.2 ∙ sym holder), busy ∙ known.3),
      )
      (λ n other. like_turn v u busy (λ b. holder) order n (p.turn n) (h.turn n))

  same_incident_of : (a : Option Assignment) (t x : Turn) → IsTurnOf t x → SameIncident a (Some t)
      → SameIncident a (Some x)
  same_incident_of None t x is g = tt
  same_incident_of (Some a) t x is g = λ e. is.incident ∙ g (sym is.order ∙ e)

  pub incidents_stay : (o : Option Turn) → IsOpenTurn v.holder p.turn o → (n : ℕ)
      → SameIncident p.assignment (with_turn change o p.turn n)
  incidents_stay None is = h.same_incident
  incidents_stay (Some t) is =
      replaced (λ n o. SameIncident p.assignment o) (change t).order (change t) p.turn
      (same_incident_of p.assignment t (change t) (same t)
      (subst (SameIncident p.assignment) is.0 (h.same_incident t.order))) (λ n other. h.same_incident n)

  pub still_active : (o : Option Turn) → IsOpenTurn v.holder p.turn o → (n : ℕ)
      → TurnIsActive s (with_turn change o p.turn n)
  still_active None is = h.active
  still_active (Some t) is =
      let kept = same t in
      let was : TurnIsActive s (Some t) = subst (TurnIsActive s) is.0 (h.active t.order) in
      replaced (λ n o. TurnIsActive s o) (change t).order (change t) p.turn
      (λ e.
      subst (λ (k : ℕ × ℕ). IsActive (row_at pair_cmp incident_key s.incidents k))
      (λ i. (sym kept.division i, sym kept.incident i)) (was is.1)) (λ n other. h.active n)

  pub divisions_of_turns : (o : Option Turn) → IsOpenTurn v.holder p.turn o → (n : ℕ)
      → IfSome (with_turn change o p.turn n) (λ t. has_division s.plan t.division ≡ true)
  divisions_of_turns None is = h.turn_division
  divisions_of_turns (Some t) is =
      replaced (λ n o. IfSome o (λ t. has_division s.plan t.division ≡ true)) (change t).order (change t) p.turn
      (rw (same t).division
      (subst (λ o. IfSome o (λ t. has_division s.plan t.division ≡ true)) is.0 (h.turn_division t.order)))
      (λ n other. h.turn_division n)

  -- a vehicle that is stood down
  pub stood_down_agrees : (o : Option Turn) → IsOpenTurn v.holder p.turn o
      → ((t : Turn) → is_some (change t).ended ≡ true) → is_mobilised v.status ≡ true
      → Agrees s (record p {
        vehicle = Some
            (record v { status = Returning });
        assignment = None;
        turn = with_turn change o p.turn;
      })
  stood_down_agrees o is ends mobilised =
      let u : Vehicle = record v { status = Returning } in
      let now = mobilised_is v.status mobilised in
      record {
        loan = h.loan;
        offer = like_offer s.plan v u p.offer (ap is_offered (sym now)) refl refl h.offer;
        assignment = refl;
        turn = ended_turns u o is ends refl refl;
        same_incident = λ n. tt;
        active = still_active o is;
        report = h.report;
        last_report = h.last_report;
        post = like_post s v u v.post (λ e. refl) refl h.post;
        home = h.home;
        holder = h.holder;
        turn_division = divisions_of_turns o is;
        report_division = h.report_division;
      }

-- ---- a report
pub put_some : {X : Type 0} (m : ℕ) (x : X) (f : ℕ → Option X) (n : ℕ) → is_some (f n) ≡ true
    → is_some (put_at m x f n) ≡ true
put_some {X} m x f n e = some_either (is_eq (nat_cmp n m)) (f n) e
  where
    some_either : (b : Bool) (o : Option X) → is_some o ≡ true → is_some (cond b (Some x) o) ≡ true
    some_either true o g = refl
    some_either false o g = g

put_itself : {X : Type 0} (m : ℕ) (x : X) (f : ℕ → Option X) → is_some (put_at m x f m) ≡ true
put_itself m x f = ap (λ (b : Bool). is_some (cond b (Some x) (f m))) (ap is_eq (tied_itself nat_cmp_total m))

max_either : (a b : ℕ) → (max a b ≡ a) ⊎ (max a b ≡ b)
max_either a b = grind arith

module _ (s : Room) (p : VehicleRows) (v u : Vehicle)
    (h : Agrees s (record p { vehicle = Some v })) (x : Report) (least : 1 ≤ x.number)
    (last : u.last_report ≡ max v.last_report x.number) where
  report_up : (n : ℕ) (o : Option Report) → ReportAgrees (Some v) n o → ReportAgrees (Some u) n o
  report_up n None g = tt
  report_up n (Some y) g = (g.0, omega (arith, g.1, last))

  pub reports_up : (n : ℕ) → ReportAgrees (Some u) n (put_at x.number x p.report n)
  reports_up =
      replaced (λ n o. ReportAgrees (Some u) n o) x.number x p.report (least, omega (arith, last))
      (λ n other. report_up n (p.report n) (h.report n))

  pub last_up : IsLast (put_at x.number x p.report) (Some u)
  last_up =
      subst (λ m. (m ≡ 0) ⊎ (is_some (put_at x.number x p.report m) ≡ true)) (sym last)
      (elim (max_either v.last_report x.number) [
        | inr e ↦
            inr (subst (λ m. is_some (put_at x.number x p.report m) ≡ true) (sym e) (put_itself x.number x p.report))
        | inl e ↦ subst (λ m. (m ≡ 0) ⊎ (is_some (put_at x.number x p.report m) ≡ true)) (sym e) (elim h.last_report [
          | inl z ↦ inl z
          | inr there ↦ inr (put_some x.number x p.report v.last_report there)
        ])
      ])

  pub divisions_of_reports : x.division ≡ v.holder → (n : ℕ)
      → IfSome (put_at x.number x p.report n) (λ y. has_division s.plan y.division ≡ true)
  divisions_of_reports e =
      replaced (λ n o. IfSome o (λ y. has_division s.plan y.division ≡ true)) x.number x p.report (rw e h.holder)
      (λ n other. h.report_division n)
