-- A desk's asks about vehicles, and a point that is set, keep a room well-formed.
use Rattle.std.proofs.Common.{ap, inl, inr, subst, sym, ◌∙◌}
use Rattle.std.specs.Prelude.{Bool, IfSome, None, Option, Some, [], false, is_some, refl, true, ℕ}
use Rattle.std.specs.Prelude.{◌++◌, ◌+◌, ◌∷◌, ◌≡◌}
use Rattle.room_place.specs.Plans.{has_division}
use Rattle.room_place.specs.declared.places.Place.{Place}
use Rattle.room_types.specs.KeyedRows.{row_at}
use Rattle.room_types.specs.Keys.{incident_key, numbered_cmp, pair_cmp, point_key, turn_key}
use Rattle.room_types.specs.KeyLemmas.{exact_numbered, numbered_total, pairs_total}
use Rattle.room_types.specs.Texts.{Callsign}
use Rattle.room_types.specs.declared.changes.Change.TheVariants.{DropAssignment, PutAssignment}
use Rattle.room_types.specs.declared.changes.Change.TheVariants.{PutIncident, PutTurn, PutVehicle}
use Rattle.room_types.specs.declared.codes.Status.TheVariants.{Available, Mobilised, OffDuty}
use Rattle.room_types.specs.declared.codes.Status.TheVariants.{Returning}
use Rattle.room_types.specs.declared.refusal_statuses.Refusal.{Refusal}
use Rattle.room_types.specs.declared.tables.Incident.{Incident}
use Rattle.room_types.specs.declared.tables.Report.{Report}
use Rattle.room_types.specs.declared.tables.Turn.{Turn}
use Rattle.room_types.specs.declared.tables.Vehicle.{Vehicle}
use Rattle.room_model.proofs.IncidentChanges.{found_key, renewed_kept, with_incident}
use Rattle.room_model.proofs.OpenTurns.{open_held, open_there}
use Rattle.room_model.proofs.Others.{IsHeld, held_is}
use Rattle.room_model.proofs.Tests.{row_key}
use Rattle.room_model.proofs.TurnChanges.{put_some, stood_down_agrees, with_turn}
use Rattle.room_model.proofs.VehicleAgreements.{Agrees, IsLast, agreed, free_is_idle, kept_by}
use Rattle.room_model.proofs.VehicleAgreements.{known}
use Rattle.room_model.proofs.VehicleChanges.{idle_agrees, is_true, like_post, mobilised_agrees}
use Rattle.room_model.proofs.VehicleChanges.{off_is, replaced}
use Rattle.room_model.proofs.VehicleRows.{VehicleRows, bare, put_at, put_here, rows_of}
use Rattle.room_types.specs.Codes.{is_active, is_busy, is_free, is_offered}
use Rattle.room_model.specs.Decisions.{Verdict, changes_of, done, refuse_if, where_active}
use Rattle.room_model.specs.Decisions.{where_held}
use Rattle.room_model.specs.Moments.{first_of}
use Rattle.room_model.specs.Queries.{held, incident_of, lent, open_turn, point_of, served}
use Rattle.room_model.specs.Room.{Room, apply}
use Rattle.room_model.specs.Vehicles.{assignment_row, duty, mobilise, mobilise_held, mobilised, off}
use Rattle.room_model.specs.Vehicles.{off_duty, on_duty, posted, stand_down, stand_down_held}
use Rattle.room_model.specs.Vehicles.{standby, standby_at, stands_by, turn_row, turn_stood_down}
use Rattle.room_types.specs.Slices.{IsActive}
use Rattle.room_model.specs.RoomAgreements.{IsPost, IsWellFormed, ReportAgrees}

-- a report that is cleared
cleared_report : (o : Option Vehicle) (n : ℕ) (x y : Report) → ReportAgrees o n (Some x)
    → ReportAgrees o n (Some y)
cleared_report None n x y h = h
cleared_report (Some v) n x y h = h

pub cleared_agrees : (s : Room) (p : VehicleRows) (x : Report) → p.report x.number ≡ Some x
    → Agrees s p → Agrees s (record p
    { report = put_at x.number (record x { cleared = true }) p.report })
cleared_agrees s p x there h =
    let y : Report = record x { cleared = true } in
    record {
      loan = h.loan;
      offer = h.offer;
      assignment = h.assignment;
      turn = h.turn;
      same_incident = h.same_incident;
      active = h.active;
      report =
          replaced (λ n o. ReportAgrees p.vehicle n o) x.number y p.report
          (cleared_report p.vehicle x.number x y (subst (ReportAgrees p.vehicle x.number) there (h.report x.number)))
          (λ n other. h.report n);
      last_report = still_last p.vehicle h.last_report;
      post = h.post;
      home = h.home;
      holder = h.holder;
      turn_division = h.turn_division;
      report_division =
          replaced (λ n o. IfSome o (λ z. has_division s.plan z.division ≡ true)) x.number y p.report
          (subst (λ o. IfSome o (λ z. has_division s.plan z.division ≡ true)) there (h.report_division x.number))
          (λ n other. h.report_division n);
    }
  where
    still_last : (o : Option Vehicle) → IsLast p.report o
        → IsLast (put_at x.number (record x { cleared = true }) p.report) o
    still_last None g = tt
    still_last (Some v) g = elim g [
      | inl z ↦ inl z
      | inr f ↦ inr (put_some x.number (record x { cleared = true }) p.report v.last_report f)
    ]

-- a vehicle's turns have their orders
pub has_order : (r : Room) (c : Callsign) (n : ℕ) (x : Turn)
    → row_at numbered_cmp turn_key r.turns (c, n) ≡ Some x → x.order ≡ n
has_order r c n x e =
    sym
    (ap (λ (k : Callsign × ℕ). k.1) (row_key numbered_cmp turn_key numbered_total exact_numbered r.turns (c, n) x e))

abbrev pub stood_down_turn : ℕ → Turn → Turn
stood_down_turn at t = record t { ended = Some at; stood_down = true }

module _ (d : ℕ) (r : Room) (w : IsWellFormed r) where
  abbrev pub Kept : Verdict → Type 0
  Kept x = IsWellFormed (apply r (changes_of x))

  pub refuse_kept : (b : Bool) (e : Refusal) (x : Verdict) → (b ≡ false → Kept x)
      → Kept (refuse_if b e x)
  unfolding refuse_if
  refuse_kept true e x f = w
  refuse_kept false e x f = f refl

  pub held_kept : (c : Callsign) (f : Vehicle → Verdict)
      → ((v : Vehicle) → IsHeld d c r v
      → Agrees (bare r) (record (rows_of v.callsign r) { vehicle = Some v }) → Kept (f v))
      → Kept (where_held (held d c r) (lent d c r) f)
  held_kept c f g =
      (elim (held d c r) as (λ (o : Option Vehicle). held d c r ≡ o → Kept (where_held o (lent d c r) f)) [
        | None ↦ λ e. w
        | Some v ↦
            λ e.
            let is = held_is d c r v e in
            g v is (known (bare r) (rows_of v.callsign r) v is.there (agreed r w v.callsign))
      ]) refl

  pub active_kept : (n : ℕ) (f : Incident → Verdict)
      → ((i : Incident) → incident_of d n r ≡ Some i → is_active i.state ≡ true → Kept (f i))
      → Kept (where_active (incident_of d n r) f)
  active_kept n f g =
      (elim (incident_of d n r) as (λ (o : Option Incident). incident_of d n r ≡ o → Kept (where_active o f)) [
        | None ↦ λ e. w
        | Some i ↦ λ e. refuse_kept _ _ _ (λ active. g i e (is_true _ active))
      ]) refl

  -- ---- duty, off, standby
  pub duty_kept : (c : Callsign) (place : Place) (until at : ℕ) → Kept (duty d c place until at r)
  unfolding duty
  duty_kept c place until at =
      held_kept c (on_duty place until at) (λ v is h. refuse_kept _ _ _ (λ off. refuse_kept _ _ _ (λ later.
      let u : Vehicle = record v { status = Available; shift_end = until; place = place } in
      let now = off_is v.status (is_true _ off) in
      kept_by v.callsign r (PutVehicle u ∷ []) w (refl, tt) (idle_agrees (bare r) (rows_of v.callsign r) v h u
      (ap is_busy now) refl (ap is_offered (sym now)) refl refl refl refl
      (like_post (bare r) v u v.post (λ e. refl) refl h.post)))))

  pub off_kept : (c : Callsign) → Kept (off d c r)
  unfolding off
  off_kept c = held_kept c off_duty (λ v is h. refuse_kept _ _ _ (λ idle. refuse_kept _ _ _ (λ free.
      kept_by v.callsign r (PutVehicle (record v { status = OffDuty; post = None }) ∷ []) w (refl, tt)
      (idle_agrees (bare r) (rows_of v.callsign r) v h (record v { status = OffDuty; post = None }) idle refl
      (sym (free_is_idle v.status (is_true _ free)).1) refl refl refl refl tt))))

  posted_kept : (c : Callsign) (v : Vehicle) → IsHeld d c r v
      → Agrees (bare r) (record (rows_of v.callsign r) { vehicle = Some v }) → (p : Option ℕ)
      → is_free v.status ≡ true → IsPost (bare r) (record v { post = p }) p → Kept (posted v p)
  posted_kept c v is h p free post =
      let idle = (free_is_idle v.status free).0 in
      kept_by v.callsign r (PutVehicle (record v { post = p }) ∷ []) w (refl, tt)
      (idle_agrees (bare r) (rows_of v.callsign r) v h (record v { post = p }) idle idle refl refl refl refl refl post)

  at_point : (c : Callsign) (v : Vehicle) → IsHeld d c r v
      → Agrees (bare r) (record (rows_of v.callsign r) { vehicle = Some v })
      → is_free v.status ≡ true → (at : ℕ) (p : Option ℕ)
      → Kept (standby_at p (λ n. is_some (point_of d n r)) at v)
  unfolding point_of
  at_point c v is h free at None = posted_kept c v is h None free tt
  at_point c v is h free at (Some n) =
      refuse_kept _ _ _ (λ later.
      refuse_kept _ _ _ (λ there.
      posted_kept c v is h (Some n) free (
        free,
        subst (λ k. is_some (row_at pair_cmp point_key r.points (k, n)) ≡ true) (sym is.holder) (is_true _ there),
      )))

  pub standby_kept : (c : Callsign) (p : Option ℕ) (at : ℕ) → Kept (standby d c p at r)
  unfolding standby
  standby_kept c p at =
      held_kept c (stands_by p (λ n. is_some (point_of d n r)) at)
      (λ v is h. refuse_kept _ _ _ (λ free. at_point c v is h (is_true _ free) at p))

  -- ---- orders
  ordered_kept : (n : ℕ) (c : Callsign) (at : ℕ) (i : Incident) → incident_of d n r ≡ Some i
      → is_active i.state ≡ true → (v : Vehicle) → IsHeld d c r v → is_free v.status ≡ true
      → IsWellFormed (apply r (PutIncident (record i { first_order = first_of i.first_order at })
      ∷ PutVehicle (record v {
        status = Mobilised;
        post = None;
        last_order =
            v.last_order + 1;
      }) ∷ PutTurn (turn_row d i.number at v)
      ∷ PutAssignment (assignment_row d i v) ∷ []))
  unfolding incident_of
  ordered_kept n c at i e active v is free =
      let x : Incident = record i { first_order = first_of i.first_order at } in
      let key = found_key r d n i e in
      let s = with_incident r x in
      let there : row_at pair_cmp incident_key r.incidents (incident_key x)
      ≡ Some i =
      subst (λ (k : ℕ × ℕ). row_at pair_cmp incident_key r.incidents k ≡ Some i) (λ j. (key.0 j, key.1 j)) e in
      let after : IsWellFormed s = renewed_kept r w i x there
      (record { division = refl; number = refl; opened = refl; merged = refl }) (λ c m t f. active) in
      kept_by v.callsign s
      (PutVehicle (record v { status = Mobilised; post = None; last_order = v.last_order + 1 })
      ∷ PutTurn (turn_row d i.number at v) ∷ PutAssignment (assignment_row d i v) ∷ []) after (refl, (refl, (refl, tt)))
      (mobilised_agrees (bare s) (rows_of v.callsign s) v
      (known (bare s) (rows_of v.callsign s) v is.there (agreed s after v.callsign)) (turn_row d i.number at v)
      (assignment_row d i v) free refl (sym is.holder) refl (sym is.holder) refl refl
      (subst IsActive
      (sym (put_here pair_cmp incident_key pairs_total r.incidents x (d, i.number) (λ j. (sym key.0 j, i.number))))
      active)
      (has_order r v.callsign))

  pub mobilise_kept : (n : ℕ) (c : Callsign) (at : ℕ) → Kept (mobilise d n c at r)
  unfolding mobilise
  mobilise_kept n c at =
      active_kept n (mobilise_held d (held d c r) (lent d c r) at (λ k. served d n k r))
      (λ i e active.
      held_kept c (mobilised d i at (λ k. served d n k r)) (λ v is h.
      refuse_kept _ _ _ (λ free.
      refuse_kept _ _ _ (λ later.
      refuse_kept _ _ _ (λ needed. refuse_kept _ _ _ (λ left. ordered_kept n c at i e active v is (is_true _ free)))))))

  -- what stands of a vehicle that is stood down
  stood_by_turn : (c : Callsign) (v : Vehicle) (at : ℕ) → IsHeld d c r v → (o : Option Turn)
      → open_turn d c r ≡ o → Agrees (bare r)
      (record (rows_of v.callsign r) {
        vehicle = Some
            (record v { status = Returning });
        assignment = None;
        turn = with_turn
            (stood_down_turn at) o (rows_of v.callsign r).turn;
      })
      → Kept (done (turn_stood_down at o ++ DropAssignment v.callsign
      ∷ PutVehicle (record v { status = Returning }) ∷ []))
  stood_by_turn c v at is None e all =
      kept_by v.callsign r (DropAssignment v.callsign ∷ PutVehicle (record v { status = Returning }) ∷ []) w
      (refl, (refl, tt)) all
  stood_by_turn c v at is (Some t) e all =
      kept_by v.callsign r
      (PutTurn (stood_down_turn at t) ∷ DropAssignment v.callsign ∷ PutVehicle (record v { status = Returning }) ∷ []) w
      ((open_there d c r w.order t e).2 ∙ is.key, (refl, (refl, tt))) all

  pub stand_down_kept : (c : Callsign) (at : ℕ) → Kept (stand_down d c at r)
  unfolding stand_down
  stand_down_kept c at =
      held_kept c (stand_down_held at (open_turn d c r))
      (λ v is h. refuse_kept _ _ _ (λ mobilised. stood_by_turn c v at is (open_turn d c r) refl
      (stood_down_agrees (bare r) (rows_of v.callsign r) v h (stood_down_turn at)
      (λ t. record { order = refl; division = refl; incident = refl }) (open_turn d c r)
      (open_held d c r w.order v is (open_turn d c r) refl) (λ t. refl) (is_true _ mobilised))))
