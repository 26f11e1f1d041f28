-- Asks about incidents and points keep a room well-formed.
use Rattle.std.proofs.Common.{ap, eq-eqb, inl, inr, subst, sym, ◌∙◌}
use Rattle.std.specs.List.{list_any}
use Rattle.std.specs.Prelude.{Bool, IfSome, List, None, Option, Some, [], false, is_none, is_some}
use Rattle.std.specs.Prelude.{refl, true, ℕ, ◌&&◌, ◌==◌, ◌||◌, ◌∷◌, ◌≡◌}
use Rattle.room_place.specs.Choice.{Among}
use Rattle.room_place.specs.Plans.{has_division}
use Rattle.room_place.specs.declared.places.Place.{Place}
use Rattle.room_types.specs.KeyedRows.{put_row, row_at}
use Rattle.room_types.specs.Keys.{incident_key, numbered_cmp, pair_cmp, point_key, report_key}
use Rattle.room_types.specs.Keys.{turn_key}
use Rattle.room_types.specs.KeyLemmas.{exact_numbered, numbered_total}
use Rattle.room_types.specs.Texts.{Callsign}
use Rattle.room_types.specs.declared.changes.Change.TheVariants.{PutPoint, PutReport}
use Rattle.room_types.specs.declared.codes.State.{State}
use Rattle.room_types.specs.declared.codes.State.TheVariants.{Active, Closed, Merged}
use Rattle.room_types.specs.declared.needs.Counts.{Counts}
use Rattle.room_types.specs.declared.tables.Incident.{Incident}
use Rattle.room_types.specs.declared.tables.Point.{Point}
use Rattle.room_types.specs.declared.tables.Report.{Report}
use Rattle.room_types.specs.declared.tables.Turn.{Turn}
use Rattle.room_model.proofs.IncidentChanges.{amended_kept, found_key, points_put, renewed_kept}
use Rattle.room_model.proofs.KeptAsks.{Kept, active_kept, cleared_agrees, refuse_kept}
use Rattle.room_model.proofs.OpenTurns.{row_there}
use Rattle.room_model.proofs.Others.{keep_some}
use Rattle.room_model.proofs.OwnChanges.{in_order_one}
use Rattle.room_model.proofs.Tests.{both_true, row_key}
use Rattle.room_model.proofs.VehicleAgreements.{agreed, kept_by, opened_alike}
use Rattle.room_model.proofs.VehicleRows.{bare, rows_of}
use Rattle.room_types.specs.Codes.{is_active, is_merged}
use Rattle.room_model.specs.Incidents.{change_needs, close, close_active, needs_changed}
use Rattle.room_model.specs.Points.{set_point}
use Rattle.room_model.specs.Queries.{incident_of, is_attended, report_of, served}
use Rattle.room_model.specs.Queue.{clear, clear_found}
use Rattle.room_model.specs.Room.{Room}
use Rattle.room_model.specs.RoomAgreements.{IsWellFormed}

-- where none of a list passes, no element does
none_any : {X : Type 0} (p : X → Bool) (xs : List X) (x : X) → list_any p xs ≡ false → Among x xs
    → p x ≡ true → ⊥
none_any p [] x e a t = absurd a
none_any {X} p (y ∷ ys) x e a t = (elim (p y) as (λ (b : Bool). p y ≡ b → b || list_any p ys ≡ false → ⊥) [
  | true ↦ λ g f. cc
  | false ↦ λ g f. elim a [
    | inl same ↦ let alike : p x ≡ p y = ap p same in cc
    | inr b ↦ none_any p ys x f b t
  ]
]) refl e

-- an incident that nobody attends has no open turn
pub unattended : (d n : ℕ) (r : Room) → is_attended d n r ≡ false
    → (c : Callsign) (m : ℕ) (t : Turn) → row_at numbered_cmp turn_key r.turns (c, m) ≡ Some t
    → t.ended ≡ None → t.division ≡ d → t.incident ≡ n → ⊥
unfolding is_attended
unattended d n r e c m t there unended division incident =
    none_any (λ t. t.division == d && (t.incident == n && is_none t.ended)) r.turns t e
    (row_there numbered_cmp turn_key r.turns (c, m) t there)
    (both_true (t.division == d) _ (eq-eqb t.division d division)
    (both_true (t.incident == n) _ (eq-eqb t.incident n incident) (ap is_none unended)))

-- an active incident is not merged
pub active_not_merged : (s : State) → is_active s ≡ true → is_merged s ≡ false
active_not_merged Active e = refl
active_not_merged Closed e = refl
active_not_merged (Merged n) e = cc

module _ (d : ℕ) (r : Room) (w : IsWellFormed r) where
  -- an incident that was found is at its key
  pub incident_there : (n : ℕ) (i : Incident) → incident_of d n r ≡ Some i
      → (row_at pair_cmp incident_key r.incidents (i.division, i.number) ≡ Some i)
      × (d ≡ i.division) × (n ≡ i.number)
  unfolding incident_of
  incident_there n i e =
      let key = found_key r d n i e in (
        subst (λ (k : ℕ × ℕ). row_at pair_cmp incident_key r.incidents k ≡ Some i) (λ j. (key.0 j, key.1 j)) e,
        key.0,
        key.1,
      )

  pub needs_kept : (n : ℕ) (needs : Counts) → Kept d r w (change_needs d n needs r)
  unfolding change_needs
  needs_kept n needs =
      active_kept d r w n (needs_changed needs (λ k. served d n k r)) (λ i e active. refuse_kept d r w _ _ _ (λ enough.
      renewed_kept r w i (record i { needs = needs }) (incident_there n i e).0
      (record { division = refl; number = refl; opened = refl; merged = refl }) (λ c m t is. active)))

  pub close_kept : (n : ℕ) → Kept d r w (close d n r)
  unfolding close
  close_kept n = active_kept d r w n (close_active (is_attended d n r)) (λ i e active. refuse_kept d r w _ _ _ (λ quiet.
      let f = incident_there n i e in
      renewed_kept r w i (record i { state = Closed }) f.0
      (record { division = refl; number = refl; opened = refl; merged = sym (active_not_merged i.state active) })
      (λ c m t is.
      absurd (unattended d n r quiet c m t is.there is.unended (ap (λ (k : ℕ × ℕ). k.0) is.incident ∙ sym f.1)
      (ap (λ (k : ℕ × ℕ). k.1) is.incident ∙ sym f.2)))))

  cleared_kept : (c : Callsign) (n : ℕ) (o : Option Report) → report_of d c n r ≡ o
      → Kept d r w (clear_found o)
  unfolding report_of
  cleared_kept c n None e = w
  cleared_kept c n (Some x) e = refuse_kept d r w _ _ _ (λ exceptional.
      let there = (keep_some (λ (z : Report). z.division == d) (row_at numbered_cmp report_key r.reports (c, n)) x
      e).0 in
      let key = row_key numbered_cmp report_key numbered_total exact_numbered r.reports (c, n) x there in
      kept_by x.callsign r (PutReport (record x { cleared = true }) ∷ []) w (refl, tt)
      (cleared_agrees (bare r) (rows_of x.callsign r) x
      (subst (λ (k : Callsign × ℕ). row_at numbered_cmp report_key r.reports k ≡ Some x) key there)
      (agreed r w x.callsign)))

  pub clear_kept : (c : Callsign) (n : ℕ) → Kept d r w (clear d c n r)
  unfolding clear
  clear_kept c n = cleared_kept c n (report_of d c n r) refl

  -- a point of a division of the plan
  pub set_point_kept : (n : ℕ) (place : Place) (cover : ℕ) → has_division r.plan d ≡ true
      → Kept d r w (set_point d n place cover)
  set_point_kept n place cover planned =
      let x : Point = record { division = d; number = n; place = place; cover = cover } in
      let s = record r { points = put_row pair_cmp point_key r.points x } in
      amended_kept r w r.divisions r.incidents r.calls s.points (in_order_one r (PutPoint x) w.order) w.active
      (λ e m.
      points_put (λ k o. is_some (row_at pair_cmp point_key r.points k) ≡ true → is_some o ≡ true) r.points x
      (λ f. refl) (λ k apart f. f) (e, m))
      (record {
        calls = w.calls;
        opened = λ e m. opened_alike r (bare s) _ refl (w.opened e m);
        numbers = w.numbers;
        divisions = w.plan.divisions;
        points =
            λ e m.
            points_put (λ k o. IfSome o (λ p. has_division r.plan p.division ≡ true)) r.points x planned
            (λ k apart. w.plan.points k.0 k.1) (e, m);
      })
