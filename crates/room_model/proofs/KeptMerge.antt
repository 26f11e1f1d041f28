-- A merge keeps a room well-formed.
use Rattle.std.proofs.Common.{ap, arith, eq-eqb, eqb-true, inl, inr, subst, sym, ◌∙◌}
use Rattle.std.proofs.lemmas.Cmp.{tied_itself}
use Rattle.std.specs.Ordering.{is_eq}
use Rattle.std.specs.Prelude.{Bool, List, None, Option, Some, [], cond, false, filter, map, refl}
use Rattle.std.specs.Prelude.{true, ℕ, ◌&&◌, ◌==◌, ◌∷◌, ◌≡◌, ◌≢◌}
use Rattle.room_types.proofs.KeyedLaws.{keyed_filter, row_below, row_filter, row_put}
use Rattle.room_types.specs.KeyedRows.{IsKeyed, keep, put_row, row_at}
use Rattle.room_types.specs.Keys.{call_key, incident_key, pair_cmp}
use Rattle.room_types.specs.KeyLemmas.{exact_pair, pairs_total}
use Rattle.room_types.specs.declared.changes.Change.TheVariants.{PutIncident}
use Rattle.room_types.specs.declared.codes.State.TheVariants.{Merged}
use Rattle.room_types.specs.declared.tables.Call.{Call}
use Rattle.room_types.specs.declared.tables.Incident.{Incident}
use Rattle.room_model.proofs.IncidentChanges.{amended_kept, incidents_put, no_later, put_active}
use Rattle.room_model.proofs.IncidentChanges.{with_incident}
use Rattle.room_model.proofs.KeptAsks.{Kept, refuse_kept}
use Rattle.room_model.proofs.KeptCalls.{min_either}
use Rattle.room_model.proofs.KeptIncidents.{active_not_merged, incident_there, unattended}
use Rattle.room_model.proofs.KeptLoans.{not_equal}
use Rattle.room_model.proofs.OwnChanges.{in_order_apply}
use Rattle.room_model.proofs.Tests.{both_true, is_equal, left_true, right_true, row_key}
use Rattle.room_model.proofs.VehicleChanges.{is_true}
use Rattle.room_model.proofs.VehicleRows.{bare, put_here}
use Rattle.room_types.specs.Codes.{is_active}
use Rattle.room_model.specs.Incidents.{joined, merge, merge_of, moved_call}
use Rattle.room_model.specs.Queries.{calls_of, incident_of, is_attended}
use Rattle.room_model.specs.Room.{IsInOrder, Room, apply, apply_one}
use Rattle.room_model.specs.RoomAgreements.{CallAgrees, IsOfIncident, IsWellFormed, NumberAgrees}
use Rattle.room_model.specs.RoomAgreements.{OpenedAgrees}

-- calls, each put with another incident
abbrev pub put_calls : ℕ → List Call → List Call → List Call
put_calls m [] xs = xs
put_calls m (c ∷ cs) xs = put_calls m cs (put_row pair_cmp call_key xs (record c { incident = m }))

put_all : (m : ℕ) (cs : List Call) (r : Room)
    → apply r (map (moved_call m) cs) ≡ record r { calls = put_calls m cs r.calls }
put_all m [] r = refl
put_all m (c ∷ cs) r = put_all m cs (apply_one r (moved_call m c))

-- the moved call, where one was moved, and else what was there
abbrev moved_row : ℕ → Option Call → Option Call → Option Call
moved_row m None o = o
moved_row m (Some c) o = Some (record c { incident = m })

moved_at : (m : ℕ) (cs xs : List Call) (k : ℕ × ℕ) → IsKeyed pair_cmp call_key cs
    → row_at pair_cmp call_key (put_calls m cs xs) k
    ≡ moved_row m (row_at pair_cmp call_key cs k) (row_at pair_cmp call_key xs k)
moved_at m [] xs k keyed = refl
moved_at m (c ∷ cs) xs k keyed =
    moved_at m cs (put_row pair_cmp call_key xs (record c { incident = m })) k keyed.1
    ∙ ap (moved_row m (row_at pair_cmp call_key cs k))
    (row_put pair_cmp call_key pairs_total xs (record c { incident = m }) k)
    ∙ (elim (is_eq (pair_cmp k (call_key c))) as (λ (b : Bool).
    is_eq (pair_cmp k (call_key c)) ≡ b
    → moved_row m (row_at pair_cmp call_key cs k)
    (cond b (Some (record c { incident = m })) (row_at pair_cmp call_key xs k))
    ≡ moved_row m (cond b (Some c) (row_at pair_cmp call_key cs k)) (row_at pair_cmp call_key xs k)) [
      | true ↦
          λ e.
          ap (λ o. moved_row m o (Some (record c { incident = m })))
          (ap (row_at pair_cmp call_key cs) (exact_pair k (call_key c) (is_equal _ e))
          ∙ row_below pair_cmp call_key pairs_total cs (call_key c) keyed.0)
      | false ↦ λ e. refl
    ]) refl

module _ (d : ℕ) (r : Room) (w : IsWellFormed r) (n m : Incident)
    (n_there : row_at pair_cmp incident_key r.incidents (n.division, n.number) ≡ Some n) (n_mine : n.division ≡ d)
    (n_active : is_active n.state ≡ true)
    (m_there : row_at pair_cmp incident_key r.incidents (m.division, m.number) ≡ Some m) (m_mine : m.division ≡ d)
    (m_active : is_active m.state ≡ true)
    (other : n.number ≢ m.number) (quiet : is_attended d n.number r ≡ false) where
  -- whether a call goes to the other incident
  abbrev moves : Call → Bool
  moves c = c.division == d && c.incident == n.number

  abbrev emptied : Incident
  emptied = record n { state = Merged m.number }

  abbrev merged : Room
  merged = record r {
    incidents = put_row pair_cmp incident_key (put_row pair_cmp incident_key r.incidents (joined n m)) emptied;
    calls = put_calls m.number (calls_of d n.number r) r.calls;
  }

  call_after : (k : ℕ × ℕ) → row_at pair_cmp call_key merged.calls k
      ≡ moved_row m.number (keep moves (row_at pair_cmp call_key r.calls k))
      (row_at pair_cmp call_key r.calls k)
  unfolding calls_of
  call_after k =
      moved_at m.number (filter moves r.calls) r.calls k
      (keyed_filter pair_cmp call_key pairs_total moves r.calls w.order.calls)
      ∙ ap (λ o. moved_row m.number o (row_at pair_cmp call_key r.calls k))
      (row_filter pair_cmp call_key pairs_total moves r.calls k w.order.calls)

  -- the call is of the incident that is emptied
  moves_from : (c : Call) → moves c ≡ true → (c.division, c.incident) ≡ incident_key n
  moves_from c e =
      λ i. (
        (eqb-true c.division d (left_true (c.division == d) _ e) ∙ sym n_mine) i,
        eqb-true c.incident n.number (right_true (c.division == d) _ e) i,
      )

  stays_with : (c : Call) → moves c ≡ false → (c.division, c.incident) ≡ incident_key n → ⊥
  stays_with c e same =
      let yes_ : moves c
      ≡ true =
      both_true (c.division == d) _ (eq-eqb c.division d (ap (λ (p : ℕ × ℕ). p.0) same ∙ n_mine))
      (eq-eqb c.incident n.number (ap (λ (p : ℕ × ℕ). p.1) same)) in
      cc

  -- what stands in the other incident's place
  m_after : row_at pair_cmp incident_key merged.incidents (d, m.number) ≡ Some (joined n m)
  m_after =
      incidents_put (λ k o. k ≡ (d, m.number) → o ≡ Some (joined n m))
      (put_row pair_cmp incident_key r.incidents (joined n m)) emptied
      (λ same. absurd (other (ap (λ (p : ℕ × ℕ). p.1) same)))
      (λ k apart same.
      ap (row_at pair_cmp incident_key (put_row pair_cmp incident_key r.incidents (joined n m))) same
      ∙ put_here pair_cmp incident_key pairs_total r.incidents (joined n m) (d, m.number) (λ i. (m_mine i, m.number)))
      (d, m.number) refl

  moved_agrees : (c : Call) → moves c ≡ true → CallAgrees r (Some c)
      → CallAgrees merged (Some (record c { incident = m.number }))
  moved_agrees c e h =
      let was : IsOfIncident c (Some n) = subst (IsOfIncident c)
      (ap (row_at pair_cmp incident_key r.incidents) (moves_from c e) ∙ n_there) h in
      let at = was.1 in
      subst (IsOfIncident (record c { incident = m.number }))
      (sym (ap (λ x. row_at pair_cmp incident_key merged.incidents (x, m.number))
      (eqb-true c.division d (left_true (c.division == d) _ e)) ∙ m_after))
      (active_not_merged m.state m_active, omega arith)

  stayed_agrees : (c : Call) → moves c ≡ false → CallAgrees r (Some c) → CallAgrees merged (Some c)
  stayed_agrees c e h =
      incidents_put (λ k o. k ≡ (c.division, c.incident) → IsOfIncident c o)
      (put_row pair_cmp incident_key r.incidents (joined n m)) emptied (λ same. absurd (stays_with c e (sym same)))
      (λ k apart same.
      incidents_put (λ k o. IsOfIncident c (row_at pair_cmp incident_key r.incidents k) → IsOfIncident c o) r.incidents
      (joined n m) (no_later c _ m (joined n m) m_there (λ f. f) (omega arith)) (λ j q g. g) k
      (subst (λ j. IsOfIncident c (row_at pair_cmp incident_key r.incidents j)) (sym same) h)) (c.division, c.incident)
      refl

  call_agrees : (o : Option Call) → CallAgrees r o
      → CallAgrees merged (moved_row m.number (keep moves o) o)
  call_agrees None h = tt
  call_agrees (Some c) h =
      (elim (moves
      c) as (λ (b : Bool). moves c ≡ b → CallAgrees merged (moved_row m.number (cond b (Some c) None) (Some c))) [
        | true ↦ λ e. moved_agrees c e h
        | false ↦ λ e. stayed_agrees c e h
      ]) refl

  -- a call after the merge
  call_moved : (k : ℕ × ℕ) (c : Call) → row_at pair_cmp call_key r.calls k ≡ Some c
      → moves c ≡ true → row_at pair_cmp call_key merged.calls k
      ≡ Some (record c { incident = m.number })
  call_moved k c there e =
      call_after k ∙ ap (λ o. moved_row m.number (keep moves o) o) there
      ∙ ap (λ (b : Bool). moved_row m.number (cond b (Some c) None) (Some c)) e

  call_stayed : (k : ℕ × ℕ) (c : Call) → row_at pair_cmp call_key r.calls k ≡ Some c
      → moves c ≡ false → row_at pair_cmp call_key merged.calls k ≡ Some c
  call_stayed k c there e =
      call_after k ∙ ap (λ o. moved_row m.number (keep moves o) o) there
      ∙ ap (λ (b : Bool). moved_row m.number (cond b (Some c) None) (Some c)) e

  not_moved : (c : Call) → ((c.division, c.incident) ≡ incident_key n → ⊥) → moves c ≡ false
  not_moved c f = (elim (moves c) as (λ (b : Bool). moves c ≡ b → b ≡ false) [
    | true ↦ λ e. absurd (f (moves_from c e))
    | false ↦ λ e. refl
  ]) refl

  joined_opened : OpenedAgrees (bare merged) (Some (joined n m))
  joined_opened = λ f. elim (min_either n.opened m.opened) [
    | inl e ↦
        let o = subst (OpenedAgrees r) n_there (w.opened n.division n.number) (active_not_merged n.state n_active) in
        let c = o.first_call in
        record {
          position = o.position;
          serial = o.serial;
          first_call = record c { incident = m.number };
          there = call_moved (o.position, o.serial) c o.there
              (both_true (c.division == d) _ (eq-eqb c.division d (o.same.0 ∙ n_mine))
              (eq-eqb c.incident n.number o.same.1));
          same = (o.same.0 ∙ (n_mine ∙ sym m_mine), refl, o.same.2 ∙ sym e);
        }
    | inr e ↦
        let o = subst (OpenedAgrees r) m_there (w.opened m.division m.number) (active_not_merged m.state m_active) in
        let c = o.first_call in
        record {
          position = o.position;
          serial = o.serial;
          first_call = c;
          there = call_stayed (o.position, o.serial) c o.there
              (not_moved c (λ same. other (sym (ap (λ (p : ℕ × ℕ). p.1) same) ∙ o.same.1)));
          same = (o.same.0, o.same.1, o.same.2 ∙ sym e);
        }
  ]

  -- another incident was opened by a call that stays
  other_opened : (k : ℕ × ℕ) (o : Option Incident) → row_at pair_cmp incident_key r.incidents k ≡ o
      → is_eq (pair_cmp k (n.division, n.number)) ≡ false → OpenedAgrees r o
      → OpenedAgrees (bare merged) o
  other_opened k None e apart h = tt
  other_opened k (Some i) e apart h = λ f.
      let o = h f in
      let c = o.first_call in
      let key : k ≡ (i.division, i.number) = row_key pair_cmp incident_key pairs_total exact_pair r.incidents k i e in
      let here : (c.division, c.incident) ≡ incident_key i = λ j. (o.same.0 j, o.same.1 j) in
      record {
        position = o.position;
        serial = o.serial;
        first_call = c;
        there = call_stayed (o.position, o.serial) c o.there
            (not_moved c (λ same. tied (sym (key ∙ (sym here ∙ same))) apart));
        same = o.same;
      }
    where
      tied : incident_key n ≡ k → is_eq (pair_cmp k (n.division, n.number)) ≡ false → ⊥
      tied same f =
          let yes_ : is_eq (pair_cmp k (n.division, n.number))
          ≡ true = ap (λ j. is_eq (pair_cmp k j)) same ∙ ap is_eq (tied_itself pairs_total k) in
          cc

  merged_kept : IsInOrder merged → IsWellFormed merged
  merged_kept order =
      let s = with_incident r (joined n m) in
      amended_kept r w r.divisions merged.incidents merged.calls r.points order
      (λ c q.
      put_active s merged emptied _ refl
      (λ t e u same.
      absurd
      (unattended d n.number r quiet c q t e u (ap (λ (p : ℕ × ℕ). p.0) same ∙ n_mine) (ap (λ (p : ℕ × ℕ). p.1) same)))
      (put_active r s (joined n m) _ refl (λ t e u same. m_active) (w.active c q)))
      (λ e q f. f)
      (record {
        calls = λ p q. subst (CallAgrees merged) (sym (call_after (p, q))) (call_agrees _ (w.calls p q));
        opened =
            λ e q.
            incidents_put (λ k o. OpenedAgrees (bare merged) o) (put_row pair_cmp incident_key r.incidents (joined n m))
            emptied (λ f. cc)
            (λ k apart.
            incidents_put (λ k o. is_eq (pair_cmp k (n.division, n.number)) ≡ false → OpenedAgrees (bare merged) o)
            r.incidents (joined n m) (λ f. joined_opened) (λ j q f. other_opened j _ refl f (w.opened j.0 j.1)) k apart)
            (e, q);
        numbers =
            λ e q.
            incidents_put (λ k o. NumberAgrees r o) (put_row pair_cmp incident_key r.incidents (joined n m)) emptied
            (subst (NumberAgrees r) n_there (w.numbers n.division n.number))
            (λ k apart.
            incidents_put (λ k o. NumberAgrees r o) r.incidents (joined n m)
            (subst (NumberAgrees r) m_there (w.numbers m.division m.number)) (λ j q. w.numbers j.0 j.1) k) (e, q);
        divisions = w.plan.divisions;
        points = w.plan.points;
      })

  -- the changes come to that
  changes_kept : IsWellFormed (apply r
      (PutIncident (joined n m) ∷ PutIncident emptied
      ∷ map (moved_call m.number) (calls_of d n.number r)))
  changes_kept =
      let same = put_all m.number (calls_of d n.number r) (with_incident (with_incident r (joined n m)) emptied) in
      subst IsWellFormed (sym same) (merged_kept (subst IsInOrder same
      (in_order_apply r
      (PutIncident (joined n m) ∷ PutIncident emptied ∷ map (moved_call m.number) (calls_of d n.number r)) w.order)))

pub merge_kept : (d : ℕ) (r : Room) (w : IsWellFormed r) (a b : ℕ) → Kept d r w (merge d a b r)
unfolding merge
merge_kept d r w a b = of (incident_of d a r) (incident_of d b r) refl refl
  where
    of : (x y : Option Incident) → incident_of d a r ≡ x → incident_of d b r ≡ y
        → Kept d r w (merge_of x y (is_attended d a r) (calls_of d a r))
    of None y e f = w
    of (Some n) None e f = w
    of (Some n) (Some m) e f =
        let p = incident_there d r w a n e in
        let q = incident_there d r w b m f in
        refuse_kept d r w _ _ _ (λ other.
        refuse_kept d r w _ _ _ (λ n_active. refuse_kept d r w _ _ _ (λ m_active. refuse_kept d r w _ _ _ (λ quiet.
        subst (λ k.
        IsWellFormed (apply r (PutIncident (joined n m) ∷ PutIncident (record n { state = Merged m.number })
        ∷ map (moved_call m.number) (calls_of d k r)))) (sym p.2)
        (changes_kept d r w n m p.0 (sym p.1) (is_true _ n_active) q.0 (sym q.1) (is_true _ m_active)
        (not_equal n.number m.number other) (subst (λ k. is_attended d k r ≡ false) p.2 quiet))))))
