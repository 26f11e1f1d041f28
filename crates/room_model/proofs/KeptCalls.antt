-- A call keeps a room well-formed.
use Rattle.std.proofs.Common.{ap, arith, eqb-true, inl, inr, subst, sym, ◌∙◌}
use Rattle.std.proofs.lemmas.Cmp.{nat_cmp_total}
use Rattle.std.proofs.lemmas.Map.Lookups.{CmpEqualImpliesEq}
use Rattle.std.specs.Cmp.{IsTotalOrder}
use Rattle.std.specs.Ordering.{nat_cmp}
use Rattle.std.specs.Prelude.{Bool, List, None, Option, Some, [], cond, false, filter, is_some, min}
use Rattle.std.specs.Prelude.{refl, true, ℕ, ◌+◌, ◌==◌, ◌∷◌, ◌≡◌, ◌≤◌, ◌⊎◌}
use Rattle.std.specs.declared.cmp.Ordering.{Ordering}
use Rattle.room_place.specs.Choice.{Among, least_from}
use Rattle.room_place.specs.Plans.{division_of, has_division}
use Rattle.room_place.specs.declared.places.Place.{Place}
use Rattle.room_types.specs.KeyedRows.{put_row, row_at}
use Rattle.room_types.specs.Keys.{call_key, division_key, incident_key, pair_cmp}
use Rattle.room_types.specs.KeyLemmas.{exact_number, exact_pair, pairs_total}
use Rattle.room_types.specs.declared.asks.NewCall.{NewCall}
use Rattle.room_types.specs.declared.changes.Change.TheVariants.{PutCall, PutDivision, PutIncident}
use Rattle.room_types.specs.declared.tables.Call.{Call}
use Rattle.room_types.specs.declared.tables.Division.{Division}
use Rattle.room_types.specs.declared.tables.Incident.{Incident}
use Rattle.room_model.proofs.IncidentChanges.{amended_kept, calls_put, divisions_put, found_key}
use Rattle.room_model.proofs.IncidentChanges.{incidents_put, no_later, put_active, put_rows}
use Rattle.room_model.proofs.KeptAsks.{Kept, refuse_kept}
use Rattle.room_model.proofs.KeptIncidents.{active_not_merged}
use Rattle.room_model.proofs.OwnChanges.{in_order_apply}
use Rattle.room_model.proofs.Tests.{among_filter, left_true, right_true, row_among, row_key}
use Rattle.room_model.proofs.VehicleRows.{bare, put_here}
use Rattle.room_model.specs.Calls.{call_in, call_kept, call_new, call_row, call_somewhere}
use Rattle.room_model.specs.Calls.{call_taken, new_incident, take_call, with_call}
use Rattle.room_types.specs.Codes.{is_active}
use Rattle.room_model.specs.Queries.{is_candidate, is_nearer, kept_call, last_number, link_target}
use Rattle.room_model.specs.Room.{IsInOrder, Room}
use Rattle.room_model.specs.RoomAgreements.{CallAgrees, IsGiven, IsOfIncident, IsWellFormed}
use Rattle.room_model.specs.RoomAgreements.{NumberAgrees, OpenedAgrees}

-- a row that is there stays, where one with a new key is put
pub row_stays : {R K : Type 0} (cmp : K → K → Ordering) (key : R → K) (total : IsTotalOrder cmp)
    (exact : CmpEqualImpliesEq cmp) (xs : List R) (x y : R) → row_at cmp key xs (key x) ≡ None
    → (k : K) → row_at cmp key xs k ≡ Some y → row_at cmp key (put_row cmp key xs x) k ≡ Some y
row_stays cmp key total exact xs x y absent =
    put_rows cmp key total exact (λ k o. row_at cmp key xs k ≡ Some y → o ≡ Some y) xs x (λ e. cc) (λ k apart e. e)

-- what opened an incident opened it in a room that has its calls
pub opened_with : (r s : Room) (o : Option Incident)
    → ((k : ℕ × ℕ) (c : Call) → row_at pair_cmp call_key r.calls k ≡ Some c
    → row_at pair_cmp call_key s.calls k ≡ Some c) → OpenedAgrees r o → OpenedAgrees s o
opened_with r s None f h = tt
opened_with r s (Some i) f h =
    λ m.
    let o = h m in
    record {
      position = o.position;
      serial = o.serial;
      first_call = o.first_call;
      there = f (o.position, o.serial) o.first_call o.there;
      same = o.same;
    }

pub min_either : (a b : ℕ) → (min a b ≡ a) ⊎ (min a b ≡ b)
min_either a b = grind arith

least_among : {X : Type 0} (lt : X → X → Bool) (o : Option X) (xs : List X) (x : X)
    → least_from lt o xs ≡ Some x → (o ≡ Some x) ⊎ Among x xs
least_among lt o [] x e = inl e
least_among lt None (y ∷ ys) x e = elim (least_among lt (Some y) ys x e) [
  | inl f ↦ let same : x ≡ y = cc in inr (inl same)
  | inr a ↦ inr (inr a)
]
least_among {X} lt (Some z) (y ∷ ys) x e =
    (elim (lt y
    z) as (λ (b : Bool). least_from lt (cond b (Some y) (Some z)) ys ≡ Some x → (Some z ≡ Some x) ⊎ Among x (y ∷ ys)) [
      | true ↦ λ f. elim (least_among lt (Some y) ys x f) [
        | inl g ↦ let same : x ≡ y = cc in inr (inl same)
        | inr a ↦ inr (inr a)
      ]
      | false ↦ λ f. elim (least_among lt (Some z) ys x f) [
        | inl g ↦ inl g
        | inr a ↦ inr (inr a)
      ]
    ]) e

-- an incident that a call is linked to is an active one of the division
link_there : (d : ℕ) (p : Place) (at : ℕ) (r : Room) → IsInOrder r → (i : Incident)
    → link_target d p at r ≡ Some i → (row_at pair_cmp incident_key r.incidents
    (i.division, i.number) ≡ Some i) × (i.division ≡ d) × (is_active i.state ≡ true)
unfolding link_target
link_there d p at r order i e =
    elim (least_among (is_nearer p) None (filter (is_candidate d p at) r.incidents) i e) [
      | inl f ↦ cc
      | inr a ↦
          let f = among_filter (is_candidate d p at) r.incidents i a in (
            row_among pair_cmp incident_key pairs_total r.incidents i order.incidents f.0,
            eqb-true i.division d (left_true (i.division == d) _ f.1),
            left_true (is_active i.state) _ (right_true (i.division == d) _ f.1),
          )
    ]

module _ (d : ℕ) (r : Room) (w : IsWellFormed r) (new : NewCall)
    (absent : row_at pair_cmp call_key r.calls (new.position, new.serial) ≡ None) where
  -- a call that is linked
  module _ (i : Incident) (there : row_at pair_cmp incident_key r.incidents (i.division, i.number)
      ≡ Some i) (mine : i.division ≡ d) (active : is_active i.state ≡ true) where
    abbrev linked : Room
    linked = record r {
      incidents = put_row pair_cmp incident_key r.incidents (with_call new i);
      calls = put_row pair_cmp call_key r.calls (call_row d i.number true new);
    }

    linked_call : (o : Option Call) → CallAgrees r o → CallAgrees linked o
    linked_call None h = tt
    linked_call (Some c) h =
        incidents_put (λ k o. IsOfIncident c (row_at pair_cmp incident_key r.incidents k) → IsOfIncident c o)
        r.incidents (with_call new i) (no_later c _ i (with_call new i) there (λ m. m) (omega arith)) (λ k apart g. g)
        (c.division, c.incident) h

    linked_opened : OpenedAgrees r (Some i) → OpenedAgrees (bare linked) (Some (with_call new i))
    linked_opened h = λ m. let o = h m in elim (min_either i.opened new.at) [
      | inl e ↦ record {
        position = o.position;
        serial = o.serial;
        first_call = o.first_call;
        there =
            row_stays pair_cmp call_key pairs_total exact_pair r.calls (call_row d i.number true new) o.first_call
            absent (o.position, o.serial) o.there;
        same = (o.same.0, o.same.1, o.same.2 ∙ sym e);
      }
      | inr e ↦ record {
        position = new.position;
        serial = new.serial;
        first_call = call_row d i.number true new;
        there =
            put_here pair_cmp call_key pairs_total r.calls (call_row d i.number true new) (new.position, new.serial)
            refl;
        same = (sym mine, refl, sym e);
      }
    ]

    linked_kept : IsWellFormed linked
    linked_kept =
        let x = with_call new i in
        let k = call_row d i.number true new in
        amended_kept r w r.divisions linked.incidents linked.calls r.points
        (in_order_apply r (PutIncident x ∷ PutCall k ∷ []) w.order)
        (λ c n. put_active r linked x _ refl (λ t e u same. active) (w.active c n))
        (λ e n f. f)
        (record {
          calls =
              λ p s.
              calls_put (λ q o. CallAgrees linked o) r.calls k
              (subst (IsOfIncident k)
              (sym (put_here pair_cmp incident_key pairs_total r.incidents x (d, i.number) (λ j. (mine j, i.number))))
              (active_not_merged i.state active, omega arith)) (λ q apart. linked_call _ (w.calls q.0 q.1)) (p, s);
          opened =
              λ e n.
              incidents_put (λ q o. OpenedAgrees (bare linked) o) r.incidents x
              (linked_opened (subst (OpenedAgrees r) there (w.opened i.division i.number)))
              (λ q apart.
              opened_with r (bare linked) _
              (λ j c. row_stays pair_cmp call_key pairs_total exact_pair r.calls k c absent j) (w.opened q.0 q.1))
              (e, n);
          numbers =
              λ e n.
              incidents_put (λ q o. NumberAgrees r o) r.incidents x
              (subst (NumberAgrees r) there (w.numbers i.division i.number)) (λ q apart. w.numbers q.0 q.1) (e, n);
          divisions = w.plan.divisions;
          points = w.plan.points;
        })

  -- a call that makes an incident
  module _ (v : Division) (there : row_at nat_cmp division_key r.divisions d ≡ Some v) where
    abbrev opening : Incident
    opening = new_incident d (v.last_incident + 1) new

    abbrev opened_room : Room
    opened_room = record r {
      divisions = put_row nat_cmp division_key r.divisions (record v { last_incident = v.last_incident + 1 });
      incidents = put_row pair_cmp incident_key r.incidents opening;
      calls = put_row pair_cmp call_key r.calls (call_row d (v.last_incident + 1) false new);
    }

    -- its number is new
    unused : row_at pair_cmp incident_key r.incidents (d, v.last_incident + 1) ≡ None
    unused =
        (elim (row_at pair_cmp incident_key r.incidents (
          d,
          v.last_incident + 1,
        )) as (λ (o : Option Incident).
        row_at pair_cmp incident_key r.incidents (d, v.last_incident + 1) ≡ o → NumberAgrees r o → o ≡ None) [
          | None ↦ λ e h. refl
          | Some j ↦ λ e h.
              let key = found_key r d (v.last_incident + 1) j e in
              let given : IsGiven (v.last_incident + 1) (Some v) = subst (IsGiven (v.last_incident + 1))
              (ap (row_at nat_cmp division_key r.divisions) (sym key.0) ∙ there)
              (subst (λ n. IsGiven n (row_at nat_cmp division_key r.divisions j.division)) (sym key.1) h.1) in
              absurd (omega (arith, given))
        ]) refl (w.numbers d (v.last_incident + 1))

    kept_call_of : (o : Option Call) → CallAgrees r o → CallAgrees opened_room o
    kept_call_of None h = tt
    kept_call_of (Some c) h =
        incidents_put (λ k o. IsOfIncident c (row_at pair_cmp incident_key r.incidents k) → IsOfIncident c o)
        r.incidents opening (λ g. absurd (subst (IsOfIncident c) unused g)) (λ k apart g. g) (c.division, c.incident) h

    given_more : (n : ℕ) (o : Option Division) → o ≡ Some v → IsGiven n o → n ≤ v.last_incident + 1
    given_more n None e h = absurd h
    given_more n (Some u) e h =
        let same : u ≡ v = cc in let g = subst (λ (z : Division). n ≤ z.last_incident) same h in omega arith

    own_number : v.number ≡ d
    own_number = sym (row_key nat_cmp division_key nat_cmp_total exact_number r.divisions d v there)

    kept_number : (o : Option Incident) → NumberAgrees r o → NumberAgrees opened_room o
    kept_number None h = tt
    kept_number (Some j) h = (
      h.0,
      divisions_put (λ e o. IsGiven j.number (row_at nat_cmp division_key r.divisions e) → IsGiven j.number o)
          r.divisions (record v { last_incident = v.last_incident + 1 })
          (given_more j.number _ (ap (row_at nat_cmp division_key r.divisions) own_number ∙ there)) (λ e apart g. g)
          j.division h.1,
    )

    opened_kept : IsWellFormed opened_room
    opened_kept =
        let u : Division = record v { last_incident = v.last_incident + 1 } in
        let k = call_row d (v.last_incident + 1) false new in
        amended_kept r w opened_room.divisions opened_room.incidents opened_room.calls r.points
        (in_order_apply r (PutDivision u ∷ PutIncident opening ∷ PutCall k ∷ []) w.order)
        (λ c n. put_active r opened_room opening _ refl (λ t e q same. refl) (w.active c n))
        (λ e n f. f)
        (record {
          calls =
              λ p s.
              calls_put (λ q o. CallAgrees opened_room o) r.calls k
              (subst (IsOfIncident k)
              (sym (put_here pair_cmp incident_key pairs_total r.incidents opening (d, v.last_incident + 1) refl))
              (refl, omega arith)) (λ q apart. kept_call_of _ (w.calls q.0 q.1)) (p, s);
          opened =
              λ e n.
              incidents_put (λ q o. OpenedAgrees (bare opened_room) o) r.incidents opening
              (λ m. record {
                position = new.position;
                serial = new.serial;
                first_call = k;
                there = put_here pair_cmp call_key pairs_total r.calls k (new.position, new.serial) refl;
                same = (refl, refl, refl);
              })
              (λ q apart.
              opened_with r (bare opened_room) _
              (λ j c. row_stays pair_cmp call_key pairs_total exact_pair r.calls k c absent j) (w.opened q.0 q.1))
              (e, n);
          numbers =
              λ e n.
              incidents_put (λ q o. NumberAgrees opened_room o) r.incidents opening (
                omega arith,
                subst (IsGiven (v.last_incident + 1))
                    (sym (put_here nat_cmp division_key nat_cmp_total r.divisions u d own_number)) (omega arith),
              ) (λ q apart. kept_number _ (w.numbers q.0 q.1)) (e, n);
          divisions =
              divisions_put (λ e o. is_some o ≡ has_division r.plan e) r.divisions u
              (sym (ap is_some (ap (row_at nat_cmp division_key r.divisions) own_number ∙ there))
              ∙ w.plan.divisions v.number) (λ e apart. w.plan.divisions e);
          points = w.plan.points;
        })

  call_in_kept : Kept d r w (call_in d new r)
  unfolding call_in last_number
  call_in_kept =
      (elim (link_target d new.place new.at r) as (λ (o : Option Incident).
      link_target d new.place new.at r ≡ o
      → Kept d r w (call_taken d new o (row_at nat_cmp division_key r.divisions d))) [
        | Some i ↦ λ e. let f = link_there d new.place new.at r w.order i e in linked_kept i f.0 f.1 f.2
        | None ↦
            λ e.
            (elim (row_at nat_cmp division_key r.divisions
            d) as (λ (o : Option Division).
            row_at nat_cmp division_key r.divisions d ≡ o → Kept d r w (call_new d new o)) [
              | None ↦ λ f. w
              | Some v ↦ λ f. refuse_kept d r w _ _ _ (λ left. opened_kept v f)
            ]) refl
      ]) refl

pub take_call_kept : (r : Room) (w : IsWellFormed r) (new : NewCall) → Kept 0 r w (take_call new r)
unfolding kept_call
take_call_kept r w new =
    (elim (row_at pair_cmp call_key r.calls (
      new.position,
      new.serial,
    )) as (λ (o : Option Call).
    row_at pair_cmp call_key r.calls (new.position, new.serial) ≡ o → Kept 0 r w (call_kept o new r)) [
      | Some k ↦ λ e. refuse_kept 0 r w _ _ _ (λ same. w)
      | None ↦ λ e. (elim (division_of r.plan new.place) as (λ (o : Option ℕ). Kept 0 r w (call_somewhere o new r)) [
        | None ↦ w
        | Some d ↦ call_in_kept d r w new e
      ])
    ]) refl
