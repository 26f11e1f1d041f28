-- A call, and what a share becomes by it.
use Rattle.std.proofs.Common.{ap, eq-eqb, eqb-true, inl, inr, sym, ◌∙◌}
use Rattle.std.proofs.lemmas.Cmp.{nat_cmp_total}
use Rattle.std.proofs.lemmas.Map.Lookups.{exact_unsigned}
use Rattle.std.specs.Ordering.{nat_cmp}
use Rattle.std.specs.Prelude.{Bool, List, None, Option, Some, [], cond, false, nat_le, refl, true}
use Rattle.std.specs.Prelude.{ℕ, ◌&&◌, ◌+◌, ◌==◌, ◌∷◌, ◌≡◌, ◌⊎◌}
use Rattle.room_place.specs.Choice.{Among, least, least_from}
use Rattle.room_place.specs.Places.{distance}
use Rattle.room_place.specs.Plans.{division_of}
use Rattle.room_types.proofs.KeyedLaws.{row_filter}
use Rattle.room_types.specs.KeyedRows.{keep, row_at}
use Rattle.room_types.specs.Keys.{call_key, division_key, owns_call, owns_division, pair_cmp}
use Rattle.room_types.specs.KeyLemmas.{pairs_total}
use Rattle.room_types.specs.declared.asks.Ask.{Ask}
use Rattle.room_types.specs.declared.asks.CallForm.{CallForm}
use Rattle.room_types.specs.declared.asks.Event.{Event}
use Rattle.room_types.specs.declared.asks.NewCall.{NewCall}
use Rattle.room_types.specs.declared.asks.Who.TheVariants.{Position}
use Rattle.room_types.specs.declared.changes.Change.TheVariants.{PutDivision}
use Rattle.room_types.specs.declared.tables.Call.{Call}
use Rattle.room_types.specs.declared.tables.Division.{Division}
use Rattle.room_types.specs.declared.tables.Incident.{Incident}
use Rattle.room_model.proofs.Apart.{LeavesShare, refuse_leaves}
use Rattle.room_model.proofs.Foreign.{IsForeign, own_foreign}
use Rattle.room_model.proofs.Others.{apart_from, incident_foreign, none_own}
use Rattle.room_model.proofs.Changes.{all_plain, call_in_all, plain_allowed}
use Rattle.room_model.proofs.DecisionLaws.{by_refuse}
use Rattle.room_model.proofs.NearLaws.{near_around}
use Rattle.room_model.proofs.OwnChanges.{own_apply_own}
use Rattle.room_model.proofs.OwnDesk.{call_own}
use Rattle.room_model.proofs.Tests.{among_filter, both_true, filter_filter, is_equal, keep_row}
use Rattle.room_model.proofs.Tests.{left_true, right_true, row_key}
use Rattle.room_model.specs.Isolation.{answers_by, share_by}
use Rattle.room_model.specs.Calls.{call_in, call_kept, call_somewhere, call_taken, new_call}
use Rattle.room_model.specs.Calls.{new_incident, take_call, with_call}
use Rattle.room_types.specs.Codes.{is_active}
use Rattle.room_model.specs.Crossing.{CallIn, cross_call, cross_position, is_division_of}
use Rattle.room_model.specs.Decisions.{changes_of}
use Rattle.room_model.specs.Moments.{age, link_metres, link_seconds, number_limit}
use Rattle.room_model.specs.Queries.{is_candidate, is_nearer, kept_call, last_number, link_target}
use Rattle.room_model.specs.Room.{IsInOrder, Room, apply}
use Rattle.room_model.specs.Shares.{IsPlain, own}
use Rattle.room_model.specs.Step.{position_asks}
use Rattle.room_model.specs.RoomAgreements.{IsWellFormed}
use Rattle.room_model.specs.WorkingRows.{reads_calls, reads_division, reads_incident, reads_number}
use Rattle.room_model.specs.WorkingRows.{working}
use Rattle.room_types.specs.declared.asks.Ask.TheVariants as ask

-- the least of a list is one of it
least_among : {X : Type 0} (lt : X → X → Bool) (xs : List X) (o : Option X) (x : X)
    → least_from lt o xs ≡ Some x → (o ≡ Some x) ⊎ Among x xs
least_among lt [] o x e = inl e
least_among lt (y ∷ ys) None x e =
    inr (elim (least_among lt ys (Some y) x e) [ inl g ↦ let same : x ≡ y = cc in inl same | inr g ↦ inr g ])
least_among {X} lt (y ∷ ys) (Some z) x e =
    (elim (lt y
    z) as (λ (b : Bool). least_from lt (cond b (Some y) (Some z)) ys ≡ Some x → (Some z ≡ Some x) ⊎ Among x (y ∷ ys)) [
      | true ↦
          λ f. inr (elim (least_among lt ys (Some y) x f) [ inl g ↦ let same : x ≡ y = cc in inl same | inr g ↦ inr g ])
      | false ↦ λ f. elim (least_among lt ys (Some z) x f) [ inl g ↦ inl g | inr g ↦ inr (inr g) ]
    ]) e

-- ---- in another division
module _ (d h : ℕ) (r : Room) (w : IsWellFormed r) (apart : h == d ≡ false) (new : NewCall)
    (fresh : kept_call new.position new.serial r ≡ None) where
  target_is : (i : Incident) → link_target h new.place new.at r ≡ Some i → i.division ≡ h
  unfolding link_target
  target_is i e = elim (least_among (is_nearer new.place) _ None i e) [
    | inl g ↦ let none : ⊥ = cc in absurd none
    | inr g ↦ eqb-true i.division h (left_true _ _ (among_filter (is_candidate h new.place new.at) r.incidents i g).1)
  ]

  number_is : (v : Division) → last_number h r ≡ Some v → v.number ≡ h
  unfolding last_number
  number_is v e = sym (row_key nat_cmp division_key nat_cmp_total exact_unsigned r.divisions h v e)

  division_foreign : (v : Division) → v.number ≡ h → IsForeign d (own d r) (PutDivision v)
  division_foreign v e = (
    apart_from v.number h d e apart,
    none_own nat_cmp division_key nat_cmp_total (owns_division d) r.divisions v.number w.order.divisions
        (λ y f.
        apart_from y.number h d
        (sym (row_key nat_cmp division_key nat_cmp_total exact_unsigned r.divisions v.number y f) ∙ e) apart),
  )

  call_absent : row_at pair_cmp call_key (own d r).calls (new.position, new.serial) ≡ None
  unfolding kept_call
  call_absent =
      none_own pair_cmp call_key pairs_total (owns_call d) r.calls (new.position, new.serial) w.order.calls
      (λ y f. let both : None ≡ Some y = sym fresh ∙ f in cc)

  taken_leaves : (i : Option Incident) (v : Option Division) → link_target h new.place new.at r ≡ i
      → last_number h r ≡ v → LeavesShare d h r w apart (call_taken h new i v)
  taken_leaves (Some i) v e f =
      (incident_foreign d h r w apart (with_call new i) (target_is i e), ((apart, call_absent), tt))
  taken_leaves None None e f = tt
  taken_leaves None (Some v) e f = refuse_leaves d h r w apart (nat_le number_limit v.last_incident) _ _ (
    division_foreign (record v { last_incident = v.last_incident + 1 }) (number_is v f),
    (incident_foreign d h r w apart (new_incident h (v.last_incident + 1) new) refl, ((apart, call_absent), tt)),
  )

  call_leaves : own d (apply r (changes_of (call_in h new r))) ≡ own d r
  unfolding call_in
  call_leaves =
      own_foreign d r (changes_of (call_in h new r)) w.order
      (taken_leaves (link_target h new.place new.at r) (last_number h r) refl refl)

-- ---- by the rows that it reads
module _ (d : ℕ) (r : Room) (order : IsInOrder r) (f : CallForm) (at : ℕ) where
  near_reads : (i : Incident) → nat_le (distance i.place f.place) link_metres
      && nat_le (age at i.opened) link_seconds ≡ true → reads_incident (ask.Call f) at i ≡ true
  near_reads i e =
      both_true _ _ (right_true (nat_le (distance i.place f.place) link_metres) _ e)
      (near_around i.place f.place (left_true _ _ e))

  target_read : link_target d f.place at (working d (ask.Call f) at r) ≡ link_target d f.place at r
  unfolding link_target
  target_read =
      ap (least (is_nearer f.place)) (filter_filter (is_candidate d f.place at)
      (λ i. i.division == d && reads_incident (ask.Call f) at i) r.incidents
      (λ i e.
      both_true _ _ (left_true _ _ e)
      (near_reads i (right_true (is_active i.state) _ (right_true (i.division == d) _ e)))))

  number_read : last_number d (working d (ask.Call f) at r) ≡ last_number d r
  unfolding last_number
  number_read =
      row_filter nat_cmp division_key nat_cmp_total (λ x. owns_division d x && reads_division (ask.Call f)) r.divisions
      d order.divisions
      ∙ keep_row nat_cmp division_key (λ x. owns_division d x && reads_division (ask.Call f)) r.divisions d
      (λ x h. both_true _ _ (eq-eqb x.number d (sym (exact_unsigned d x.number (is_equal _ h)))) refl)

  kept_read : (p s : ℕ) → kept_call p s r ≡ None
      → kept_call p s (working d (ask.Call f) at r) ≡ None
  unfolding kept_call
  kept_read p s e =
      row_filter pair_cmp call_key pairs_total _ r.calls (p, s) order.calls
      ∙ ap (keep (λ c. c.division == d && (reads_calls (ask.Call f) && reads_number d (ask.Call f) r c.incident))) e

  call_in_read : (p : ℕ) → call_in d (new_call p f at) (working d (ask.Call f) at r)
      ≡ call_in d (new_call p f at) r
  unfolding call_in
  call_in_read p i = call_taken d (new_call p f at) (target_read i) (number_read i)

-- ---- wherever it is placed
module _ (d : ℕ) (r : Room) (w : IsWellFormed r) (p : ℕ) (f : CallForm) (at : ℕ) where
  abbrev taken : Event
  taken = record { who = Position p; ask = ask.Call f; at = at }

  abbrev call : NewCall
  call = new_call p f at

  kept_own : kept_call p f.serial r ≡ None → kept_call p f.serial (own d r) ≡ None
  unfolding kept_call
  kept_own e =
      row_filter pair_cmp call_key pairs_total (owns_call d) r.calls (p, f.serial) w.order.calls
      ∙ ap (keep (owns_call d)) e

  -- a call that is not kept is decided in its division
  new_taken : (s : Room) (h : ℕ) → kept_call p f.serial s ≡ None
      → division_of s.plan f.place ≡ Some h → take_call call s ≡ call_in h call s
  new_taken s h k e = ap (λ q. call_kept q call s) k ∙ ap (λ q. call_somewhere q call s) e

  pub call_by_share : kept_call p f.serial r ≡ None → division_of r.plan f.place ≡ Some d
      → take_call call (own d r) ≡ take_call call r
  call_by_share k e = new_taken (own d r) d (kept_own k) e ∙ call_own d r w.order call ∙ sym (new_taken r d k e)

  pub call_by_working : kept_call p f.serial r ≡ None → division_of r.plan f.place ≡ Some d
      → take_call call (working d (ask.Call f) at r) ≡ take_call call r
  call_by_working k e =
      new_taken (working d (ask.Call f) at r) d (kept_read d r w.order f at p f.serial k) e
      ∙ call_in_read d r w.order f at p ∙ sym (new_taken r d k e)

  placed : (o : Option ℕ) → kept_call p f.serial r ≡ None → division_of r.plan f.place ≡ o
      → own d (apply r (changes_of (call_somewhere o call r)))
      ≡ share_by d (own d r) (cond (is_division_of d o) (Some (CallIn taken)) None)
  placed None k e = refl
  placed (Some h) k e =
      (elim (h
      == d) as (λ (b : Bool).
      h == d ≡ b
      → own d (apply r (changes_of (call_in h call r))) ≡ share_by d (own d r) (cond b (Some (CallIn taken)) None)) [
        | true ↦
            λ same.
            own_apply_own d r (changes_of (call_in h call r)) w.order
            (all_plain (changes_of (call_in h call r)) (call_in_all r IsPlain (plain_allowed r) h call k e))
            ∙ ap (λ x. own d (apply (own d r) (changes_of x)))
            (sym (call_by_share k (e ∙ ap Some (eqb-true h d same)) ∙ new_taken r h k e))
        | false ↦ λ other. call_leaves d h r w other call k
      ]) refl

  -- a kept call is answered again
  answered_again : (k : Call) → own d (apply r (changes_of (call_kept (Some k) call r))) ≡ own d r
  answered_again k = by_refuse (λ x. own d (apply r (changes_of x)) ≡ own d r) _ _ _ refl (λ e. refl)

  call_event : (o : Option Call) → kept_call p f.serial r ≡ o
      → own d (apply r (changes_of (call_kept o call r)))
      ≡ share_by d (own d r) (cross_call d taken f o r)
  call_event None e = placed (division_of r.plan f.place) e refl
  call_event (Some k) e = answered_again k

  answers_call : (o : Option Call) → answers_by (own d r) (cross_call d taken f o r) ≡ []
  answers_call (Some k) = refl
  answers_call None =
      (elim (is_division_of d
      (division_of r.plan f.place)) as (λ (b : Bool). answers_by (own d r) (cond b (Some (CallIn taken)) None) ≡ [])
      [ true ↦ refl | false ↦ refl ])

-- in two rooms with equal shares a call that neither has kept is decided alike
pub call_equal : (d p : ℕ) (f : CallForm) (at : ℕ) (r s : Room) → IsWellFormed r → IsWellFormed s
    → own d r ≡ own d s → kept_call p f.serial r ≡ None → kept_call p f.serial s ≡ None
    → division_of r.plan f.place ≡ Some d → take_call (new_call p f at) r ≡ take_call (new_call p f at) s
call_equal d p f at r s w v same none nor placed =
    sym (call_by_share d r w p f at none placed) ∙ ap (take_call (new_call p f at)) same
    ∙ call_by_share d s v p f at nor (sym (ap (λ x. division_of x.plan f.place) same) ∙ placed)

module _ (d : ℕ) (r : Room) (w : IsWellFormed r) (p : ℕ) (at : ℕ) where
  abbrev sent : Ask → Event
  sent a = record { who = Position p; ask = a; at = at }

  pub position_event : (a : Ask) → own d (apply r (changes_of (position_asks p a at r)))
      ≡ share_by d (own d r) (cross_position d p (sent a) a r)
  position_event (ask.Call f) = call_event d r w p f at (kept_call p f.serial r) refl
  position_event a = refl

  pub answers_position : (a : Ask) → answers_by (own d r) (cross_position d p (sent a) a r) ≡ []
  answers_position (ask.Call f) = answers_call d r w p f at (kept_call p f.serial r)
  answers_position a = refl
