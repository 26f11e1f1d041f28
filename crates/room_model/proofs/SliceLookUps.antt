-- What the machine asks of a slice's rows is found at their keys.
use Rattle.std.proofs.Common.{Bool, List, None, Option, Some, [], ap, cond, false, inl, inr, le-leb}
use Rattle.std.proofs.Common.{refl, subst, sym, true, ℕ, ◌∙◌, ◌∷◌, ◌≡◌, ◌≤◌}
use Rattle.std.proofs.lemmas.Cmp.{tied_itself}
use Rattle.std.specs.List.{list_all}
use Rattle.std.specs.Ordering.{is_eq}
use Rattle.std.specs.declared.cmp.Ordering.{Ordering}
use Rattle.std.specs.Prelude.{IfSome, filter, is_none, nat_le, ◌&&◌, ◌==◌}
use Rattle.room_place.specs.Choice.{Among, first}
use Rattle.room_place.specs.declared.plans.Area.{Area}
use Rattle.room_types.proofs.EachRow.{at_each_key, row_key}
use Rattle.room_types.proofs.SentLaws.{itself}
use Rattle.room_types.proofs.ShareLaws.{share_agrees}
use Rattle.room_types.specs.KeyedRows.{IsKeyed, keep, row_at}
use Rattle.room_types.specs.Keys.{assignment_key, callsign_cmp, numbered_cmp, owns_assignment}
use Rattle.room_types.specs.Keys.{owns_turn, owns_vehicle, same_callsign, turn_key, vehicle_key}
use Rattle.room_types.specs.KeyLemmas.{callsigns_total, exact_callsigns, exact_numbered}
use Rattle.room_types.specs.KeyLemmas.{numbered_total}
use Rattle.room_types.specs.Slices.{IsInTurn, IsShare, TurnAgrees, assignment_at, is_share, turn_at}
use Rattle.room_types.specs.Slices.{vehicle_at}
use Rattle.room_types.specs.Slices as slice
use Rattle.room_types.specs.Texts.{Callsign}
use Rattle.room_types.specs.declared.slices.DivisionRows.{DivisionRows}
use Rattle.room_types.specs.declared.tables.Turn.{Turn}
use Rattle.room_types.specs.declared.tables.Vehicle.{Vehicle}
use Rattle.room_model.proofs.SliceLaws.{is_open}
use Rattle.room_model.proofs.Tests.{both_true, is_equal, left_true, none_of, right_true, row_among}
use Rattle.room_model.specs.Queries.{all_held, assignment_of, held, loans_of, offers_of, open_turn}
use Rattle.room_model.specs.Queries.{points_of}
use Rattle.room_model.specs.RoomSlices.{room_of}

-- ---- rows that all pass
keep_passing : {X : Type 0} (p : X → Bool) (o : Option X) → IfSome o (λ x. p x ≡ true)
    → keep p o ≡ o
keep_passing p None h = refl
keep_passing p (Some x) h = rw h refl

filter_passing : {X : Type 0} (p : X → Bool) (xs : List X) → list_all p xs ≡ true → filter p xs ≡ xs
filter_passing p [] h = refl
filter_passing p (x ∷ xs) h = rw (left_true (p x) _ h) (ap (λ ys. x ∷ ys) (filter_passing p xs (right_true (p x) _ h)))

-- ---- the one row that passes
among_rest : {X : Type 0} (q : X → Bool) (x y : X) (xs : List X) → Among y (x ∷ xs) → q y ≡ true
    → q x ≡ false → Among y xs
among_rest q x y xs a passes fails = elim a [
  | inl e ↦ let same = ap q e in absurd (cc)
  | inr b ↦ b
]

first_passing : {X : Type 0} (q : X → Bool) (xs : List X) (o : Option X)
    → ((x : X) → Among x xs → q x ≡ true → o ≡ Some x)
    → ((x : X) → o ≡ Some x → Among x xs × (q x ≡ true)) → first (filter q xs) ≡ o
first_passing q [] None only there = refl
first_passing q [] (Some x) only there = absurd (there x refl).0
first_passing q (x ∷ xs) o only there =
    (elim (q x) as (λ (b : Bool). q x ≡ b → first (cond b (x ∷ filter q xs) (filter q xs)) ≡ o) [
      | true ↦ λ e. sym (only x (inl refl) e)
      | false ↦
          λ e.
          first_passing q xs o (λ y a. only y (inr a))
          (λ y f. let found = there y f in (among_rest q x y xs found.0 found.1 e, found.1))
    ]) refl

found_among : {X K : Type 0} (cmp : K → K → Ordering) (key : X → K) (xs : List X) (k : K) (x : X)
    → row_at cmp key xs k ≡ Some x → Among x xs
found_among cmp key [] k x e = cc
found_among cmp key (y ∷ xs) k x e =
    (elim (is_eq (cmp k (key y))) as (λ (b : Bool). cond b (Some y) (row_at cmp key xs k) ≡ Some x → Among x (y ∷ xs)) [
      | true ↦ λ f. let same : x ≡ y = cc in inl same
      | false ↦ λ f. inr (found_among cmp key xs k x f)
    ]) e

kept_some : {X : Type 0} (p : X → Bool) (o : Option X) (x : X) → keep p o ≡ Some x
    → (o ≡ Some x) × (p x ≡ true)
kept_some p None x e = cc
kept_some p (Some y) x e =
    (elim (p y) as (λ (b : Bool). p y ≡ b → cond b (Some y) None ≡ Some x → (Some y ≡ Some x) × (p x ≡ true)) [
      | true ↦ λ q f. let same : y ≡ x = cc in (f, subst (λ z. p z ≡ true) same q)
      | false ↦ λ q f. cc
    ]) refl e

guarded_some : {X : Type 0} (b : Bool) (o : Option X) (x : X) → cond b o None ≡ Some x → o ≡ Some x
guarded_some true o x e = e
guarded_some false o x e = cc

module _ (d : ℕ) (plan : List Area) (s : DivisionRows) (agrees : is_share d s ≡ true) where
  share : IsShare d s
  share = share_agrees d s agrees

  pub held_is : (c : Callsign) → held d c (room_of plan s) ≡ vehicle_at c s
  unfolding held
  held_is c =
      keep_passing (owns_vehicle d) (vehicle_at c s) (at_each_key callsign_cmp vehicle_key callsigns_total
      exact_callsigns (owns_vehicle d) (λ k v. owns_vehicle d v ≡ true) (λ v. itself _) s.vehicles share.owned.vehicles
      c)

  pub assignment_is : (c : Callsign) → assignment_of d c (room_of plan s) ≡ assignment_at c s
  unfolding assignment_of
  assignment_is c =
      keep_passing (owns_assignment d) (assignment_at c s) (at_each_key callsign_cmp assignment_key callsigns_total
      exact_callsigns (owns_assignment d) (λ k a. owns_assignment d a ≡ true) (λ a. itself _) s.assignments
      share.owned.assignments c)

  pub all_held_is : all_held d (room_of plan s) ≡ s.vehicles
  unfolding all_held
  all_held_is = filter_passing _ s.vehicles share.owned.vehicles

  pub points_is : points_of d (room_of plan s) ≡ s.points
  unfolding points_of
  points_is = filter_passing _ s.points share.owned.points

  pub loans_is : loans_of d (room_of plan s) ≡ s.loans
  unfolding loans_of
  loans_is = filter_passing _ s.loans share.owned.loans

  pub offers_is : offers_of d (room_of plan s) ≡ s.offers
  unfolding offers_of
  offers_is = filter_passing _ s.offers share.owned.offers

  -- ---- the open turn
  module _ (c : Callsign) (v : Vehicle) (there : vehicle_at c s ≡ Some v)
      (in_order : IsKeyed numbered_cmp turn_key s.turns) where
    abbrev is_open_of : Turn → Bool
    is_open_of t = t.division == d && (same_callsign t.callsign c && is_none t.ended)

    named : v.callsign ≡ c
    named =
        subst (λ o. IfSome o (λ x. x.callsign ≡ c)) there
        (row_key callsign_cmp vehicle_key callsigns_total exact_callsigns s.vehicles c)

    last_one : (t : Turn) → TurnAgrees s c t → t.ended ≡ None
        → (1 ≤ t.order) × (t.order ≡ v.last_order)
    last_one t h ended = let in_turn : IsInTurn t (Some v) = subst (IsInTurn t) there h.1 in (h.0, in_turn.1 ended)

    open_only : (t : Turn) → Among t s.turns → is_open_of t ≡ true → slice.open_turn v s ≡ Some t
    open_only t among passes =
        let mine = right_true (t.division == d) _ passes in
        let called : t.callsign ≡ c = exact_callsigns t.callsign c (is_equal _ (left_true _ _ mine)) in
        let unended : is_none t.ended ≡ true = right_true (same_callsign t.callsign c) _ mine in
        let found : turn_at c t.order s
        ≡ Some t =
        subst (λ k. turn_at k t.order s ≡ Some t) called
        (row_among numbered_cmp turn_key numbered_total s.turns t in_order among) in
        let last = last_one t (subst (λ o. IfSome o (TurnAgrees s c)) found (share.turns c t.order))
        (none_of t.ended unended) in
        let here : turn_at v.callsign v.last_order s
        ≡ Some t = ap (λ k. turn_at k v.last_order s) named ∙ subst (λ n. turn_at c n s ≡ Some t) last.1 found in
        ap (λ b. cond b (keep is_open (turn_at v.callsign v.last_order s)) None)
        (le-leb 1 v.last_order (subst (λ n. 1 ≤ n) last.1 last.0))
        ∙ (ap (keep is_open) here ∙ ap (λ b. cond b (Some t) None) unended)

    open_there : (t : Turn) → slice.open_turn v s ≡ Some t → Among t s.turns × (is_open_of t ≡ true)
    open_there t e =
        let found = kept_some is_open (turn_at v.callsign v.last_order s) t
        (guarded_some (nat_le 1 v.last_order) _ t e) in
        let key : turn_key t
        ≡ (v.callsign, v.last_order) =
        subst (λ o. IfSome o (λ x. turn_key x ≡ (v.callsign, v.last_order))) found.0
        (row_key numbered_cmp turn_key numbered_total exact_numbered s.turns (v.callsign, v.last_order)) in
        let called : c ≡ t.callsign = sym (ap (λ (k : Callsign × ℕ). k.0) key ∙ named) in
        let owned : t.division == d
        ≡ true =
        subst (λ o. IfSome o (λ x. owns_turn d x ≡ true)) found.0
        (at_each_key numbered_cmp turn_key numbered_total exact_numbered (owns_turn d) (λ k x. owns_turn d x ≡ true)
        (λ x. itself _) s.turns share.owned.turns (v.callsign, v.last_order)) in (
          found_among numbered_cmp turn_key s.turns (v.callsign, v.last_order) t found.0,
          both_true _ _ owned
              (both_true _ _ (subst (λ k. same_callsign k c ≡ true) called (ap is_eq (tied_itself callsigns_total c)))
              found.1),
        )

    pub open_turn_is : open_turn d c (room_of plan s) ≡ slice.open_turn v s
    unfolding open_turn
    open_turn_is = first_passing is_open_of s.turns (slice.open_turn v s) open_only open_there
