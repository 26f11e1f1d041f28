-- What is proposed of a kind is one list, and there is one.
use Rattle.std.proofs.Common.{ap, inl, inr, subst, sym, ◌∙◌}
use Rattle.std.proofs.lemmas.Cmp.{nat_cmp_total, on_total, then_total}
use Rattle.std.proofs.lemmas.Map.Lookups.{CmpEqualImpliesEq, exact_pairs, exact_unsigned}
use Rattle.std.specs.Cmp.{IsTotalOrder, bool_cmp_total}
use Rattle.std.specs.Ordering.{bool_cmp, is_lt, nat_cmp, ordering_reverse, ordering_then}
use Rattle.std.specs.Prelude.{Bool, List, None, Option, Some, [], cond, false, filter, length, map}
use Rattle.std.specs.Prelude.{min, option_map, refl, suc, true, zero, ℕ, ◌&&◌, ◌∷◌, ◌≡◌}
use Rattle.std.specs.declared.cmp.Ordering.{Ordering}
use Rattle.std.specs.declared.cmp.Ordering.TheVariants.{Equal, Greater, Less}
use Rattle.room_place.proofs.Choices.{chosen_first}
use Rattle.room_place.specs.Choice.{Among, AreBefore, AreDistinct, AreFirst, IsRising, IsStrict}
use Rattle.room_place.specs.Choice.{chosen, comes_after, extend, least, least_from}
use Rattle.room_types.specs.Keys.{callsign_cmp, vehicle_key}
use Rattle.room_types.specs.KeyedRows.{IsBelowAll, IsKeyed}
use Rattle.room_types.specs.KeyLemmas.{callsigns_total, exact_callsigns}
use Rattle.room_types.specs.Texts.{Callsign}
use Rattle.room_types.specs.declared.answers.Proposal.{Proposal}
use Rattle.room_types.specs.declared.codes.Kind.{Kind}
use Rattle.room_types.specs.declared.codes.Kind.TheVariants.{Ambulance, Car, Support}
use Rattle.room_place.specs.Places.{distance}
use Rattle.room_model.specs.Points.{breaks_cover}
use Rattle.room_types.specs.declared.tables.Incident.{Incident}
use Rattle.room_types.specs.declared.tables.Vehicle.{Vehicle}
use Rattle.room_model.proofs.OneList.{one_first}
use Rattle.room_model.proofs.Tests.{among_filter, right_true}
use Rattle.room_types.proofs.KeyedLaws.{keyed_filter}
use Rattle.room_types.specs.Codes.{same_kind}
use Rattle.room_model.specs.Incidents.{lacking}
use Rattle.room_model.specs.Proposals.{AreProposed, candidates, eligible, is_before, proposal_cmp}
use Rattle.room_model.specs.Proposals.{proposal_of, proposed}
use Rattle.room_model.specs.Queries.{is_eligible}
use Rattle.room_model.specs.Room.{IsInOrder, Room}

-- ---- the order of proposals
proposals_total : IsTotalOrder proposal_cmp
proposals_total =
    then_total (on_total (λ (p : Proposal). p.breaks) bool_cmp_total)
    (then_total (on_total (λ (p : Proposal). p.distance) nat_cmp_total)
    (on_total (λ (p : Proposal). p.callsign) callsigns_total))

less : (o : Ordering) → is_lt o ≡ true → o ≡ Less
less Less e = refl
less Equal e = cc
less Greater e = cc

turned : (x y : Proposal) → is_before x y ≡ true → is_before y x ≡ false
turned x y e = ap is_lt (proposals_total.antisymm y x ∙ ap ordering_reverse (less _ e))

steps : (x y z : Proposal) → is_before x y ≡ true → is_before y z ≡ true → is_before x z ≡ true
steps x y z e f = ap is_lt (proposals_total.trans x y z (less _ e) (less _ f))

no_circle : (x y : Proposal) → is_before x y ≡ true → is_before y x ≡ true → ⊥
no_circle x y e f = let g = turned x y e in cc

pub one_proposed : (d : ℕ) (i : Incident) (at : ℕ) (r : Room) (k : Kind) (ps qs : List Proposal)
    → AreProposed d i at r k ps → AreProposed d i at r k qs → ps ≡ qs
one_proposed d i at r k ps qs h g =
    one_first is_before no_circle steps (lacking d i r k) None (candidates d i k at r) ps qs h g

-- ---- what is chosen among the images of a list
module _ {X Y : Type 0} (f : Y → X) (lt : X → X → Bool) where
  abbrev before : Y → Y → Bool
  before a b = lt (f a) (f b)

  filter_images : (p : X → Bool) (ys : List Y)
      → filter p (map f ys) ≡ map f (filter (λ y. p (f y)) ys)
  filter_images p [] = refl
  filter_images p (y ∷ ys) =
      (elim (p (f y)) as (λ (b : Bool).
      cond b (f y ∷ filter p (map f ys)) (filter p (map f ys))
      ≡ map f (cond b (y ∷ filter (λ z. p (f z)) ys) (filter (λ z. p (f z)) ys))) [
        | true ↦ ap (λ zs. f y ∷ zs) (filter_images p ys)
        | false ↦ filter_images p ys
      ])

  after_image : (last : Option Y) (ys : List Y)
      → filter (comes_after lt (option_map f last)) (map f ys)
      ≡ map f (filter (comes_after before last) ys)
  after_image None ys = filter_images (comes_after lt None) ys
  after_image (Some z) ys = filter_images (comes_after lt (Some (f z))) ys

  least_image : (o : Option Y) (ys : List Y)
      → least_from lt (option_map f o) (map f ys) ≡ option_map f (least_from before o ys)
  least_image o [] = refl
  least_image None (y ∷ ys) = least_image (Some y) ys
  least_image (Some z) (y ∷ ys) =
      (elim (lt (f y) (f z)) as (λ (b : Bool).
      least_from lt (cond b (Some (f y)) (Some (f z))) (map f ys)
      ≡ option_map f (least_from before (cond b (Some y) (Some z)) ys)) [
        | true ↦ least_image (Some y) ys
        | false ↦ least_image (Some z) ys
      ])

  chosen_images : (n : ℕ) (last : Option Y) (ys : List Y)
      → chosen lt n (option_map f last) (map f ys) ≡ map f (chosen before n last ys)
  chosen_images zero last ys = refl
  chosen_images (suc n) last ys =
      ap (λ o. extend o (λ x. chosen lt n (Some x) (map f ys)))
      (ap (least lt) (after_image last ys) ∙ least_image None (filter (comes_after before last) ys))
      ∙ (elim (least before (filter (comes_after before last)
      ys)) as (λ (o : Option Y).
      extend (option_map f o) (λ x. chosen lt n (Some x) (map f ys))
      ≡ map f (extend o (λ y. chosen before n (Some y) ys))) [
        | None ↦ refl
        | Some y ↦ ap (λ zs. f y ∷ zs) (chosen_images n (Some y) ys)
      ])

  same_count : (ys : List Y) → length (map f ys) ≡ length ys
  same_count [] = refl
  same_count (y ∷ ys) = ap suc (same_count ys)

  image_among : (y : Y) (ys : List Y) → Among y ys → Among (f y) (map f ys)
  image_among y [] h = absurd h
  image_among y (z ∷ ys) h = elim h [ inl e ↦ inl (ap f e) | inr k ↦ inr (image_among y ys k) ]

  among_images : (x : X) (ys : List Y) → Among x (map f ys) → (y : Y) × Among y ys × (x ≡ f y)
  among_images x [] h = absurd h
  among_images x (z ∷ ys) h =
      elim h [ inl e ↦ (z, inl refl, e) | inr k ↦ let g = among_images x ys k in (g.0, inr g.1, g.2) ]

  rising_images : (last : Option Y) (ps : List Y) → IsRising before last ps
      → IsRising lt (option_map f last) (map f ps)
  rising_images last [] h = tt
  rising_images None (p ∷ ps) h = (refl, rising_images (Some p) ps h.1)
  rising_images (Some z) (p ∷ ps) h = (h.0, rising_images (Some p) ps h.1)

  before_images : (ps : List Y) (y : Y) → AreBefore before ps y → AreBefore lt (map f ps) (f y)
  before_images [] y h = tt
  before_images (p ∷ ps) y h = (h.0, before_images ps y h.1)

  first_images : (n : ℕ) (ys ps : List Y) → AreFirst before n None ys ps
      → AreFirst lt n None (map f ys) (map f ps)
  first_images n ys ps h = record {
    count =
        same_count ps ∙ h.count
        ∙ ap (λ m. min n m) (sym (ap length (after_image None ys) ∙ same_count (filter (comes_after before None) ys)));
    members =
        λ x a.
        let g = among_images x ps a in
        (subst (λ z. Among z (map f ys)) (sym g.2) (image_among g.0 ys (h.members g.0 g.1).0), refl);
    rising = rising_images None ps h.rising;
    outside = λ x a e. let g = among_images x ys a in elim (h.outside g.0 g.1 refl) [
      | inl k ↦ inl (subst (λ z. Among z (map f ps)) (sym g.2) (image_among g.0 ps k))
      | inr k ↦ inr (subst (λ z. AreBefore lt (map f ps) z) (sym g.2) (before_images ps g.0 k))
    ];
  }

-- ---- proposals of one kind, which their order distinguishes
abbrev Mark : Type 0
Mark = Bool × (ℕ × Callsign)

abbrev of_kind : Kind → Mark → Proposal
of_kind k m = record { breaks = m.0; distance = m.1.0; kind = k; callsign = m.1.1 }

exact_bools : CmpEqualImpliesEq bool_cmp
exact_bools false false h = refl
exact_bools false true h = cc
exact_bools true false h = cc
exact_bools true true h = refl

neither : (o : Ordering) → is_lt o ≡ false → is_lt (ordering_reverse o) ≡ false → o ≡ Equal
neither Less e f = cc
neither Equal e f = refl
neither Greater e f = cc

marks_strict : (k : Kind) → IsStrict (before (of_kind k) is_before)
marks_strict k = record {
  apart = λ x y e. turned (of_kind k x) (of_kind k y) e;
  steps = λ x y z e f. steps (of_kind k x) (of_kind k y) (of_kind k z) e f;
  total = λ x y e f.
      exact_pairs bool_cmp (λ (x y : ℕ × Callsign). ordering_then (nat_cmp x.0 y.0) (callsign_cmp x.1 y.1)) exact_bools
      (exact_pairs nat_cmp callsign_cmp exact_unsigned exact_callsigns) x y
      (neither (proposal_cmp (of_kind k x) (of_kind k y)) e
      (ap is_lt (sym (proposals_total.antisymm (of_kind k y) (of_kind k x))) ∙ f));
}

alike : (a b : Kind) → same_kind a b ≡ true → a ≡ b
alike Ambulance Ambulance e = refl
alike Ambulance Car e = cc
alike Ambulance Support e = cc
alike Car Ambulance e = cc
alike Car Car e = refl
alike Car Support e = cc
alike Support Ambulance e = cc
alike Support Car e = cc
alike Support Support e = refl

module _ (d : ℕ) (i : Incident) (at : ℕ) (r : Room) (k : Kind) where
  abbrev mark : Vehicle → Mark
  mark v = (breaks_cover d at r v, (distance v.place i.place, v.callsign))

  as_marks : (vs : List Vehicle) → ((v : Vehicle) → Among v vs → v.kind ≡ k)
      → map (proposal_of d i at r) vs ≡ map (of_kind k) (map mark vs)
  as_marks [] g = refl
  as_marks (v ∷ vs) g =
      ap (λ (x : Kind). record (proposal_of d i at r v) { kind = x } ∷ map (proposal_of d i at r) vs) (g v (inl refl))
      ∙ ap (λ ps. of_kind k (mark v) ∷ ps) (as_marks vs (λ u a. g u (inr a)))

  not_below : (v : Vehicle) (vs : List Vehicle) → IsBelowAll callsign_cmp vehicle_key v.callsign vs
      → Among (mark v) (map mark vs) → ⊥
  not_below v [] h a = a
  not_below v (u ∷ vs) h a = elim a [
    | inl e ↦
        let same : v.callsign ≡ u.callsign = ap (λ (m : Mark). m.1.1) e in
        let tied = callsigns_total.antisymm u.callsign u.callsign in
        let below : callsign_cmp u.callsign u.callsign
        ≡ Less = subst (λ c. callsign_cmp c u.callsign ≡ Less) same h.0 in
        let back = ap ordering_reverse below in
        cc
    | inr b ↦ not_below v vs h.1 b
  ]

  distinct_marks : (vs : List Vehicle) → IsKeyed callsign_cmp vehicle_key vs
      → AreDistinct (map mark vs)
  distinct_marks [] h = tt
  distinct_marks (v ∷ vs) h = (not_below v vs h.0, distinct_marks vs h.1)

  -- the least of what is left, again and again, are the first
  pub proposed_first : IsInOrder r → AreProposed d i at r k (proposed d i at r k)
  unfolding candidates
  proposed_first order =
      let vs = eligible d k at r in
      let n = lacking d i r k in
      let same : candidates d i k at r
      ≡ map (of_kind k) (map mark vs) =
      as_marks vs
      (λ v a.
      alike v.kind k (right_true (is_eligible d at v) _
      (among_filter (λ v. is_eligible d at v && same_kind v.kind k) r.vehicles v a).1)) in
      let first = chosen_first (before (of_kind k) is_before) (marks_strict k) n None (map mark vs)
      (distinct_marks vs (keyed_filter callsign_cmp vehicle_key callsigns_total _ r.vehicles order.vehicles)) in
      subst (λ ps. AreFirst is_before n None ps (chosen is_before n None ps)) (sym same)
      (subst (λ ps. AreFirst is_before n None (map (of_kind k) (map mark vs)) ps)
      (sym (chosen_images (of_kind k) is_before n None (map mark vs)))
      (first_images (of_kind k) is_before n (map mark vs) _ first))
