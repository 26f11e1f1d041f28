-- The candidates round an incident, and those of both marks together.
use Rattle.std.proofs.Common.{ap, arith, inl, inr, refl, subst, sym, ℕ, ◌+◌, ◌++◌, ◌-◌, ◌∙◌, ◌∷◌}
use Rattle.std.proofs.Common.{◌≡◌, ◌⊎◌, Bool, List, None, [], cond, false, length, length-append}
use Rattle.std.proofs.Common.{map, suc, true}
use Rattle.std.proofs.lemmas.Cmp.{nat_cmp_total, on_total, then_total}
use Rattle.std.specs.Cmp.{IsTotalOrder, bool_cmp_total}
use Rattle.std.specs.Ordering.{bool_cmp, is_lt, nat_cmp, ordering_reverse, ordering_then}
use Rattle.std.specs.Prelude.{filter, not}
use Rattle.std.specs.declared.cmp.Ordering.TheVariants.{Equal, Greater, Less}
use Rattle.std.specs.declared.cmp.Ordering.{Ordering}
use Rattle.room_place.specs.Choice.{Among, AreFirst}
use Rattle.room_types.proofs.KeyedLaws.{keyed_filter}
use Rattle.room_types.specs.Codes.{same_kind}
use Rattle.room_types.specs.KeyedRows.{IsBelowAll, IsKeyed}
use Rattle.room_types.specs.Keys.{callsign_cmp, vehicle_key}
use Rattle.room_types.specs.KeyLemmas.{callsigns_total}
use Rattle.room_types.specs.Texts.{Callsign}
use Rattle.room_types.specs.declared.answers.Proposal.{Proposal}
use Rattle.room_types.specs.declared.codes.Kind.TheVariants.{Ambulance, Car, Support}
use Rattle.room_types.specs.declared.codes.Kind.{Kind}
use Rattle.room_types.specs.declared.tables.Incident.{Incident}
use Rattle.room_types.specs.declared.tables.Vehicle.{Vehicle}
use Rattle.room_model.proofs.ProposalLaws.{one_proposed, proposed_first}
use Rattle.room_model.proofs.Tests.{among_filter, right_true}
use Rattle.room_model.specs.Incidents.{lacking}
use Rattle.room_model.specs.Proposals.{candidates, is_before, proposal_cmp, proposal_of, proposed}
use Rattle.room_model.specs.Queries.{is_eligible}
use Rattle.room_model.specs.Room.{IsInOrder, Room}
use Rattle.room_alloc.specs.Rings.{AreApart, AreOfKind, ArePlaced, IsPlaced, candidate_of}
use Rattle.room_alloc.specs.Rings.{candidates_round, is_breaking, is_candidate, proposal_at}
use Rattle.room_alloc.specs.declared.nearness.Candidate.{Candidate}
use Rattle.room_alloc.proofs.FirstLaws.{among_either, among_left, among_right, first_then}
use Rattle.room_alloc.proofs.FirstLaws.{same_first}

-- ---- what holds of all candidates
pub placed_more : (i : Incident) (xs : List Candidate) (x : Candidate) → ArePlaced i xs
    → IsPlaced i x → ArePlaced i (xs ++ x ∷ [])
placed_more i xs x f h c among = elim (among_either xs (x ∷ []) c among) [
  | inl g ↦ f c g
  | inr g ↦ elim g [ inl e ↦ subst (IsPlaced i) (sym e) h | inr none ↦ absurd none ]
]

alike : (a b : Kind) → same_kind a b ≡ true → a ≡ b
alike Ambulance Ambulance e = refl
alike Ambulance Car e = cc
alike Ambulance Support e = cc
alike Car Ambulance e = cc
alike Car Car e = refl
alike Car Support e = cc
alike Support Ambulance e = cc
alike Support Car e = cc
alike Support Support e = refl

module _ (d : ℕ) (i : Incident) (k : Kind) (at : ℕ) (r : Room) where
  of_kind : (vs : List Vehicle) → ((v : Vehicle) → Among v vs → v.kind ≡ k)
      → AreOfKind k (map (candidate_of d i at r) vs)
  of_kind [] f c h = absurd h
  of_kind (v ∷ vs) f c h =
      elim h [
        | inl e ↦ ap (λ (x : Candidate). x.vehicle.kind) e ∙ f v (inl refl)
        | inr g ↦ of_kind vs (λ u a. f u (inr a)) c g
      ]

  pub are_of_kind : (vs : List Vehicle) (xs : List Candidate)
      → xs ≡ candidates_round d i k at r vs → AreOfKind k xs
  are_of_kind vs xs e =
      subst (AreOfKind k) (sym e) (of_kind (filter (is_candidate d at k) vs)
      (λ v a.
      alike v.kind k
      (right_true (is_eligible d at v) (same_kind v.kind k) (among_filter (is_candidate d at k) vs v a).1)))

  below : (c : Callsign) (vs : List Vehicle) → IsBelowAll callsign_cmp vehicle_key c vs
      → IsBelowAll callsign_cmp (λ (x : Candidate). x.vehicle.callsign) c
      (map (candidate_of d i at r) vs)
  below c [] h = tt
  below c (v ∷ vs) h = (h.0, below c vs h.1)

  keyed : (vs : List Vehicle) → IsKeyed callsign_cmp vehicle_key vs
      → AreApart (map (candidate_of d i at r) vs)
  keyed [] h = tt
  keyed (v ∷ vs) h = (below v.callsign vs h.0, keyed vs h.1)

  pub are_apart : (vs : List Vehicle) (xs : List Candidate) → IsKeyed callsign_cmp vehicle_key vs
      → xs ≡ candidates_round d i k at r vs → AreApart xs
  are_apart vs xs h e =
      subst AreApart (sym e) (keyed (filter (is_candidate d at k) vs)
      (keyed_filter callsign_cmp vehicle_key callsigns_total (is_candidate d at k) vs h))

  as_proposed : (vs : List Vehicle)
      → map (proposal_at i) (map (candidate_of d i at r) vs) ≡ map (proposal_of d i at r) vs
  as_proposed [] = refl
  as_proposed (v ∷ vs) = ap (λ ps. proposal_of d i at r v ∷ ps) (as_proposed vs)

  -- the first few of the candidates are what is proposed, and that is one list
  pub proposed_so : (n : ℕ) (xs : List Candidate) (few : List Proposal) → IsInOrder r
      → n ≡ lacking d i r k → xs ≡ candidates_round d i k at r r.vehicles
      → AreFirst is_before n None (map (proposal_at i) xs) few → few ≡ proposed d i at r k
  unfolding candidates
  proposed_so n xs few order count all first =
      let these : map (proposal_at i) xs
      ≡ candidates d i k at r =
      ap (λ ys. map (proposal_at i) ys) all ∙ as_proposed (filter (is_candidate d at k) r.vehicles) in
      one_proposed d i at r k few (proposed d i at r k)
      (subst (λ m. AreFirst is_before m None (candidates d i k at r) few) count
      (subst (λ ps. AreFirst is_before n None ps few) these first))
      (proposed_first d i at r k order)

-- ---- those that don't break cover, and then the others
proposals_total : IsTotalOrder proposal_cmp
proposals_total =
    then_total (on_total (λ (p : Proposal). p.breaks) bool_cmp_total)
    (then_total (on_total (λ (p : Proposal). p.distance) nat_cmp_total)
    (on_total (λ (p : Proposal). p.callsign) callsigns_total))

less : (o : Ordering) → is_lt o ≡ true → o ≡ Less
less Less e = refl
less Equal e = cc
less Greater e = cc

apart : (x y : Proposal) → is_before x y ≡ true → is_before y x ≡ true → ⊥
apart x y e f =
    let turned : proposal_cmp y x ≡ Greater = proposals_total.antisymm y x ∙ ap ordering_reverse (less _ e) in
    let no = ap is_lt turned in cc

steps : (x y z : Proposal) → is_before x y ≡ true → is_before y z ≡ true → is_before x z ≡ true
steps x y z e f = ap is_lt (proposals_total.trans x y z (less _ e) (less _ f))

covered_first : (x y : Proposal) → x.breaks ≡ false → y.breaks ≡ true → is_before x y ≡ true
covered_first x y e f =
    ap (λ c.
    is_lt (ordering_then (bool_cmp c y.breaks)
    (ordering_then (nat_cmp x.distance y.distance) (callsign_cmp x.callsign y.callsign)))) e
    ∙ ap (λ c.
    is_lt (ordering_then (bool_cmp false c)
    (ordering_then (nat_cmp x.distance y.distance) (callsign_cmp x.callsign y.callsign)))) f

module _ (i : Incident) where
  abbrev images : Bool → List Candidate → List Proposal
  images b xs = map (proposal_at i) (filter (is_breaking b) xs)

  -- the proposals of a mark, of one candidate more
  module _ (x : Candidate) (us ws : List Candidate) where
    all_keeping : (b : Bool) (y : Proposal) → (Among y (map (proposal_at i) us) → y.breaks ≡ false)
        → x.breaks ≡ b → Among y (map (proposal_at i) (cond (not b) (x ∷ us) us)) → y.breaks ≡ false
    all_keeping true y f e h = f h
    all_keeping false y f e h = elim h [ inl g ↦ ap (λ (p : Proposal). p.breaks) g ∙ e | inr g ↦ f g ]

    all_breaking : (b : Bool) (y : Proposal) → (Among y (map (proposal_at i) ws) → y.breaks ≡ true)
        → x.breaks ≡ b → Among y (map (proposal_at i) (cond b (x ∷ ws) ws)) → y.breaks ≡ true
    all_breaking false y f e h = f h
    all_breaking true y f e h = elim h [ inl g ↦ ap (λ (p : Proposal). p.breaks) g ∙ e | inr g ↦ f g ]

    one_of_both : (b : Bool) (y : Proposal)
        → Among y (map (proposal_at i) us) ⊎ Among y (map (proposal_at i) ws)
        → Among y (map (proposal_at i) (cond (not b) (x ∷ us) us))
        ⊎ Among y (map (proposal_at i) (cond b (x ∷ ws) ws))
    one_of_both true y h = elim h [ inl g ↦ inl g | inr g ↦ inr (inr g) ]
    one_of_both false y h = elim h [ inl g ↦ inl (inr g) | inr g ↦ inr g ]

    itself : (b : Bool) → Among (proposal_at i x) (map (proposal_at i) (cond (not b) (x ∷ us) us))
        ⊎ Among (proposal_at i x) (map (proposal_at i) (cond b (x ∷ ws) ws))
    itself true = inr (inl refl)
    itself false = inl (inl refl)

    both_count : (b : Bool) (n : ℕ) → length (map (proposal_at i) us) + length
        (map (proposal_at i) ws) ≡ n → length
        (map (proposal_at i) (cond (not b) (x ∷ us) us)) + length
        (map (proposal_at i) (cond b (x ∷ ws) ws)) ≡ suc n
    both_count true n e = omega (arith, e)
    both_count false n e = omega (arith, e)

  keeping : (xs : List Candidate) (y : Proposal) → Among y (images false xs) → y.breaks ≡ false
  keeping [] y h = absurd h
  keeping (x ∷ xs) y h =
      all_keeping x (filter (is_breaking false) xs) (filter (is_breaking true) xs) x.breaks y (keeping xs y) refl h

  breaking : (xs : List Candidate) (y : Proposal) → Among y (images true xs) → y.breaks ≡ true
  breaking [] y h = absurd h
  breaking (x ∷ xs) y h =
      all_breaking x (filter (is_breaking false) xs) (filter (is_breaking true) xs) x.breaks y (breaking xs y) refl h

  either : (xs : List Candidate) (y : Proposal) → Among y (map (proposal_at i) xs)
      → Among y (images false xs) ⊎ Among y (images true xs)
  either [] y h = absurd h
  either (x ∷ xs) y h = elim h [
    | inl e ↦
        subst (λ z. Among z (images false (x ∷ xs)) ⊎ Among z (images true (x ∷ xs))) (sym e)
        (itself x (filter (is_breaking false) xs) (filter (is_breaking true) xs) x.breaks)
    | inr g ↦ one_of_both x (filter (is_breaking false) xs) (filter (is_breaking true) xs) x.breaks y (either xs y g)
  ]

  images_among : (b : Bool) (xs : List Candidate) (y : Proposal) → Among y (images b xs)
      → Among y (map (proposal_at i) xs)
  images_among b [] y h = absurd h
  images_among b (x ∷ xs) y h =
      (elim (is_breaking b x) as (λ (m : Bool).
      Among y (map (proposal_at i) (cond m (x ∷ filter (is_breaking b) xs) (filter (is_breaking b) xs)))
      → Among y (map (proposal_at i) (x ∷ xs))) [
        | true ↦ λ g. elim g [ inl e ↦ inl e | inr f ↦ inr (images_among b xs y f) ]
        | false ↦ λ g. inr (images_among b xs y g)
      ]) h

  count_both : (xs : List Candidate)
      → length (images false xs) + length (images true xs) ≡ length (map (proposal_at i) xs)
  count_both [] = refl
  count_both (x ∷ xs) =
      both_count x (filter (is_breaking false) xs) (filter (is_breaking true) xs) x.breaks
      (length (map (proposal_at i) xs))
      (count_both xs)

  -- the first few that don't break cover, and then as many of the others as are left
  pub first_of_both : (n : ℕ) (xs : List Candidate) (ps qs : List Proposal)
      → AreFirst is_before n None (images false xs) ps
      → AreFirst is_before (n - length ps) None (images true xs) qs
      → AreFirst is_before n None (map (proposal_at i) xs) (ps ++ qs)
  first_of_both n xs ps qs h g =
      same_first is_before apart steps n (images false xs ++ images true xs) (map (proposal_at i) xs) (ps ++ qs)
      (λ y a.
      elim (among_either (images false xs) (images true xs) y a)
      [ inl b ↦ images_among false xs y b | inr b ↦ images_among true xs y b ])
      (λ y a.
      elim (either xs y a) [
        | inl b ↦ among_left (images false xs) (images true xs) y b
        | inr b ↦ among_right (images false xs) (images true xs) y b
      ])
      (length-append (images false xs) (images true xs) ∙ count_both xs)
      (first_then is_before apart steps n (images false xs) (images true xs) ps qs
      (λ x y a b. covered_first x y (keeping xs x a) (breaking xs y b)) h g)
