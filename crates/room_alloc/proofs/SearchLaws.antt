-- A search by rings finds the first few.
use Rattle.std.proofs.Common.{ap, arith, inl, inr, refl, subst, sym, suc, take, zero, ℕ, ◌<◌, ◌∙◌}
use Rattle.std.proofs.Common.{◌∷◌, ◌≡◌, ◌≤◌, ◌⊎◌, Bool, List, None, Some, [], drop, false, length}
use Rattle.std.proofs.Common.{map, min, true}
use borrow.Author.Tests.{ltb-true}
use Rattle.std.proofs.lemmas.Bool.{cases_lt}
use Rattle.std.specs.Cmp.{nat_cmp_is}
use Rattle.std.specs.Ordering.{is_lt, ordering_reverse, ordering_then}
use Rattle.std.specs.Prelude.{filter, not}
use Rattle.std.specs.declared.cmp.Ordering.TheVariants.{Equal, Greater, Less}
use Rattle.std.specs.declared.cmp.Ordering.{Ordering}
use Rattle.room_model.proofs.Tests.{among_filter, map_among}
use Rattle.room_model.specs.Proposals.{is_before}
use Rattle.room_place.specs.Choice.{Among, AreBefore, AreDistinct, AreFirst, IsRising, comes_after}
use Rattle.room_place.specs.Choice.{first}
use Rattle.room_place.specs.Places.{ring_floor}
use Rattle.room_types.proofs.KeyedLaws.{keyed_filter}
use Rattle.room_types.specs.KeyedRows.{IsBelowAll, IsKeyed}
use Rattle.room_types.specs.Keys.{callsign_cmp}
use Rattle.room_types.specs.KeyLemmas.{callsigns_total}
use Rattle.room_types.specs.Texts.{Callsign}
use Rattle.room_types.specs.declared.codes.Kind.{Kind}
use Rattle.room_types.specs.declared.tables.Incident.{Incident}
use Rattle.room_alloc.specs.Nearness.{is_nearer, nearness_cmp, proposal_with, whole}
use Rattle.room_alloc.specs.NearnessLemmas.{nearness_total}
use Rattle.room_alloc.specs.Rings.{AreApart, AreOfKind, ArePlaced, IsSearched, is_below}
use Rattle.room_alloc.specs.Rings.{is_breaking, is_enough, nearness_of, proposal_at}
use Rattle.room_alloc.specs.declared.nearness.Candidate.{Candidate}
use Rattle.room_alloc.specs.declared.nearness.Nearness.{Nearness}
use Rattle.room_alloc.proofs.FirstLaws.{first_of_set}

-- ---- the order by nearness
less : (o : Ordering) → is_lt o ≡ true → o ≡ Less
less Less e = refl
less Equal e = cc
less Greater e = cc

apart : (x y : Nearness) → is_nearer x y ≡ true → is_nearer y x ≡ true → ⊥
apart x y e f =
    let turned : nearness_cmp y x ≡ Greater = nearness_total.antisymm y x ∙ ap ordering_reverse (less _ e) in
    let no = ap is_lt turned in cc

steps : (x y z : Nearness) → is_nearer x y ≡ true → is_nearer y z ≡ true → is_nearer x z ≡ true
steps x y z e f = ap is_lt (nearness_total.trans x y z (less _ e) (less _ f))

rising_after : (x : Nearness) (q : List Nearness) → IsBelowAll nearness_cmp whole x q
    → IsKeyed nearness_cmp whole q → IsRising is_nearer (Some x) q
rising_after x [] h g = tt
rising_after x (y ∷ q) h g = (ap is_lt h.0, rising_after y q g.0 g.1)

rising : (q : List Nearness) → IsKeyed nearness_cmp whole q → IsRising is_nearer None q
rising [] g = tt
rising (y ∷ q) g = (refl, rising_after y q g.0 g.1)

nearer : (x y : Nearness) → x.distance < y.distance → is_nearer x y ≡ true
nearer x y h =
    ap (λ o. is_lt (ordering_then o (callsign_cmp x.callsign y.callsign)))
    (sym (nat_cmp_is x.distance y.distance Less h))

-- ---- where the worst of the first few is nearer than the floor, each of them is before what is no nearer
kept_before : (n : ℕ) (q : List Nearness) (f : ℕ) (y : Nearness) → IsKeyed nearness_cmp whole q
    → f ≤ y.distance → is_below (first (drop n q)) f ≡ true
    → (suc n ≤ length q) × AreBefore is_nearer (take (suc n) q) y
kept_before zero [] f y h l t = cc
kept_before (suc n) [] f y h l t = cc
kept_before zero (x ∷ q) f y h l t = let near = ltb-true x.distance f t in (omega arith, (nearer x y (omega arith), tt))
kept_before (suc n) (x ∷ []) f y h l t = let rest = kept_before n [] f y tt l t in absurd (omega (arith, rest.0))
kept_before (suc n) (x ∷ (z ∷ q)) f y h l t =
    let rest = kept_before n (z ∷ q) f y h.1 l t in
    (omega (arith, rest.0), (steps x z y (ap is_lt h.0.0) rest.1.0, rest.1))

enough_before : (n k : ℕ) (q : List Nearness) (y : Nearness) → IsKeyed nearness_cmp whole q
    → ring_floor k ≤ y.distance → is_enough n k q ≡ true
    → (n ≤ length q) × AreBefore is_nearer (take n q) y
enough_before zero k q y h l t = (omega arith, tt)
enough_before (suc n) k q y h l t = kept_before n q (ring_floor k) y h l t

floors : (k r : ℕ) → k ≤ r → ring_floor k ≤ ring_floor r
floors zero r h = omega arith
floors (suc k) zero h = absurd (omega arith)
floors (suc k) (suc r) h = omega arith

-- ---- the candidates' nearnesses
record IsOf (i : Incident) (xs : List Candidate) (y : Nearness) : Type 0 where
  candidate : Candidate
  there : Among candidate xs
  same : y ≡ nearness_of i candidate

found_of : (i : Incident) (xs : List Candidate) (y : Nearness) → Among y (map (nearness_of i) xs)
    → IsOf i xs y
found_of i [] y h = absurd h
found_of i (x ∷ xs) y h =
    elim h [
      | inl e ↦ record { candidate = x; there = inl refl; same = e }
      | inr e ↦ let m = found_of i xs y e in record { candidate = m.candidate; there = inr m.there; same = m.same }
    ]

abbrev name_of : Candidate → Callsign
name_of c = c.vehicle.callsign

not_below : (i : Incident) (x : Candidate) (xs : List Candidate)
    → IsBelowAll callsign_cmp name_of x.vehicle.callsign xs
    → Among (nearness_of i x) (map (nearness_of i) xs) → ⊥
not_below i x [] h a = a
not_below i x (y ∷ ys) h a = elim a [
  | inl e ↦
      let same : x.vehicle.callsign ≡ y.vehicle.callsign = ap (λ (n : Nearness). n.callsign) e in
      let tied = callsigns_total.antisymm y.vehicle.callsign y.vehicle.callsign in
      let below : callsign_cmp y.vehicle.callsign y.vehicle.callsign
      ≡ Less = subst (λ c. callsign_cmp c y.vehicle.callsign ≡ Less) same h.0 in
      let back = ap ordering_reverse below in
      cc
  | inr b ↦ not_below i x ys h.1 b
]

distinct : (i : Incident) (xs : List Candidate) → AreApart xs → AreDistinct (map (nearness_of i) xs)
distinct i [] h = tt
distinct i (x ∷ xs) h = (not_below i x xs h.0, distinct i xs h.1)

search_first : (n : ℕ) (b : Bool) (i : Incident) (xs : List Candidate) (found : List Nearness)
    → ArePlaced i xs → AreApart xs → IsKeyed nearness_cmp whole found
    → IsSearched n i (filter (is_breaking b) xs) found
    → AreFirst is_nearer n None (map (nearness_of i) (filter (is_breaking b) xs)) (take n found)
search_first n b i xs found placed separate in_order s =
    let breaking = filter (is_breaking b) xs in
    let past = λ (y : Nearness) (h : Among y (map (nearness_of i) breaking)). let m = found_of i breaking y h in
    (elim (s.there m.candidate
    m.there) as (λ _. Among y found ⊎ ((n ≤ length found) × AreBefore is_nearer (take n found) y)) [
      | inl g ↦ inl (subst (λ z. Among z found) (sym m.same) g)
      | inr g ↦ inr (enough_before n g.ring found y in_order
          (let far = (placed m.candidate (among_filter (is_breaking b) xs m.candidate m.there).0).1 in
          let floor = floors g.ring m.candidate.ring g.later in
          let same = ap (λ (z : Nearness). z.distance) m.same in
          omega (arith, far, floor, same)) g.enough)
    ]) in
    first_of_set is_nearer apart steps n (map (nearness_of i) breaking) found
    (distinct i breaking (keyed_filter callsign_cmp name_of callsigns_total (is_breaking b) xs separate))
    (rising found in_order) s.only past (elim (cases_lt (length found) n) [
      | inl short ↦ inr (λ y h. elim (past y h) [ inl g ↦ g | inr g ↦ absurd (let le = g.0 in omega (arith, le)) ])
      | inr long ↦ inl long
    ])

-- ---- the first few of a list, and of its images in order
module _ {X Y : Type 0} (f : Y → X) (lt : X → X → Bool) (before : Y → Y → Bool)
    (alike : (x y : Y) → lt (f x) (f y) ≡ before x y) where
  all_after : {Z : Type 0} (below : Z → Z → Bool) (zs : List Z)
      → filter (comes_after below None) zs ≡ zs
  all_after below [] = refl
  all_after below (z ∷ zs) = ap (λ ys. z ∷ ys) (all_after below zs)

  same_count : (ys : List Y) → length (map f ys) ≡ length ys
  same_count [] = refl
  same_count (y ∷ ys) = ap suc (same_count ys)

  image_among : (y : Y) (ys : List Y) → Among y ys → Among (f y) (map f ys)
  image_among y [] h = absurd h
  image_among y (z ∷ ys) h = elim h [ inl e ↦ inl (ap f e) | inr k ↦ inr (image_among y ys k) ]

  among_images : (x : X) (ys : List Y) → Among x (map f ys) → (y : Y) × Among y ys × (x ≡ f y)
  among_images x [] h = absurd h
  among_images x (z ∷ ys) h =
      elim h [ inl e ↦ (z, inl refl, e) | inr k ↦ let g = among_images x ys k in (g.0, inr g.1, g.2) ]

  rising_images : (z : Y) (ps : List Y) → IsRising before (Some z) ps
      → IsRising lt (Some (f z)) (map f ps)
  rising_images z [] h = tt
  rising_images z (p ∷ ps) h = (alike z p ∙ h.0, rising_images p ps h.1)

  rising_all : (ps : List Y) → IsRising before None ps → IsRising lt None (map f ps)
  rising_all [] h = tt
  rising_all (p ∷ ps) h = (refl, rising_images p ps h.1)

  before_images : (ps : List Y) (y : Y) → AreBefore before ps y → AreBefore lt (map f ps) (f y)
  before_images [] y h = tt
  before_images (p ∷ ps) y h = (alike p y ∙ h.0, before_images ps y h.1)

  first_images : (n : ℕ) (ys ps : List Y) → AreFirst before n None ys ps
      → AreFirst lt n None (map f ys) (map f ps)
  first_images n ys ps h = record {
    count =
        same_count ps
        ∙ (h.count
        ∙ ap (λ m. min n m)
        (ap length (all_after before ys) ∙ (sym (same_count ys) ∙ ap length (sym (all_after lt (map f ys))))));
    members =
        λ x a.
        let g = among_images x ps a in
        (subst (λ z. Among z (map f ys)) (sym g.2) (image_among g.0 ys (h.members g.0 g.1).0), refl);
    rising = rising_all ps h.rising;
    outside = λ x a e. let g = among_images x ys a in elim (h.outside g.0 g.1 refl) [
      | inl k ↦ inl (subst (λ z. Among z (map f ps)) (sym g.2) (image_among g.0 ps k))
      | inr k ↦ inr (subst (λ z. AreBefore lt (map f ps) z) (sym g.2) (before_images ps g.0 k))
    ];
  }

-- ---- as proposals
by_nearness : (b : Bool) (k : Kind) (x y : Nearness)
    → is_before (proposal_with b k x) (proposal_with b k y) ≡ is_nearer x y
by_nearness true k x y = refl
by_nearness false k x y = refl

mark_of : (b : Bool) (c : Candidate) → is_breaking b c ≡ true → c.breaks ≡ b
mark_of true c e = e
mark_of false c e = falses c.breaks e
  where
    falses : (b : Bool) → not b ≡ true → b ≡ false
    falses true e = cc
    falses false e = refl

as_proposal : (b : Bool) (k : Kind) (i : Incident) (c : Candidate) → c.breaks ≡ b
    → c.vehicle.kind ≡ k → proposal_with b k (nearness_of i c) ≡ proposal_at i c
as_proposal b k i c e f =
    ap (λ (m : Bool). record (proposal_at i c) { breaks = m; kind = k }) (sym e)
    ∙ ap (λ (m : Kind). record (proposal_at i c) { kind = m }) (sym f)

map_map : {X Y Z : Type 0} (g : Y → Z) (f : X → Y) (xs : List X)
    → map g (map f xs) ≡ map (λ x. g (f x)) xs
map_map g f [] = refl
map_map g f (x ∷ xs) = ap (λ zs. g (f x) ∷ zs) (map_map g f xs)

as_proposals : (b : Bool) (k : Kind) (i : Incident) (xs : List Candidate) → AreOfKind k xs
    → map (proposal_with b k) (map (nearness_of i) (filter (is_breaking b) xs))
    ≡ map (proposal_at i) (filter (is_breaking b) xs)
as_proposals b k i xs kinds =
    map_map (proposal_with b k) (nearness_of i) (filter (is_breaking b) xs)
    ∙ map_among (λ c. proposal_with b k (nearness_of i c)) (proposal_at i) (filter (is_breaking b) xs)
    (λ c among. let m = among_filter (is_breaking b) xs c among in as_proposal b k i c (mark_of b c m.1) (kinds c m.0))

pub nearest_first : (n : ℕ) (b : Bool) (k : Kind) (i : Incident) (xs : List Candidate)
    (found : List Nearness) → ArePlaced i xs → AreOfKind k xs → AreApart xs
    → IsKeyed nearness_cmp whole found → IsSearched n i (filter (is_breaking b) xs) found
    → AreFirst is_before n None (map (proposal_at i) (filter (is_breaking b) xs))
    (map (proposal_with b k) (take n found))
nearest_first n b k i xs found placed kinds separate in_order s =
    subst (λ ps. AreFirst is_before n None ps (map (proposal_with b k) (take n found))) (as_proposals b k i xs kinds)
    (first_images (proposal_with b k) is_before is_nearer (by_nearness b k) n
    (map (nearness_of i) (filter (is_breaking b) xs)) (take n found)
    (search_first n b i xs found placed separate in_order s))
