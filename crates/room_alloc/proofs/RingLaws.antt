-- Candidates in the order of their rings, and what a search over them finds.
use Rattle.std.proofs.Common.{add-one, ap, arith, get_or, inl, inr, length, refl, subst, suc, sym}
use Rattle.std.proofs.Common.{take, zero, ℕ, ◌+◌, ◌<◌, ◌∙◌, ◌∷◌, ◌≡◌, ◌≤◌, ◌⊎◌, List, [], map}
use Rattle.std.proofs.lemmas.List.Elements.{All-cons, All-contains, All-weaker}
use Rattle.std.proofs.lemmas.List.Elements.{Contains-append_left, Contains-append_right}
use Rattle.std.proofs.lemmas.List.Elements.{Contains-push}
use Rattle.std.proofs.lemmas.List.Sorted.{Contains-permutation, IsPermutation-sym}
use Rattle.std.specs.List.{All, Contains}
use Rattle.std.specs.List.Sorted.{IsNonDecreasingBy, IsPermutation}
use Rattle.std.specs.Ordering.{match_ordering}
use Rattle.std.specs.declared.cmp.Ordering.TheVariants.{Equal, Greater, Less}
use Rattle.std.specs.declared.cmp.Ordering.{Ordering}
use Rattle.room_place.specs.Choice.{Among}
use Rattle.room_types.specs.KeyedRows.{put_row}
use Rattle.room_types.specs.declared.tables.Incident.{Incident}
use Rattle.room_alloc.specs.Nearness.{nearness_cmp, whole}
use Rattle.room_alloc.specs.NearnessLemmas.{exact_nearness}
use Rattle.room_alloc.specs.Rings.{AreByRing, IsByRing, IsSearched, nearness_of}
use Rattle.room_alloc.specs.declared.nearness.Candidate.{Candidate}
use Rattle.room_alloc.specs.declared.nearness.Nearness.{Nearness}

-- ---- what is in the set after a put
pub put_in : (q : List Nearness) (x e : Nearness) → Among e (put_row nearness_cmp whole q x)
    → (e ≡ x) ⊎ Among e q
put_in [] x e h = elim h [ inl k ↦ inl k | inr k ↦ absurd k ]
put_in (y ∷ q) x e h =
    (elim (nearness_cmp x y) as (λ (o : Ordering).
    Among e (match_ordering o (x ∷ y ∷ q) (x ∷ q) (y ∷ put_row nearness_cmp whole q x)) → (e ≡ x) ⊎ Among e (y ∷ q)) [
      | Less ↦ λ g. g
      | Equal ↦ λ g. elim g [ inl k ↦ inl k | inr k ↦ inr (inr k) ]
      | Greater ↦
          λ g. elim g [ inl k ↦ inr (inl k) | inr k ↦ elim (put_in q x e k) [ inl m ↦ inl m | inr m ↦ inr (inr m) ] ]
    ]) h

pub put_keeps : (q : List Nearness) (x e : Nearness) → (e ≡ x) ⊎ Among e q
    → Among e (put_row nearness_cmp whole q x)
put_keeps [] x e h = elim h [ inl k ↦ inl k | inr k ↦ absurd k ]
put_keeps (y ∷ q) x e h =
    (elim (nearness_cmp x y) as (λ (o : Ordering).
    nearness_cmp x y ≡ o → Among e (match_ordering o (x ∷ y ∷ q) (x ∷ q) (y ∷ put_row nearness_cmp whole q x))) [
      | Less ↦ λ f. h
      | Equal ↦
          λ f.
          elim h [ inl k ↦ inl k | inr k ↦ elim k [ inl m ↦ inl (m ∙ sym (exact_nearness x y f)) | inr m ↦ inr m ] ]
      | Greater ↦
          λ f.
          elim h [
            | inl k ↦ inr (put_keeps q x e (inl k))
            | inr k ↦ elim k [ inl m ↦ inl m | inr m ↦ inr (put_keeps q x e (inr m)) ]
          ]
    ]) refl

-- ---- elements and their places
module _ {X : Type 0} where
  contained : (xs : List X) (x : X) → Among x xs → Contains xs x
  contained [] x a = absurd a
  contained (y ∷ ys) x a = elim a [
    | inl e ↦ subst (λ z. Contains (z ∷ ys) x) e (Contains-append_left (x ∷ []) ys x (Contains-push [] x))
    | inr b ↦ Contains-append_right (y ∷ []) ys x (contained ys x b)
  ]

  all_among : (xs : List X) → All (λ x. Among x xs) xs
  all_among [] = λ k d low. let none : ⊥ = omega arith in absurd none
  all_among (x ∷ xs) =
      All-cons (λ y. Among y (x ∷ xs)) x xs (inl refl)
      (All-weaker (λ y. Among y xs) (λ y. Among y (x ∷ xs)) (λ y a. inr a) xs (all_among xs))

  among_moved : (xs ys : List X) (x : X) → IsPermutation xs ys → Among x xs → Among x ys
  among_moved xs ys x moved a =
      All-contains (λ y. Among y ys) ys x (all_among ys) (Contains-permutation xs ys x moved (contained xs x a))

  pub among_item : (xs : List X) (k : ℕ) (x : X) → k < length xs → x ≡ get_or xs k x → Among x xs
  among_item [] k x low is = absurd (omega (arith, low))
  among_item (y ∷ ys) zero x low is = inl is
  among_item (y ∷ ys) (suc k) x low is = inr (among_item ys k x (omega (arith, low)) is)

  -- one more is taken
  pub among_taken : (xs : List X) (k : ℕ) (x c : X) → k < length xs → x ≡ get_or xs k x
      → Among c (take (suc k) xs) → Among c (take k xs) ⊎ (c ≡ x)
  among_taken [] k x c low is a = absurd a
  among_taken (y ∷ ys) zero x c low is a = elim a [ inl e ↦ inr (e ∙ sym is) | inr none ↦ absurd none ]
  among_taken (y ∷ ys) (suc k) x c low is a = elim a [
    | inl e ↦ inl (inl e)
    | inr b ↦ elim (among_taken ys k x c (omega (arith, low)) is b) [ inl t ↦ inl (inr t) | inr e ↦ inr e ]
  ]

  place_of : (xs : List X) (c : X) → Among c xs → (k : ℕ) × (k < length xs) × (get_or xs k c ≡ c)
  place_of [] c a = absurd a
  place_of (y ∷ ys) c a = elim a [
    | inl e ↦ (0, omega arith, sym e)
    | inr b ↦ let p = place_of ys c b in (suc p.0, (let low = p.1 in omega (arith, low)), p.2)
  ]

-- ---- the order of rings
abbrev ring_no : Candidate → ℕ
ring_no c = c.ring

by_ring : (xs : List Candidate) → IsNonDecreasingBy ring_no xs → IsByRing xs
by_ring [] h = tt
by_ring (x ∷ xs) h = (
  (λ c a.
      let p = place_of xs c a in
      subst (λ (z : Candidate). x.ring ≤ z.ring) p.2
      (h 0 (suc p.0) c (omega arith) (let low = p.1 in omega (arith, low)))),
  by_ring xs (λ i j d le low. h (suc i) (suc j) d (omega (arith, le)) (omega (arith, low))),
)

pub sorted_by_ring : (xs ys : List Candidate) → IsPermutation xs ys → IsNonDecreasingBy ring_no ys
    → AreByRing xs ys
sorted_by_ring xs ys moved rises = record {
  only = λ c a. among_moved ys xs c (IsPermutation-sym xs ys moved) a;
  there = λ c a. among_moved xs ys c moved a;
  rising = by_ring ys rises;
}

-- each candidate was seen before a place, or its ring is no lesser
pub seen_or_later : (xs : List Candidate) (k : ℕ) (x c : Candidate) → IsByRing xs → k < length xs
    → x ≡ get_or xs k x → Among c xs → Among c (take k xs) ⊎ (x.ring ≤ c.ring)
seen_or_later [] k x c h low is a = absurd a
seen_or_later (y ∷ ys) zero x c h low is a = inr (subst (λ (z : Candidate). z.ring ≤ c.ring) (sym is) (elim a [
  | inl e ↦ subst (λ (z : Candidate). y.ring ≤ z.ring) (sym e) (omega arith)
  | inr b ↦ h.0 c b
]))
seen_or_later (y ∷ ys) (suc k) x c h low is a = elim a [
  | inl e ↦ inl (inl e)
  | inr b ↦ elim (seen_or_later ys k x c h.1 (omega (arith, low)) is b) [ inl t ↦ inl (inr t) | inr le ↦ inr le ]
]

-- ---- what a search finds
image : (i : Incident) (xs : List Candidate) (c : Candidate) → Among c xs
    → Among (nearness_of i c) (map (nearness_of i) xs)
image i [] c a = absurd a
image i (x ∷ xs) c a = elim a [ inl e ↦ inl (ap (nearness_of i) e) | inr b ↦ inr (image i xs c b) ]

-- the candidate at a place is put to what was found
module _ (i : Incident) (xs : List Candidate) (k : ℕ) (x : Candidate) (low : k < length xs)
    (is : x ≡ get_or xs k x) (q new : List Nearness)
    (put : new ≡ put_row nearness_cmp whole q (nearness_of i x)) where
  pub more_only : ((y : Nearness) → Among y q → Among y (map (nearness_of i) xs)) → (y : Nearness)
      → Among y new → Among y (map (nearness_of i) xs)
  more_only f y a = elim (put_in q (nearness_of i x) y (subst (Among y) put a)) [
    | inl e ↦ subst (λ z. Among z (map (nearness_of i) xs)) (sym e) (image i xs x (among_item xs k x low is))
    | inr b ↦ f y b
  ]

  pub more_there : ((c : Candidate) → Among c (take k xs) → Among (nearness_of i c) q)
      → (c : Candidate) → Among c (take (k + 1) xs) → Among (nearness_of i c) new
  more_there f c a =
      subst (Among (nearness_of i c)) (sym put) (put_keeps q (nearness_of i x) (nearness_of i c)
      (elim (among_taken xs k x c low is (subst (λ n. Among c (take n xs)) (add-one k) a)) [
        | inl t ↦ inr (f c t)
        | inr e ↦ inl (ap (nearness_of i) e)
      ]))

-- of one order, and so of the other
images_moved : (i : Incident) (xs ys : List Candidate)
    → ((c : Candidate) → Among c ys → Among c xs) → (y : Nearness)
    → Among y (map (nearness_of i) ys) → Among y (map (nearness_of i) xs)
images_moved i xs [] f y a = absurd a
images_moved i xs (z ∷ ys) f y a = elim a [
  | inl e ↦ subst (λ n. Among n (map (nearness_of i) xs)) (sym e) (image i xs z (f z (inl refl)))
  | inr b ↦ images_moved i xs ys (λ c g. f c (inr g)) y b
]

pub searched_as : (n : ℕ) (i : Incident) (xs ys : List Candidate) (found : List Nearness)
    → AreByRing xs ys → IsSearched n i ys found → IsSearched n i xs found
searched_as n i xs ys found order s = record {
  only = λ y a. images_moved i xs ys order.only y (s.only y a);
  there = λ c a. s.there c (order.there c a);
}
