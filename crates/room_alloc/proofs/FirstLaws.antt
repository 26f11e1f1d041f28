-- The first few of a list: a set in order begins with them.
use Rattle.std.proofs.Common.{◌≡◌, ℕ, zero, suc, ◌+◌, ◌-◌, ◌≤◌, Bool, true, List, [], ◌∷◌, ◌++◌}
use Rattle.std.proofs.Common.{length, take, min, Option, Some, None, ◌⊎◌, inl, inr, refl, sym, ap}
use Rattle.std.proofs.Common.{◌∙◌, subst, arith}
use Rattle.std.specs.Prelude.{filter}
use Rattle.std.proofs.lemmas.List.{length-take}
use Rattle.room_place.specs.Choice.{comes_after, IsRising, Among, AreDistinct, AreBefore, AreFirst}

module _ {X : Type 0} (lt : X → X → Bool) (apart : (x y : X) → lt x y ≡ true → lt y x ≡ true → ⊥)
    (steps : (x y z : X) → lt x y ≡ true → lt y z ≡ true → lt x z ≡ true) where
  pub not_itself : (x : X) → lt x x ≡ true → ⊥
  not_itself x e = apart x x e e

  -- all that rise after p are above it
  above : (p : X) (ps : List X) → IsRising lt (Some p) ps → (y : X) → Among y ps → lt p y ≡ true
  above p [] h y g = absurd g
  above p (x ∷ ps) h y g = elim g [ inl e ↦ ap (lt p) e ∙ h.0 | inr e ↦ steps p x y h.0 (above x ps h.1 y e) ]

-- ---- distinct elements are no more than the list that they are of
module _ {X : Type 0} where
  without : (x : X) (xs : List X) → Among x xs → List X
  without x [] h = []
  without x (y ∷ ys) h = elim h [ inl e ↦ ys | inr e ↦ y ∷ without x ys e ]

  one_less : (x : X) (xs : List X) (h : Among x xs) → length xs ≡ suc (length (without x xs h))
  unfolding without
  one_less x [] h = absurd h
  one_less x (y ∷ ys) (inl e) = refl
  one_less x (y ∷ ys) (inr e) = ap suc (one_less x ys e)

  others_stay : (x : X) (xs : List X) (h : Among x xs) (y : X) → Among y xs → (y ≡ x → ⊥)
      → Among y (without x xs h)
  unfolding without
  others_stay x [] h y g n = absurd h
  others_stay x (z ∷ zs) (inl e) y g n = elim g [ inl f ↦ absurd (n (f ∙ sym e)) | inr f ↦ f ]
  others_stay x (z ∷ zs) (inr e) y g n = elim g [ inl f ↦ inl f | inr f ↦ inr (others_stay x zs e y f n) ]

  pub no_more : (ps xs : List X) → AreDistinct ps → ((y : X) → Among y ps → Among y xs)
      → length ps ≤ length xs
  no_more [] xs d f = omega arith
  no_more (p ∷ ps) xs d f =
      let there = f p (inl refl) in
      let rest = no_more ps (without p xs there) d.1
      (λ y h. others_stay p xs there y (f y (inr h)) (λ e. d.0 (subst (λ z. Among z ps) e h))) in
      omega (arith, rest, one_less p xs there)

  all_after_none : (lt : X → X → Bool) (xs : List X) → filter (comes_after lt None) xs ≡ xs
  all_after_none lt [] = refl
  all_after_none lt (x ∷ xs) = ap (λ ys. x ∷ ys) (all_after_none lt xs)

  among_take : (n : ℕ) (q : List X) (y : X) → Among y (take n q) → Among y q
  among_take zero q y h = absurd h
  among_take (suc n) [] y h = absurd h
  among_take (suc n) (x ∷ q) y h = elim h [ inl e ↦ inl e | inr e ↦ inr (among_take n q y e) ]

  pub among_left : (xs ys : List X) (y : X) → Among y xs → Among y (xs ++ ys)
  among_left [] ys y h = absurd h
  among_left (x ∷ xs) ys y h = elim h [ inl e ↦ inl e | inr e ↦ inr (among_left xs ys y e) ]

  pub among_right : (xs ys : List X) (y : X) → Among y ys → Among y (xs ++ ys)
  among_right [] ys y h = h
  among_right (x ∷ xs) ys y h = inr (among_right xs ys y h)

  pub among_either : (xs ys : List X) (y : X) → Among y (xs ++ ys) → Among y xs ⊎ Among y ys
  among_either [] ys y h = inr h
  among_either (x ∷ xs) ys y h =
      elim h [ inl e ↦ inl (inl e) | inr e ↦ elim (among_either xs ys y e) [ inl f ↦ inl (inr f) | inr f ↦ inr f ] ]

module _ {X : Type 0} (lt : X → X → Bool) (apart : (x y : X) → lt x y ≡ true → lt y x ≡ true → ⊥)
    (steps : (x y z : X) → lt x y ≡ true → lt y z ≡ true → lt x z ≡ true) where
  rising_distinct : (q : List X) (last : Option X) → IsRising lt last q → AreDistinct q
  rising_distinct [] last h = tt
  rising_distinct (x ∷ q) last h =
      ((λ g. not_itself lt apart steps x (above lt apart steps x q h.1 x g)), rising_distinct q (Some x) h.1)

  rising_take : (n : ℕ) (q : List X) (last : Option X) → IsRising lt last q
      → IsRising lt last (take n q)
  rising_take zero q last h = tt
  rising_take (suc n) [] last h = tt
  rising_take (suc n) (x ∷ q) last h = (h.0, rising_take n q (Some x) h.1)

  split : (n : ℕ) (y : X) (q : List X) (last : Option X) → IsRising lt last q → Among y q
      → Among y (take n q) ⊎ AreBefore lt (take n q) y
  split zero y q last h g = inr tt
  split (suc n) y [] last h g = absurd g
  split (suc n) y (x ∷ q) last h g = elim g [
    | inl e ↦ inl (inl e)
    | inr e ↦
        elim (split n y q (Some x) h.1 e) [ inl f ↦ inl (inr f) | inr f ↦ inr (above lt apart steps x q h.1 y e, f) ]
  ]

  -- a set in order of some of the elements, where the others come after its first few
  pub first_of_set : (n : ℕ) (xs q : List X) → AreDistinct xs → IsRising lt None q
      → ((y : X) → Among y q → Among y xs)
      → ((y : X) → Among y xs → Among y q ⊎ ((n ≤ length q) × AreBefore lt (take n q) y))
      → (n ≤ length q) ⊎ ((y : X) → Among y xs → Among y q) → AreFirst lt n None xs (take n q)
  first_of_set n xs q d rising only there enough =
      let fewer : length q ≤ length xs = no_more q xs (rising_distinct q None rising) only in
      record {
        count = length-take n q ∙ (elim enough [
          | inl e ↦ omega (arith, e, fewer)
          | inr e ↦ let same : length xs ≤ length q = no_more xs q d e in omega (arith, same, fewer)
        ] ∙ ap (λ ys. min n (length ys)) (sym (all_after_none lt xs)));
        members = λ y h. (only y (among_take n q y h), refl);
        rising = rising_take n q None rising;
        outside = λ y h e. elim (there y h) [ inl g ↦ split n y q None rising g | inr g ↦ inr g.1 ];
      }

  -- ---- the first few of two lists, all of the first before all of the second
  before_both : (ps qs : List X) (y : X) → AreBefore lt ps y → AreBefore lt qs y
      → AreBefore lt (ps ++ qs) y
  before_both [] qs y h g = g
  before_both (p ∷ ps) qs y h g = (h.0, before_both ps qs y h.1 g)

  before_all : (ps : List X) (y : X) → ((x : X) → Among x ps → lt x y ≡ true) → AreBefore lt ps y
  before_all [] y f = tt
  before_all (p ∷ ps) y f = (f p (inl refl), before_all ps y (λ x h. f x (inr h)))

  not_before : (ps : List X) (y : X) → AreBefore lt ps y → Among y ps → ⊥
  not_before [] y h g = g
  not_before (p ∷ ps) y h g =
      elim g [ inl e ↦ not_itself lt apart steps y (ap (λ z. lt z y) e ∙ h.0) | inr e ↦ not_before ps y h.1 e ]

  -- a rising list may begin after what all of it is above
  rising_from : (last : Option X) (qs : List X)
      → ((y : X) → Among y qs → comes_after lt last y ≡ true) → IsRising lt None qs
      → IsRising lt last qs
  rising_from last [] f h = tt
  rising_from last (q ∷ qs) f h = (f q (inl refl), h.1)

  rising_both : (ps qs : List X) (last : Option X) → IsRising lt last ps → IsRising lt None qs
      → ((y : X) → Among y qs → comes_after lt last y ≡ true)
      → ((x y : X) → Among x ps → Among y qs → lt x y ≡ true) → IsRising lt last (ps ++ qs)
  rising_both [] qs last h g f k = rising_from last qs f g
  rising_both (p ∷ ps) qs last h g f k =
      (h.0, rising_both ps qs (Some p) h.1 g (λ y m. k p y (inl refl) m) (λ x y m. k x y (inr m)))

  length_both : (xs ys : List X) → length (xs ++ ys) ≡ length xs + length ys
  length_both [] ys = omega arith
  length_both (x ∷ xs) ys = omega (arith, length_both xs ys)

  counted : (n : ℕ) (xs ps : List X) → AreFirst lt n None xs ps → length ps ≡ min n (length xs)
  counted n xs ps h = h.count ∙ ap (λ ys. min n (length ys)) (all_after_none lt xs)

  -- where one is left out, there are n
  left_out : (n : ℕ) (xs ps : List X) (y : X) → AreFirst lt n None xs ps → Among y xs
      → AreBefore lt ps y → length ps ≡ n
  left_out n xs ps y h g b =
      let more : suc (length ps)
      ≤ length xs =
      no_more (y ∷ ps) xs (not_before ps y b, rising_distinct ps None h.rising)
      (λ z k. elim k [ inl e ↦ subst (λ w. Among w xs) (sym e) g | inr e ↦ (h.members z e).0 ]) in
      omega (arith, more, counted n xs ps h)

  none_more : (qs : List X) → length qs ≡ 0 → (y : X) → AreBefore lt qs y
  none_more [] e y = tt
  none_more (q ∷ qs) e y = absurd (omega (arith, e))

  pub first_then : (n : ℕ) (xs ys ps qs : List X)
      → ((x y : X) → Among x xs → Among y ys → lt x y ≡ true) → AreFirst lt n None xs ps
      → AreFirst lt (n - length ps) None ys qs → AreFirst lt n None (xs ++ ys) (ps ++ qs)
  first_then n xs ys ps qs below h g = record {
    count =
        length_both ps qs
        ∙ (omega (arith, counted n xs ps h, counted (n - length ps) ys qs g, length_both xs ys)
        ∙ ap (λ zs. min n (length zs)) (sym (all_after_none lt (xs ++ ys))));
    members =
        λ y k.
        elim (among_either ps qs y k) [
          | inl e ↦ (among_left xs ys y (h.members y e).0, refl)
          | inr e ↦ (among_right xs ys y (g.members y e).0, refl)
        ];
    rising =
        rising_both ps qs None h.rising g.rising (λ y k. refl)
        (λ x y k m. below x y (h.members x k).0 (g.members y m).0);
    outside = λ y k e. elim (among_either xs ys y k) [
      | inl f ↦ elim (h.outside y f refl) [
        | inl m ↦ inl (among_left ps qs y m)
        | inr m ↦
            inr (before_both ps qs y m (none_more qs
            (let full = left_out n xs ps y h f m in omega (arith, full, counted (n - length ps) ys qs g)) y))
      ]
      | inr f ↦ elim (g.outside y f refl) [
        | inl m ↦ inl (among_right ps qs y m)
        | inr m ↦ inr (before_both ps qs y (before_all ps y (λ x l. below x y (h.members x l).0 f)) m)
      ]
    ];
  }

  -- the first few depend only on what is in the list, and how much
  pub same_first : (n : ℕ) (xs ys ps : List X) → ((y : X) → Among y xs → Among y ys)
      → ((y : X) → Among y ys → Among y xs) → length xs ≡ length ys → AreFirst lt n None xs ps
      → AreFirst lt n None ys ps
  same_first n xs ys ps into from same h = record {
    count = counted n xs ps h ∙ ap (λ k. min n k) same ∙ ap (λ zs. min n (length zs)) (sym (all_after_none lt ys));
    members = λ y k. let m = h.members y k in (into y m.0, refl);
    rising = h.rising;
    outside = λ y k e. h.outside y (from y k) refl;
  }
