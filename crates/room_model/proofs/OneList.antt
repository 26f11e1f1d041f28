-- Lists in order that are made of the same elements are one list.
use Rattle.std.proofs.Common.{ap, arith, inl, inr, subst, sym, ◌∙◌}
use Rattle.std.specs.Cmp.{IsTotalOrder}
use Rattle.std.specs.Ordering.{ordering_reverse}
use Rattle.std.specs.Prelude.{Bool, List, Option, Some, [], length, refl, true, ℕ, ◌∷◌, ◌≡◌, ◌⊎◌}
use Rattle.std.specs.declared.cmp.Ordering.{Ordering}
use Rattle.std.specs.declared.cmp.Ordering.TheVariants.{Less}
use Rattle.room_place.specs.Choice.{Among, AreBefore, AreFirst, IsRising}
use Rattle.room_types.specs.KeyedRows.{IsBelowAll, IsKeyed}

-- ---- in key order
module _ {R K : Type 0} (cmp : K → K → Ordering) (key : R → K) (total : IsTotalOrder cmp) where
  not_less : (x : R) → cmp (key x) (key x) ≡ Less → ⊥
  not_less x e = let f = ap ordering_reverse e in let g = total.antisymm (key x) (key x) in cc

  below_each : (k : K) (xs : List R) (x : R) → IsBelowAll cmp key k xs → Among x xs
      → cmp k (key x) ≡ Less
  below_each k [] x h a = absurd a
  below_each k (y ∷ xs) x h a = elim a [
    | inl e ↦ ap (λ z. cmp k (key z)) e ∙ h.0
    | inr b ↦ below_each k xs x h.1 b
  ]

  -- what stands in a list after its head is not the head
  past_head : (x : R) (xs : List R) (y : R) (ys : List R) → x ≡ y → IsKeyed cmp key (x ∷ xs)
      → (z : R) → Among z xs → Among z (y ∷ ys) → Among z ys
  past_head x xs y ys same h z a b = elim b [
    | inl e ↦ absurd (not_less x (ap (λ u. cmp (key x) (key u)) (same ∙ sym e) ∙ below_each (key x) xs z h.0 a))
    | inr c ↦ c
  ]

  same_head : (x : R) (xs : List R) (y : R) (ys : List R) → IsKeyed cmp key (x ∷ xs)
      → IsKeyed cmp key (y ∷ ys) → Among x (y ∷ ys) → Among y (x ∷ xs) → x ≡ y
  same_head x xs y ys h g a b = elim a [
    | inl e ↦ e
    | inr c ↦ elim b [
      | inl e ↦ sym e
      | inr e ↦
          absurd (not_less x
          (total.trans (key x) (key y) (key x) (below_each (key x) xs y h.0 e) (below_each (key y) ys x g.0 c)))
    ]
  ]

  pub one_keyed : (xs ys : List R) → IsKeyed cmp key xs → IsKeyed cmp key ys
      → ((z : R) → Among z xs → Among z ys) → ((z : R) → Among z ys → Among z xs) → xs ≡ ys
  one_keyed [] [] h g to from = refl
  one_keyed [] (y ∷ ys) h g to from = absurd (from y (inl refl))
  one_keyed (x ∷ xs) [] h g to from = absurd (to x (inl refl))
  one_keyed (x ∷ xs) (y ∷ ys) h g to from =
      let same : x ≡ y = same_head x xs y ys h g (to x (inl refl)) (from y (inl refl)) in
      ap (λ z. z ∷ xs) same
      ∙ ap (λ zs. y ∷ zs) (one_keyed xs ys h.1 g.1 (λ z a. past_head x xs y ys same h z a (to z (inr a)))
      (λ z a. past_head y ys x xs (sym same) g z a (from z (inr a))))

-- ---- the first few, by an order that has no circle
module _ {X : Type 0} (lt : X → X → Bool) (apart : (x y : X) → lt x y ≡ true → lt y x ≡ true → ⊥)
    (steps : (x y z : X) → lt x y ≡ true → lt y z ≡ true → lt x z ≡ true) where
  -- all that rise after p are above it
  above : (p : X) (ps : List X) → IsRising lt (Some p) ps → (y : X) → Among y ps → lt p y ≡ true
  above p [] h y g = absurd g
  above p (x ∷ ps) h y g = elim g [ inl e ↦ ap (lt p) e ∙ h.0 | inr e ↦ steps p x y h.0 (above x ps h.1 y e) ]

  -- y is the head, or above it
  head_or_above : (q : X) (qs : List X) → IsRising lt (Some q) qs → (y : X)
      → Among y (q ∷ qs) ⊎ AreBefore lt (q ∷ qs) y → (y ≡ q) ⊎ (lt q y ≡ true)
  head_or_above q qs h y g =
      elim g [ inl e ↦ elim e [ inl f ↦ inl f | inr f ↦ inr (above q qs h y f) ] | inr e ↦ inr e.0 ]

  -- what is above the head is among the tail, or all of the tail is before it
  tail_only : (q : X) (qs : List X) (y : X) → lt q y ≡ true
      → Among y (q ∷ qs) ⊎ AreBefore lt (q ∷ qs) y → Among y qs ⊎ AreBefore lt qs y
  tail_only q qs y e g = elim g [
    | inl f ↦ elim f [ inl k ↦ let itself = ap (lt q) (sym k) ∙ e in absurd (apart q q itself itself) | inr k ↦ inl k ]
    | inr f ↦ inr f.1
  ]

  -- two rising lists of one length, each of whose elements is in the other or above it
  one_rising : (ps qs : List X) (last : Option X) → IsRising lt last ps → IsRising lt last qs
      → length ps ≡ length qs → ((y : X) → Among y ps → Among y qs ⊎ AreBefore lt qs y)
      → ((y : X) → Among y qs → Among y ps ⊎ AreBefore lt ps y) → ps ≡ qs
  one_rising [] [] last h g e f k = refl
  one_rising [] (q ∷ qs) last h g e f k = absurd (omega (arith, e))
  one_rising (p ∷ ps) [] last h g e f k = absurd (omega (arith, e))
  one_rising (p ∷ ps) (q ∷ qs) last h g e f k =
      let same : p ≡ q = elim (head_or_above q qs g.1 p (f p (inl refl))) [
        | inl x ↦ x
        | inr x ↦ elim (head_or_above p ps h.1 q (k q (inl refl))) [ inl y ↦ sym y | inr y ↦ absurd (apart q p x y) ]
      ] in
      let rest = one_rising ps qs (Some q) (subst (λ x. IsRising lt (Some x) ps) same h.1) g.1 (omega (arith, e))
      (λ y x. tail_only q qs y (ap (λ z. lt z y) (sym same) ∙ above p ps h.1 y x) (f y (inr x)))
      (λ y x. tail_only p ps y (ap (λ z. lt z y) same ∙ above q qs g.1 y x) (k y (inr x))) in
      ap (λ x. x ∷ ps) same ∙ ap (λ ys. q ∷ ys) rest

  pub one_first : (n : ℕ) (last : Option X) (xs ps qs : List X) → AreFirst lt n last xs ps
      → AreFirst lt n last xs qs → ps ≡ qs
  one_first n last xs ps qs h g = one_rising ps qs last h.rising g.rising (h.count ∙ sym g.count)
      (λ y x. let m = h.members y x in g.outside y m.0 m.1)
      (λ y x. let m = g.members y x in h.outside y m.0 m.1)
