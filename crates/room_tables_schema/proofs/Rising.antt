-- Lists that rise: they are determined by their elements, and stay so under a put and a filter.
use Rattle.std.proofs.Common.{◌≡◌, ◌⊎◌, inl, inr, List, [], ◌∷◌, map, filter, Bool, true, false}
use Rattle.std.proofs.Common.{not, cond, refl, sym, ap, subst, ◌∙◌, Ordering, Less, Equal, Greater}
use Rattle.std.proofs.Common.{is_lt, is_gt, is_eq, true≢false, IsPermutation, IsSorted}
use Rattle.std.specs.List.{AllByRecursion, IsDistinct}
use Rattle.std.specs.Cmp.{IsTotalOrder}
use Rattle.std.specs.Ordering.{ordering_reverse, match_ordering}
use Rattle.std.proofs.lemmas.Cmp.{tied_itself, alike_right}
use Rattle.std.proofs.lemmas.Map.Keys.{IsDistinct-IsPermutation}
use Rattle.std.proofs.lemmas.List.Sorted.{IsPermutation-refl, IsPermutation-trans}
use Rattle.std.proofs.lemmas.List.Sorted.{IsPermutation-sym, IsPermutation-cons}
use Rattle.std.proofs.lemmas.List.Sorted.{IsPermutation-middle}
use Rattle.sqlite_trees.specs.Tree.{IsAscending}
use Rattle.sqlite_trees.proofs.ListLemmas.{all_weaker, all_both, all-permutation, ascending-filter}
use Rattle.sqlite_trees.proofs.ListLemmas.{filter_all}
use Rattle.sqlite_rules.specs.Lists.{Has}
use Rattle.sqlite_rules.proofs.ListLemmas.{all_has, all_from}
use Rattle.sqlite_rules.proofs.ProbeLemmas.{mapped_has}
use Rattle.sqlite_exec.proofs.PartitionLemmas.{ascending_from_sorted}
use Rattle.room_tables_schema.specs.TableTrees.{Rises, put_in, drop_from}

-- what a list has, each order of it has
pub has_permuted : {X : Type 0} (xs ys : List X) (x : X) → IsPermutation xs ys → Has ys x → Has xs x
has_permuted xs ys x same =
    all_has (Has xs) ys x (all-permutation (Has xs) xs ys same (all_from (Has xs) xs (λ e h. h)))

pub less : (o : Ordering) → is_gt o ≡ false → is_eq o ≡ false → o ≡ Less
less Less h k = refl
less Equal h k = absurd (true≢false k)
less Greater h k = absurd (true≢false h)

pub is_eq-reverse : (o : Ordering) → is_eq (ordering_reverse o) ≡ is_eq o
is_eq-reverse Less = refl
is_eq-reverse Equal = refl
is_eq-reverse Greater = refl

module _ {X : Type 0} (cmp : X → X → Ordering) (total : IsTotalOrder cmp) where
  abbrev ties : X → X → Bool
  ties a b = is_eq (cmp a b)

  ties_back : (a b : X) → ties a b ≡ ties b a
  ties_back a b = ap is_eq (total.antisymm a b) ∙ is_eq-reverse _

  never_below : (x : X) → cmp x x ≡ Less → ⊥
  never_below x h = let e = sym h ∙ tied_itself total x in cc

  -- two lists that rise and have the same elements are one
  pub unique : (xs ys : List X) → Rises cmp xs → Rises cmp ys → ((z : X) → Has xs z → Has ys z)
      → ((z : X) → Has ys z → Has xs z) → xs ≡ ys
  unique [] [] p q f g = refl
  unique [] (y ∷ ys) p q f g = absurd (g y (inl refl))
  unique (x ∷ xs) [] p q f g = absurd (f x (inl refl))
  unique (x ∷ xs) (y ∷ ys) p q f g =
      let first : x ≡ y = heads (f x (inl refl)) (g y (inl refl)) in
      let rest : xs ≡ ys = unique xs ys p.1 q.1
      (λ z h.
      later y ys z (f z (inr h)) (λ same.
      never_below x (subst (λ w. cmp x w ≡ Less) (same ∙ sym first) (all_has (λ w. cmp x w ≡ Less) xs z p.0 h))))
      (λ z h.
      later x xs z (g z (inr h)) (λ same.
      never_below y (subst (λ w. cmp y w ≡ Less) (same ∙ first) (all_has (λ w. cmp y w ≡ Less) ys z q.0 h)))) in
      cc
    where
      heads : (x ≡ y) ⊎ Has ys x → (y ≡ x) ⊎ Has xs y → x ≡ y
      heads (inl e) k = e
      heads (inr h) (inl e) = sym e
      heads (inr h) (inr k) =
          absurd (never_below x
          (total.trans x y x (all_has (λ w. cmp x w ≡ Less) xs y p.0 k) (all_has (λ w. cmp y w ≡ Less) ys x q.0 h)))

      later : (head : X) (l : List X) (z : X) → (z ≡ head) ⊎ Has l z → (z ≡ head → ⊥) → Has l z
      later head l z (inl e) other = absurd (other e)
      later head l z (inr h) other = h

  distinct : (xs : List X) → Rises cmp xs → IsDistinct ties xs
  unfolding IsDistinct
  distinct [] h = tt
  distinct (x ∷ xs) h = (all_weaker _ (λ y. ties x y ≡ false) (λ y k. ap is_eq k) xs h.0, distinct xs h.1)

  -- the elements of a list that rises differ in any order
  pub distinct_in : (xs ys : List X) → IsPermutation xs ys → Rises cmp xs → IsDistinct ties ys
  distinct_in xs ys same up = IsDistinct-IsPermutation ties ties_back xs ys same (distinct xs up)

  rises_from : (xs : List X) → IsDistinct ties xs → IsAscending (λ a b. is_gt (cmp a b) ≡ false) xs
      → Rises cmp xs
  unfolding IsDistinct
  rises_from [] d h = tt
  rises_from (x ∷ xs) d h =
      (all_both _ (λ y. ties x y ≡ false) (λ y. cmp x y ≡ Less) (λ y p q. less _ p q) xs h.0 d.0, rises_from xs d.1 h.1)

  -- what is sorted and has the elements of a list that rises is that list
  pub sorted_is : (xs ys : List X) → IsPermutation xs ys → Rises cmp xs → IsSorted cmp ys → ys ≡ xs
  sorted_is xs ys same up sorted =
      let rising = rises_from ys (distinct_in xs ys same up) (ascending_from_sorted cmp total ys sorted) in
      unique ys xs rising up (λ z. has_permuted xs ys z same) (λ z. has_permuted ys xs z (IsPermutation-sym _ _ same))

  -- where images differ, elements with one image are one
  pub one_image : {Y : Type 0} (f : Y → X) (ys : List Y) (a b : Y) → IsDistinct ties (map f ys)
      → Has ys a → Has ys b → ties (f a) (f b) ≡ true → a ≡ b
  unfolding IsDistinct
  one_image f [] a b d p q same = absurd p
  one_image f (y ∷ ys) a b d (inl e) (inl g) same = e ∙ sym g
  one_image f (y ∷ ys) a b d (inl e) (inr q) same =
      absurd (true≢false (sym same ∙ ap (λ z. ties (f z) (f b)) e
      ∙ all_has (λ x. ties (f y) x ≡ false) (map f ys) (f b) d.0 (mapped_has f ys b q)))
  one_image f (y ∷ ys) a b d (inr p) (inl g) same =
      absurd (true≢false (sym same ∙ ties_back (f a) (f b) ∙ ap (λ z. ties (f z) (f a)) g
      ∙ all_has (λ x. ties (f y) x ≡ false) (map f ys) (f a) d.0 (mapped_has f ys a p)))
  one_image f (y ∷ ys) a b d (inr p) (inr q) same = one_image f ys a b d.1 p q same

  all-put_in : (P : X → Type 0) (new : X) (xs : List X) → P new → AllByRecursion P xs
      → AllByRecursion P (put_in cmp new xs)
  all-put_in P new [] h all = (h, tt)
  all-put_in P new (x ∷ xs) h all =
      elim (cmp x new) as (λ o. AllByRecursion P (match_ordering o (x ∷ put_in cmp new xs) (new ∷ xs) (new ∷ x ∷ xs)))
      [ Less ↦ (all.0, all-put_in P new xs h all.1) | Equal ↦ (h, all.1) | Greater ↦ (h, all) ]

  pub rises-put_in : (new : X) (xs : List X) → Rises cmp xs → Rises cmp (put_in cmp new xs)
  rises-put_in new [] up = (tt, tt)
  rises-put_in new (x ∷ xs) up = go (cmp x new) refl (rises-put_in new xs up.1)
    where
      go : (o : Ordering) → cmp x new ≡ o → Rises cmp (put_in cmp new xs)
          → Rises cmp (match_ordering o (x ∷ put_in cmp new xs) (new ∷ xs) (new ∷ x ∷ xs))
      go Less e more = (all-put_in (λ y. cmp x y ≡ Less) new xs e up.0, more)
      go Equal e more = (all_weaker _ (λ y. cmp new y ≡ Less) (λ y h. sym (total.congr _ _ y e) ∙ h) xs up.0, up.1)
      go Greater e more =
          let first : cmp new x ≡ Less = total.antisymm new x ∙ ap ordering_reverse e in
          ((first, all_weaker _ (λ y. cmp new y ≡ Less) (λ y. total.trans _ _ _ first) xs up.0), up)

  pub rises-filter : (p : X → Bool) (xs : List X) → Rises cmp xs → Rises cmp (filter p xs)
  rises-filter p xs = ascending-filter (λ a b. cmp a b ≡ Less) p xs

  none_ties : (x new : X) (xs : List X) → is_lt (cmp x new) ≡ false
      → AllByRecursion (λ y. cmp x y ≡ Less) xs → AllByRecursion (λ y. ties y new ≡ false) xs
  none_ties x new xs h = all_weaker _ (λ y. ties y new ≡ false) (λ y below. go y below (cmp y new) refl) xs
    where
      go : (y : X) → cmp x y ≡ Less → (o : Ordering) → cmp y new ≡ o → is_eq o ≡ false
      go y below Less e = refl
      go y below Greater e = refl
      go y below Equal e = absurd (true≢false (sym (ap is_lt (sym (alike_right total y new x e) ∙ below)) ∙ h))

  -- a put leaves the new element and those that do not tie with it
  pub put_in_has : (new : X) (xs : List X) → Rises cmp xs
      → IsPermutation (new ∷ drop_from cmp new xs) (put_in cmp new xs)
  put_in_has new [] up = IsPermutation-refl _
  put_in_has new (x ∷ xs) up = go (cmp x new) refl (put_in_has new xs up.1)
    where
      kept : is_lt (cmp x new) ≡ false → drop_from cmp new xs ≡ xs
      kept h =
          filter_all _ xs (all_weaker _ (λ y. not (ties y new) ≡ true) (λ y k. ap not k) xs (none_ties x new xs h up.0))

      go : (o : Ordering) → cmp x new ≡ o
          → IsPermutation (new ∷ drop_from cmp new xs) (put_in cmp new xs)
          → IsPermutation (new ∷ cond (not (is_eq o)) (x ∷ drop_from cmp new xs)
          (drop_from cmp new xs)) (match_ordering o (x ∷ put_in cmp new xs) (new ∷ xs)
          (new ∷ x ∷ xs))
      go Less e more = IsPermutation-trans _ _ _ (IsPermutation-middle (new ∷ []) x _) (IsPermutation-cons x _ _ more)
      go Equal e more = rw (kept (ap is_lt e)) (IsPermutation-refl _)
      go Greater e more = rw (kept (ap is_lt e)) (IsPermutation-refl _)
