-- Lemmas on chains that end with the same check.
use Rattle.std.proofs.Common.{◌≡◌, ◌≢◌, ◌∙◌, refl, sym, ap, subst, arith, ℕ, zero, suc, ◌+◌, ◌-◌}
use Rattle.std.proofs.Common.{◌≤◌, List, [], ◌∷◌, ◌++◌, length, take, drop, Bool, true, false, ◌⊎◌}
use Rattle.std.proofs.Common.{inl, inr, length-drop, take-append-drop}
use Rattle.std.proofs.lemmas.Bool.{false≢true}
use Rattle.std.proofs.lemmas.List.{take_at, drop_at}
use Rattle.std.proofs.lemmas.Slice.Eq.{bytes_eq-Decides}
use Rattle.std.specs.Str.{bytes_eq}
use Rattle.dispatch_room_journal.specs.Chains.{first_check, last_check, next_check}
use Rattle.dispatch_room_journal.specs.ChainLaws.{HasTwin, IsOneChain}

-- two texts are the same, or they are not
abbrev pub same_or_not : (one other : List ℕ) → (one ≡ other) ⊎ (one ≢ other)
same_or_not one other = by_test (bytes_eq one other) refl
  where
    by_test : (test : Bool) → bytes_eq one other ≡ test → (one ≡ other) ⊎ (one ≢ other)
    by_test true is = inl ((bytes_eq-Decides one other).0 is)
    by_test false is = inr (λ same. false≢true (sym is ∙ (bytes_eq-Decides one other).1 same))

module _ (hash : List ℕ → List ℕ) (long : (text : List ℕ) → length (hash text) ≡ 64) where
  -- chains of as many records, which end with the same check
  abbrev pub AsLong : (check other : List ℕ) (xs ys : List (List ℕ)) → Type 0
  AsLong check other xs ys = ((check ≡ other) × (xs ≡ ys)) ⊎ HasTwin hash

  as_long_step : (check other : List ℕ) (x y : List ℕ) (xs ys : List (List ℕ))
      → length check ≡ 64 → length other ≡ 64
      → AsLong (next_check hash check x) (next_check hash other y) xs ys
      → AsLong check other (x ∷ xs) (y ∷ ys)
  as_long_step check other x y xs ys fits fits_other (inr twin) = inr twin
  as_long_step check other x y xs ys fits fits_other (inl (same, rest)) =
      by_text (same_or_not (check ++ x) (other ++ y))
    where
      by_text : ((check ++ x ≡ other ++ y) ⊎ (check ++ x ≢ other ++ y))
          → AsLong check other (x ∷ xs) (y ∷ ys)
      by_text (inr differ) = inr (inl (check ++ x, other ++ y, differ, same))
      by_text (inl are) =
          let checks : check ≡ other =
          sym (take_at check x 64 fits) ∙ ap (take 64) are ∙ take_at other y 64 fits_other in
          let bodies : x ≡ y =
          sym (drop_at check x 64 fits) ∙ ap (drop 64) are ∙ drop_at other y 64 fits_other in
          inl (checks, rw (bodies, rest) refl)

  pub as_long : (xs ys : List (List ℕ)) (check other : List ℕ) → length xs ≡ length ys
      → length check ≡ 64 → length other ≡ 64
      → last_check hash check xs ≡ last_check hash other ys → AsLong check other xs ys
  as_long [] [] check other size fits fits_other same = inl (same, refl)
  as_long [] (y ∷ ys) check other size fits fits_other same = absurd (omega (arith, size))
  as_long (x ∷ xs) [] check other size fits fits_other same = absurd (omega (arith, size))
  as_long (x ∷ xs) (y ∷ ys) check other size fits fits_other same =
      as_long_step check other x y xs ys fits fits_other
      (as_long xs ys (next_check hash check x) (next_check hash other y) (omega (arith, size))
      (long (check ++ x)) (long (other ++ y)) same)

  last-append : (front back : List (List ℕ)) (check : List ℕ)
      → last_check hash check (front ++ back) ≡ last_check hash (last_check hash check front) back
  last-append [] back check = refl
  last-append (x ∷ front) back check = last-append front back (next_check hash check x)

  last_fits : (xs : List (List ℕ)) (check : List ℕ) → length check ≡ 64
      → length (last_check hash check xs) ≡ 64
  last_fits [] check fits = fits
  last_fits (x ∷ xs) check fits = last_fits xs (next_check hash check x) (long (check ++ x))

  -- the check of the last of some records is a hash
  last_is_hash : (xs : List (List ℕ)) (x check : List ℕ)
      → (text : List ℕ) × (last_check hash check (x ∷ xs) ≡ hash text)
  last_is_hash [] x check = (check ++ x, refl)
  last_is_hash (y ∷ xs) x check = last_is_hash xs y (next_check hash check x)

  -- the longer of two chains goes on with the other
  pub longer : (xs front back : List (List ℕ)) → length xs ≡ length back
      → last_check hash first_check xs ≡ last_check hash first_check (front ++ back)
      → (xs ≡ front ++ back) ⊎ HasTwin hash
  longer xs front back size same =
      by_rest front (as_long xs back first_check (last_check hash first_check front) size refl
      (last_fits front first_check refl) (same ∙ last-append front back first_check))
    where
      by_rest : (front : List (List ℕ)) → AsLong first_check (last_check hash first_check front) xs back
          → (xs ≡ front ++ back) ⊎ HasTwin hash
      by_rest front (inr twin) = inr twin
      by_rest [] (inl (checks, rest)) = inl rest
      by_rest (x ∷ front) (inl (checks, rest)) =
          let found = last_is_hash front x first_check in
          inr (inr (found.0, sym found.1 ∙ sym checks))

  other_way : {A : Type 0} (x y : A) → (x ≡ y) ⊎ HasTwin hash → (y ≡ x) ⊎ HasTwin hash
  other_way x y (inl same) = inl (sym same)
  other_way x y (inr twin) = inr twin

  pub one_chain_of : (xs ys : List (List ℕ))
      → last_check hash first_check xs ≡ last_check hash first_check ys
      → (xs ≡ ys) ⊎ HasTwin hash
  one_chain_of xs ys same = by_order (dichotomy (length xs) (length ys))
    where
      dichotomy : (n m : ℕ) → (n ≤ m) ⊎ (m ≤ n)
      dichotomy zero m = inl (omega arith)
      dichotomy (suc n) zero = inr (omega arith)
      dichotomy (suc n) (suc m) = step (dichotomy n m)
        where
          step : ((n ≤ m) ⊎ (m ≤ n)) → (suc n ≤ suc m) ⊎ (suc m ≤ suc n)
          step (inl below) = inl (omega (arith, below))
          step (inr above) = inr (omega (arith, above))

      by_order : ((length xs ≤ length ys) ⊎ (length ys ≤ length xs)) → (xs ≡ ys) ⊎ HasTwin hash
      by_order (inl short) =
          let more = length ys - length xs in
          let whole : take more ys ++ drop more ys ≡ ys = take-append-drop more ys in
          subst (λ (zs : List (List ℕ)). (xs ≡ zs) ⊎ HasTwin hash) whole
          (longer xs (take more ys) (drop more ys) (omega (arith, short, length-drop more ys))
          (same ∙ ap (last_check hash first_check) (sym whole)))
      by_order (inr long_) =
          let more = length xs - length ys in
          let whole : take more xs ++ drop more xs ≡ xs = take-append-drop more xs in
          other_way ys xs
          (subst (λ (zs : List (List ℕ)). (ys ≡ zs) ⊎ HasTwin hash) whole
          (longer ys (take more xs) (drop more xs) (omega (arith, long_, length-drop more xs))
          (sym same ∙ ap (last_check hash first_check) (sym whole))))

pub one_chain_law : IsOneChain
one_chain_law = λ hash long one other same. one_chain_of hash long one other same
