-- Filters of what is read, and the tests that its rows pass.
use Rattle.std.proofs.Common.{Bool, List, [], ap, false, refl, sym, true, ℕ, ◌&&◌, ◌∙◌, ◌∷◌, ◌≡◌}
use Rattle.std.specs.Ordering.{is_eq, nat_cmp}
use Rattle.std.specs.Prelude.{filter, ◌==◌}
use Rattle.room_tables_schema.proofs.Comparisons.{is_eq-then}
use Rattle.room_types.specs.Keys.{callsign_cmp, numbered_cmp, pair_cmp, same_callsign}
use Rattle.room_types.specs.Texts.{Callsign}
use Rattle.room_model.proofs.Tests.{and_same}
use Rattle.room_store_cache.proofs.Filters.{and_none, filter_and, filter_as, same_number}
use Rattle.room_store_cache.proofs.Filters.{turned_number}

-- tests that agree on the rows that are owned pass the same of them
pub filter_own : {X : Type 0} (own p q : X → Bool) (xs : List X)
    → ((x : X) → own x ≡ true → p x ≡ q x)
    → filter (λ x. own x && p x) xs ≡ filter (λ x. own x && q x) xs
filter_own own p q xs same = filter_as _ _ xs (λ x. and_same (own x) (p x) (q x) (same x))

pub filter_none : {X : Type 0} (xs : List X) → filter (λ (x : X). false) xs ≡ []
filter_none [] = refl
filter_none (x ∷ xs) = filter_none xs

pub pair_is : (d n a b : ℕ) → is_eq (pair_cmp (d, n) (a, b)) ≡ (a == d) && (n == b)
pair_is d n a b = is_eq-then (nat_cmp d a) (nat_cmp n b) ∙ (λ i. turned_number d a i && same_number n b i)

pub numbered_is : (c e : Callsign) (n m : ℕ)
    → is_eq (numbered_cmp (c, n) (e, m)) ≡ same_callsign c e && (n == m)
numbered_is c e n m = is_eq-then (callsign_cmp c e) (nat_cmp n m) ∙ (λ i. is_eq (callsign_cmp c e) && same_number n m i)

pub and_swapped : (a b : Bool) → a && b ≡ b && a
and_swapped true true = refl
and_swapped true false = refl
and_swapped false true = refl
and_swapped false false = refl

pub and_turned : (a b c : Bool) → a && (b && c) ≡ c && (a && b)
and_turned true true true = refl
and_turned true true false = refl
and_turned true false true = refl
and_turned true false false = refl
and_turned false b true = refl
and_turned false b false = refl

pub and_all : (b : Bool) → b && true ≡ b
and_all true = refl
and_all false = refl

-- no row passes a test that is never met
pub filter_never : {X : Type 0} (p q : X → Bool) (xs : List X) → ((x : X) → q x ≡ false)
    → filter (λ x. p x && q x) xs ≡ []
filter_never p q xs e = filter_as _ (λ x. false) xs (λ x. ap (λ b. p x && b) (e x) ∙ and_none (p x)) ∙ filter_none xs

and_again : (a b : Bool) → a && (a && b) ≡ a && b
and_again true b = refl
and_again false b = refl

-- what a division's number finds is its own
pub own_pair : (d n a b : ℕ) → (a == d) && is_eq (pair_cmp (d, n) (a, b)) ≡ (a == d) && (n == b)
own_pair d n a b = ap (λ c. (a == d) && c) (pair_is d n a b) ∙ and_again (a == d) (n == b)

and_once : (a b : Bool) → (a && b) && b ≡ a && b
and_once true true = refl
and_once true false = refl
and_once false b = refl

-- rows that passed a test pass it again
pub filter_again : {X : Type 0} (p q : X → Bool) (xs : List X)
    → filter q (filter (λ x. p x && q x) xs) ≡ filter (λ x. p x && q x) xs
filter_again p q xs = sym (filter_and (λ x. p x && q x) q xs) ∙ filter_as _ _ xs (λ x. and_once (p x) (q x))
