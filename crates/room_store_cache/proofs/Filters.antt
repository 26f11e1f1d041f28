-- Filters of rows, and the tests that they pass.
use Rattle.std.proofs.Common.{Bool, List, [], arith, cond, false, refl, sym, true, ℕ, ◌&&◌, ◌∙◌}
use Rattle.std.proofs.Common.{◌∷◌, ◌≡◌, ◌||◌}
use Rattle.std.proofs.lemmas.Bool.Decides.{nat_tests}
use Rattle.std.specs.Ordering.{is_eq, nat_cmp}
use Rattle.std.specs.Prelude.{filter, ◌==◌}
use Rattle.room_tables_schema.proofs.Comparisons.{is_eq-then}
use Rattle.room_types.specs.Keys.{pair_cmp}

-- tests that agree pass the same rows
pub filter_as : {X : Type 0} (p q : X → Bool) (xs : List X) → ((x : X) → p x ≡ q x)
    → filter p xs ≡ filter q xs
filter_as p q xs e i = filter (λ x. e x i) xs

cond_and : {X : Type 0} (a b : Bool) (p q : X → Bool) (x : X) (xs : List X) → a ≡ p x → b ≡ q x
    → filter (λ y. p y && q y) xs ≡ filter q (filter p xs)
    → cond (a && b) (x ∷ filter (λ y. p y && q y) xs) (filter (λ y. p y && q y) xs)
    ≡ filter q (cond a (x ∷ filter p xs) (filter p xs))
cond_and true true p q x xs e f h = rw (← f, h) refl
cond_and true false p q x xs e f h = rw (← f, h) refl
cond_and false b p q x xs e f h = h

-- the rows that pass both tests are those of the first that pass the second
pub filter_and : {X : Type 0} (p q : X → Bool) (xs : List X)
    → filter (λ x. p x && q x) xs ≡ filter q (filter p xs)
filter_and p q [] = refl
filter_and p q (x ∷ xs) = cond_and (p x) (q x) p q x xs refl refl (filter_and p q xs)

pub same_number : (m n : ℕ) → is_eq (nat_cmp m n) ≡ (m == n)
same_number m n = grind (arith, nat_tests)

pub turned_number : (m n : ℕ) → is_eq (nat_cmp m n) ≡ (n == m)
turned_number m n = grind (arith, nat_tests)

pub pair_turned : (d n a b : ℕ) → is_eq (pair_cmp (d, n) (a, b)) ≡ (a == d) && (b == n)
pair_turned d n a b = is_eq-then (nat_cmp d a) (nat_cmp n b) ∙ (λ i. turned_number d a i && turned_number n b i)

pub or_none : (b : Bool) → b || false ≡ b
or_none true = refl
or_none false = refl

pub or_assoc : (a b c : Bool) → a || (b || c) ≡ (a || b) || c
or_assoc true b c = refl
or_assoc false b c = refl

pub and_none : (b : Bool) → b && false ≡ false
and_none true = refl
and_none false = refl

own_again : (a b : Bool) → (a && b) && a ≡ a && b
own_again true true = refl
own_again true false = refl
own_again false b = refl

-- rows that were read as a division's are its own
pub filter_owned : {X : Type 0} (own p : X → Bool) (xs : List X)
    → filter own (filter (λ x. own x && p x) xs) ≡ filter (λ x. own x && p x) xs
filter_owned own p xs = sym (filter_and (λ x. own x && p x) own xs) ∙ filter_as _ _ xs (λ x. own_again (own x) (p x))
