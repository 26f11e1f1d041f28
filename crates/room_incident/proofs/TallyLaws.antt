-- What one number more does to the tallies of incidents, and what they count.
use Rattle.std.proofs.Common.{Bool, List, [], ap, arith, cond, eq-eqb, false, get_or, length, map}
use Rattle.std.proofs.Common.{not, refl, set, suc, sym, take, true, zero, ℕ, ◌+◌, ◌++◌, ◌<◌, ◌&&◌}
use Rattle.std.proofs.Common.{◌∙◌, ◌∷◌, ◌≡◌, ◌≤◌, ◌||◌}
use Rattle.std.proofs.lemmas.List.{get_or-map, length-take, map-append}
use Rattle.std.proofs.lemmas.Bool.Decides.{nat_tests}
use Rattle.std.proofs.lemmas.List.Filters.{length-filter_both, length-filter_more}
use Rattle.std.specs.Cmp.{IsTotalOrder}
use Rattle.std.specs.List.{list_any}
use Rattle.std.specs.Ordering.{is_eq, nat_cmp, ordering_reverse, ordering_then}
use Rattle.std.specs.Prelude.{filter, min, ◌==◌}
use Rattle.std.specs.declared.cmp.Ordering.{Ordering}
use Rattle.std.specs.declared.cmp.Ordering.TheVariants.{Equal, Greater, Less}
use Rattle.room_types.proofs.KeyedLaws.{below_from_less, with_passing, without_failing}
use Rattle.room_types.specs.KeyedRows.{IsAt, IsBelowAll, IsGapFor, IsKeyed}
use Rattle.room_types.specs.Codes.{is_active, same_kind}
use Rattle.room_types.specs.Keys.{incident_key, pair_cmp}
use Rattle.room_types.specs.KeyLemmas.{pairs_total}
use Rattle.room_types.specs.declared.codes.Kind.{Kind}
use Rattle.room_types.specs.declared.tables.Call.{Call}
use Rattle.room_types.specs.declared.tables.Incident.{Incident}
use Rattle.room_types.specs.declared.tables.Turn.{Turn}
use Rattle.room_model.specs.Queries.{counts}
use Rattle.room_incident.specs.Tallies.{call_numbers, served_numbers, serves_here, times}

or_false : (a b : Bool) → a || b ≡ false → (a ≡ false) × (b ≡ false)
or_false true b e = cc
or_false false b e = (refl, e)

and_none : (b : Bool) → b && false ≡ false
and_none true = refl
and_none false = refl

module _ {R K : Type 0} (cmp : K → K → Ordering) (key : R → K) (total : IsTotalOrder cmp)
    (f : R → ℕ) where
  -- one more for the row of a key
  abbrev pub added : K → R → ℕ
  added k x = cond (is_eq (cmp k (key x))) (suc (f x)) (f x)

  past : (j k : K) → cmp j k ≡ Less → cmp k j ≡ Greater
  past j k e = total.antisymm k j ∙ ap ordering_reverse e

  before : (j k : K) → cmp j k ≡ Greater → cmp k j ≡ Less
  before j k e = total.antisymm k j ∙ ap ordering_reverse e

  same : (j k : K) → cmp j k ≡ Equal → cmp k j ≡ Equal
  same j k e = total.antisymm k j ∙ ap ordering_reverse e

  below_none : (k : K) (xs : List R) → IsBelowAll cmp key k xs → map f xs ≡ map (added k) xs
  below_none k [] h = refl
  below_none k (x ∷ xs) h = rw (h.0, below_none k xs h.1) refl

  level_none : (j k : K) (xs : List R) → cmp k j ≡ Equal → IsBelowAll cmp key j xs
      → map f xs ≡ map (added k) xs
  level_none j k [] e h = refl
  level_none j k (x ∷ xs) e h = rw (total.congr k j (key x) e ∙ h.0, level_none j k xs e h.1) refl

  -- where no row has the key, all stay
  pub none_added : (xs : List R) (k : K) (i : ℕ) → IsKeyed cmp key xs → IsGapFor cmp key xs k i
      → map f xs ≡ map (added k) xs
  none_added [] k i keyed gap = refl
  none_added (x ∷ xs) k zero keyed gap =
      below_none k (x ∷ xs) (below_from_less cmp key total k x xs (before (key x) k gap) keyed)
  none_added (x ∷ xs) k (suc i) keyed gap = rw (past (key x) k gap.0, none_added xs k i keyed.1 gap.1) refl

  -- and where one has it, only its tally is greater
  pub one_added : (xs : List R) (k : K) (i d : ℕ) → IsKeyed cmp key xs → IsAt cmp key xs k i
      → set (map f xs) i (suc (get_or (map f xs) i d)) ≡ map (added k) xs
  one_added [] k i d keyed at = absurd at
  one_added (x ∷ xs) k zero d keyed at =
      rw (same (key x) k at, level_none (key x) k xs (same (key x) k at) keyed.0) refl
  one_added (x ∷ xs) k (suc i) d keyed at = rw (past (key x) k at.0, one_added xs k i d keyed.1 at.1) refl

cond_more : (b : Bool) (n : ℕ) → n + cond b 1 0 ≡ cond b (suc n) n
cond_more true n = omega arith
cond_more false n = omega arith

-- a number more is counted at its incident
counted_more : (d : ℕ) (numbers : List ℕ) (j e m : ℕ) (i : Incident) → j < length numbers
    → m ≡ get_or numbers j e
    → times d (take (j + 1) numbers) i
    ≡ added pair_cmp incident_key pairs_total (times d (take j numbers)) (d, m) i
counted_more d numbers j e m i inside here =
    length-filter_more (λ n. is_eq (pair_cmp (d, n) (incident_key i))) numbers j e inside
    ∙ (cond_more _ _ ∙ ap (λ n. added pair_cmp incident_key pairs_total (times d (take j numbers)) (d, n) i) (sym here))

map_as : {X Y : Type 0} (f g : X → Y) (xs : List X) → ((x : X) → f x ≡ g x)
    → map f xs ≡ map g xs
map_as f g xs e i = map (λ x. e x i) xs

-- no tally is greater than the number of numbers
pub at_most : (p : ℕ → Bool) (numbers : List ℕ) → length (filter p numbers) ≤ length numbers
at_most p numbers = omega (arith, length-filter_both p (λ n. not (p n)) (λ n. refl) numbers)

then_eq : (a b : Ordering) → is_eq (ordering_then a b) ≡ is_eq a && is_eq b
then_eq Less b = refl
then_eq Equal b = refl
then_eq Greater b = refl

same_number : (m n : ℕ) → is_eq (nat_cmp m n) ≡ (m == n)
same_number m n = grind (arith, nat_tests)

own_pair : (d n m : ℕ) → is_eq (pair_cmp (d, n) (d, m)) ≡ (n == m)
own_pair d n m =
    then_eq (nat_cmp d d) (nat_cmp n m)
    ∙ ((λ i. same_number d d i && same_number n m i) ∙ ap (λ b. b && (n == m)) (eq-eqb d d refl))

tally_one : {X : Type 0} (own : X → Bool) (num : X → ℕ) (p : ℕ → Bool) (x : X) (xs : List X)
    (b c : Bool) → b ≡ own x → c ≡ p (num x)
    → length (filter p (map num (filter own xs))) ≡ length (filter (λ x. own x && p (num x)) xs)
    → length (filter p (map num (cond b (x ∷ filter own xs) (filter own xs))))
    ≡ length (cond (b && c) (x ∷ filter (λ x. own x && p (num x)) xs)
    (filter (λ x. own x && p (num x)) xs))
tally_one own num p x xs true true e f h = rw (← f) (ap suc h)
tally_one own num p x xs true false e f h = rw (← f) h
tally_one own num p x xs false c e f h = h

-- the numbers that pass, of those that are listed of rows, are as many as the rows that pass both
tallied : {X : Type 0} (own : X → Bool) (num : X → ℕ) (p : ℕ → Bool) (xs : List X)
    → length (filter p (map num (filter own xs))) ≡ length (filter (λ x. own x && p (num x)) xs)
tallied own num p [] = refl
tallied own num p (x ∷ xs) = tally_one own num p x xs (own x) (p (num x)) refl refl (tallied own num p xs)

filter_as : {X : Type 0} (p q : X → Bool) (xs : List X) → ((x : X) → p x ≡ q x)
    → filter p xs ≡ filter q xs
filter_as p q xs e i = filter (λ x. e x i) xs

-- an incident's tally of calls is how many calls are its own
pub calls_tallied : (d : ℕ) (i : Incident) (calls : List Call) → i.division ≡ d
    → times d (call_numbers d calls) i
    ≡ length (filter (λ c. c.division == d && c.incident == i.number) calls)
calls_tallied d i calls own =
    tallied (λ c. c.division == d) (λ c. c.incident) (λ n. is_eq (pair_cmp (d, n) (incident_key i))) calls
    ∙ ap (λ (l : List Call). length l) (filter_as _ _ calls (λ c.
    ap (λ b. (c.division == d) && b)
    (ap (λ e. is_eq (pair_cmp (d, c.incident) (e, i.number))) own ∙ own_pair d c.incident i.number)))

and_across : (a b c : Bool) → (a && b) && c ≡ a && (c && b)
and_across true true true = refl
and_across true true false = refl
and_across true false true = refl
and_across true false false = refl
and_across false b c = refl

and_deep : (a b c e : Bool) → (a && (b && c)) && e ≡ a && (e && (b && c))
and_deep a b c e = and_across a (b && c) e

-- and its tally of turns of a kind is what it got
pub turns_tallied : (d : ℕ) (k : Kind) (i : Incident) (turns : List Turn) → i.division ≡ d
    → times d (served_numbers d k turns) i
    ≡ length (filter (λ t. t.division == d && (t.incident == i.number && (same_kind t.kind k && counts t))) turns)
turns_tallied d k i turns own =
    tallied (serves_here d k) (λ t. t.incident) (λ n. is_eq (pair_cmp (d, n) (incident_key i))) turns
    ∙ ap (λ (l : List Turn). length l) (filter_as _ _ turns (λ t.
    ap (λ b. serves_here d k t && b)
    (ap (λ e. is_eq (pair_cmp (d, t.incident) (e, i.number))) own ∙ own_pair d t.incident i.number)
    ∙ and_deep (t.division == d) (same_kind t.kind k) (counts t) (t.incident == i.number)))

-- where none is active, none of those that pass is
pub none_active : (p : Incident → Bool) (xs : List Incident)
    → list_any (λ i. is_active i.state) xs ≡ false
    → filter (λ i. p i && is_active i.state) xs ≡ []
none_active p [] e = refl
none_active p (x ∷ xs) e =
    let parts = or_false (is_active x.state) _ e in
    rw (parts.0, and_none (p x)) (none_active p xs parts.1)

-- the tally at an incident's place
pub at_place : (f : Incident → ℕ) (tallies : List ℕ) (xs : List Incident) (at e : ℕ) (x : Incident)
    → tallies ≡ map f xs → at < length xs → x ≡ get_or xs at x → get_or tallies at e ≡ f x
at_place f tallies xs at e x are inside here =
    ap (λ ts. get_or ts at e) are ∙ (get_or-map f xs at x e inside ∙ ap f (sym here))

module _ (d : ℕ) (numbers : List ℕ) (j e m : ℕ) (rows : List Incident) (tallies : List ℕ)
    (at : ℕ) (inside : j < length numbers) (here : m ≡ get_or numbers j e)
    (keyed : IsKeyed pair_cmp incident_key rows)
    (so_far : tallies ≡ map (times d (take j numbers)) rows) where
  -- the next number is an incident's
  pub one_counted : (v f : ℕ) → IsAt pair_cmp incident_key rows (d, m) at → v ≡ get_or tallies at f
      → set tallies at (v + 1) ≡ map (times d (take (j + 1) numbers)) rows
  one_counted v f found is =
      (λ t. set (so_far t) at ((is ∙ ap (λ l. get_or l at f) so_far) t + 1))
      ∙ (ap (λ n. set (map (times d (take j numbers)) rows) at n) (omega arith)
      ∙ (one_added pair_cmp incident_key pairs_total (times d (take j numbers)) rows (d, m) at f keyed found
      ∙ sym (map_as _ _ rows (λ i. counted_more d numbers j e m i inside here))))

  -- or no incident's
  pub none_counted : IsGapFor pair_cmp incident_key rows (d, m) at
      → tallies ≡ map (times d (take (j + 1) numbers)) rows
  none_counted gap =
      so_far
      ∙ (none_added pair_cmp incident_key pairs_total (times d (take j numbers)) rows (d, m) at keyed gap
      ∙ sym (map_as _ _ rows (λ i. counted_more d numbers j e m i inside here)))

-- what is at most a number for each incident is so at a place
pub all_within : (f : Incident → ℕ) (n : ℕ) → ((x : Incident) → f x ≤ n) → (xs : List Incident)
    (i e : ℕ) → i < length xs → get_or (map f xs) i e ≤ n
all_within f n h [] i e inside = absurd (omega (arith, inside))
all_within f n h (x ∷ xs) zero e inside = h x
all_within f n h (x ∷ xs) (suc i) e inside = all_within f n h xs i e (omega (arith, inside))

-- one incident more is looked at: its line is added, where it passes
module _ {Y : Type 0} (f : Incident → Y) (p : Incident → Bool) (xs : List Incident) (lines : List Y)
    (i : ℕ) (x : Incident) (inside : i < length xs) (here : x ≡ get_or xs i x)
    (so_far : lines ≡ map f (filter p (take i xs))) where
  pub shown_more : (y : Y) → p x ≡ true → y ≡ f x
      → lines ++ y ∷ [] ≡ map f (filter p (take (i + 1) xs))
  shown_more y passes is =
      (λ t. so_far t ++ (is t) ∷ [])
      ∙ (sym (map-append f (filter p (take i xs)) (x ∷ []))
      ∙ ap (map f) (with_passing p xs (filter p (take i xs)) i x inside here refl passes))

  pub left_out : p x ≡ false → lines ≡ map f (filter p (take (i + 1) xs))
  left_out fails = so_far ∙ ap (map f) (without_failing p xs (filter p (take i xs)) i x inside here refl fails)

min_within : (j n : ℕ) → min j n ≤ j
min_within j n = omega arith

-- a tally is at most how many numbers were counted
pub tally_within : (d : ℕ) (numbers : List ℕ) (j : ℕ) (rows : List Incident) (tallies : List ℕ)
    (at v f : ℕ) → tallies ≡ map (times d (take j numbers)) rows → at < length rows
    → v ≡ get_or tallies at f → v ≤ j
tally_within d numbers j rows tallies at v f so_far inside is =
    let most : get_or (map (times d (take j numbers)) rows) at f
    ≤ length (take j numbers) =
    all_within (times d (take j numbers)) _
    (λ i. at_most (λ n. is_eq (pair_cmp (d, n) (incident_key i))) (take j numbers)) rows at f inside in
    omega (arith, most, is ∙ ap (λ l. get_or l at f) so_far, length-take j numbers, min_within j (length numbers))
