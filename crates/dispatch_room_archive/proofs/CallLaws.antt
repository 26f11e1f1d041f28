-- The last call of a position, and the incidents that calls keep.
use Rattle.std.proofs.Common.{ap, arith, eq-eqb, eqb-true, inl, inr, subst, sym, ◌∙◌}
use Rattle.std.proofs.lemmas.Bool.Decides.{nat_tests}
use Rattle.std.proofs.Common.{Bor}
use Rattle.std.proofs.lemmas.List.{take_more}
use Rattle.std.proofs.lemmas.List.Folds.{list_any-append}
use Rattle.std.specs.BTreeSet.{BTreeSet, Updates, contains}
use Rattle.std.specs.Cmp.{ranked}
use Rattle.std.specs.List.{list_any}
use Rattle.std.specs.Ordering.{is_eq, is_ge, nat_cmp, ordering_then}
use Rattle.std.specs.Slice.{IsItemAt}
use Rattle.std.specs.Prelude.{Bool, List, None, Option, Some, [], cond, false, filter, get_or}
use Rattle.std.specs.Prelude.{length, max, nat_le, not, option_copied, refl, slice_get, suc, take}
use Rattle.std.specs.Prelude.{true, zero, ℕ, ◌&&◌, ◌+◌, ◌++◌, ◌<◌, ◌==◌, ◌||◌, ◌∷◌, ◌≡◌, ◌≤◌, ◌⊎◌}
use Rattle.std.specs.declared.cmp.Ordering.{Ordering}
use Rattle.std.specs.declared.cmp.Ordering.TheVariants.{Equal, Greater, Less}
use Rattle.room_types.specs.KeyedRows.{IsBelowAll, IsKeyed}
use Rattle.room_types.specs.Keys.{call_key, pair_cmp}
use Rattle.room_types.specs.declared.tables.Call.{Call}
use Rattle.room_model.specs.Queries.{greatest_serial}
use Rattle.dispatch_room_archive.specs.CalledIncidents.{AreCalled, is_end, is_recent_of}

-- ---- the last of a position
abbrev greatest_of : ℕ → List Call → ℕ
greatest_of p cs = greatest_serial (filter (λ c. c.position == p) cs)

of_its_position : (p : ℕ) (x : Call) (xs : List Call) → x.position == p ≡ true
    → greatest_of p (x ∷ xs) ≡ max x.serial (greatest_of p xs)
of_its_position p x xs e = rw e refl

of_another : (p : ℕ) (x : Call) (xs : List Call) → x.position == p ≡ false
    → greatest_of p (x ∷ xs) ≡ greatest_of p xs
of_another p x xs e = rw e refl

not_same : (a b : ℕ) → (a ≡ b → ⊥) → a == b ≡ false
not_same a b f = (elim (a == b) as (λ (x : Bool). a == b ≡ x → x ≡ false) [
  | true ↦ λ e. absurd (f (eqb-true a b e))
  | false ↦ λ e. refl
]) refl

-- a lower key is of a lower position, or of the same and a lower serial
lower_key : (a b : ℕ × ℕ) → pair_cmp a b ≡ Less → (a.0 < b.0) ⊎ ((a.0 ≡ b.0) × (a.1 < b.1))
lower_key a b e =
    (elim (nat_cmp a.0 b.0) as (λ (o : Ordering).
    nat_cmp a.0 b.0 ≡ o → ordering_then o (nat_cmp a.1 b.1) ≡ Less → (a.0 < b.0) ⊎ ((a.0 ≡ b.0) × (a.1 < b.1))) [
      | Less ↦ λ f g. inl (ranked a.0 b.0 Less (sym f))
      | Equal ↦ λ f g. inr (ranked a.0 b.0 Equal (sym f), ranked a.1 b.1 Less (sym g))
      | Greater ↦ λ f g. cc
    ]) refl e

below_get : (k : ℕ × ℕ) (xs : List Call) (at : ℕ) (c : Call) → IsBelowAll pair_cmp call_key k xs
    → slice_get xs at ≡ Some c → pair_cmp k (call_key c) ≡ Less
below_get k [] at c h e = cc
below_get k (x ∷ xs) zero c h e = let same : x ≡ c = cc in subst (λ (z : Call). pair_cmp k (call_key z) ≡ Less) same h.0
below_get k (x ∷ xs) (suc at) c h e = below_get k xs at c h.1 e

-- no call of the position stands after a call of a later one
none_after : (p : ℕ) (k : ℕ × ℕ) (xs : List Call) → p < k.0 → IsBelowAll pair_cmp call_key k xs
    → greatest_of p xs ≡ 0
none_after p k [] less h = refl
none_after p k (x ∷ xs) less h =
    let later : p
    < x.position =
    elim (lower_key k (call_key x) h.0) [ inl f ↦ omega (arith, less, f) | inr f ↦ omega (arith, less, f.0) ] in
    of_another p x xs (not_same x.position p (λ e. omega (arith, later, e))) ∙ none_after p k xs less h.1

with_more : (p : ℕ) (x : Call) (xs : List Call) → greatest_of p xs ≤ greatest_of p (x ∷ xs)
with_more p x xs = of (x.position == p)
  where
    of : (b : Bool)
        → greatest_of p xs
        ≤ greatest_serial (cond b (x ∷ filter (λ c. c.position == p) xs) (filter (λ c. c.position == p) xs))
    of true = omega arith
    of false = omega arith

-- a call is not above the greatest of its position
at_most : (xs : List Call) (at : ℕ) (c : Call) → slice_get xs at ≡ Some c
    → c.serial ≤ greatest_of c.position xs
at_most [] at c e = cc
at_most (x ∷ xs) zero c e =
    let same : x ≡ c = cc in
    subst (λ (z : Call). z.serial ≤ greatest_of z.position (x ∷ xs)) same
    (let first = of_its_position x.position x xs (eq-eqb x.position x.position refl) in omega (arith, first))
at_most (x ∷ xs) (suc at) c e =
    let rest = at_most xs at c e in let more = with_more c.position x xs in omega (arith, rest, more)

first_end : (x : Call) (xs : List Call) → IsKeyed pair_cmp call_key (x ∷ xs)
    → is_end x (slice_get xs zero) ≡ (x.serial == greatest_of x.position (x ∷ xs))
first_end x [] h =
    sym (eq-eqb x.serial _
    (let first = of_its_position x.position x [] (eq-eqb x.position x.position refl) in omega (arith, first)))
first_end x (y ∷ ys) h = elim (lower_key (call_key x) (call_key y) h.0.0) [
  | inl less ↦
      let none = of_another x.position y ys (not_same y.position x.position (λ e. omega (arith, less, e)))
      ∙ none_after x.position (call_key y) ys less h.1.0 in
      let first = of_its_position x.position x (y ∷ ys) (eq-eqb x.position x.position refl) in
      ap not (not_same y.position x.position (λ e. omega (arith, less, e)))
      ∙ sym (eq-eqb x.serial (greatest_of x.position (x ∷ y ∷ ys)) (omega (arith, first, none)))
  | inr lower ↦
      let position : y.position == x.position ≡ true = eq-eqb y.position x.position (sym lower.0) in
      let first = of_its_position x.position x (y ∷ ys) (eq-eqb x.position x.position refl) in
      let second = of_its_position x.position y ys position in
      ap not position
      ∙ sym (not_same x.serial (greatest_of x.position (x ∷ y ∷ ys)) (λ e. omega (arith, first, second, lower.1, e)))
]

-- in key order a call is the last of its position where the next is of another
pub end_is_last : (xs : List Call) (at : ℕ) (c : Call) → IsKeyed pair_cmp call_key xs
    → slice_get xs at ≡ Some c
    → is_end c (slice_get xs (suc at)) ≡ (c.serial == greatest_of c.position xs)
end_is_last [] at c h e = cc
end_is_last (x ∷ xs) zero c h e =
    let same : x ≡ c = cc in
    subst (λ (z : Call). is_end z (slice_get xs zero) ≡ (z.serial == greatest_of z.position (x ∷ xs))) same
    (first_end x xs h)
end_is_last (x ∷ xs) (suc at) c h e =
    end_is_last xs at c h.1 e
    ∙ ap (λ n. c.serial == n) (sym (elim (lower_key (call_key x) (call_key c) (below_get (call_key x) xs at c h.0 e)) [
      | inl less ↦ of_another c.position x xs (not_same x.position c.position (λ f. omega (arith, less, f)))
      | inr lower ↦
          let most = at_most xs at c e in
          let here = of_its_position c.position x xs (eq-eqb x.position c.position lower.0) in
          omega (arith, most, here, lower.1)
    ]))

-- ---- the incidents that calls keep
same_number : (m n : ℕ) → is_eq (nat_cmp m n) ≡ (m == n)
same_number m n = grind (arith, nat_tests)

both_same : (o p : Ordering) → is_eq (ordering_then o p) ≡ (is_eq o && is_eq p)
both_same Less p = refl
both_same Equal p = refl
both_same Greater p = refl

same_pair : (a b : ℕ × ℕ) → is_eq (pair_cmp a b) ≡ (a.0 == b.0 && a.1 == b.1)
same_pair a b =
    both_same (nat_cmp a.0 b.0) (nat_cmp a.1 b.1) ∙ ap (λ x. x && is_eq (nat_cmp a.1 b.1)) (same_number a.0 b.0)
    ∙ ap (λ x. a.0 == b.0 && x) (same_number a.1 b.1)

or_last : (x y before : Bool) → cond (x && y) true before ≡ (before || ((x && (y && true)) || false))
or_last true true true = refl
or_last true true false = refl
or_last true false true = refl
or_last true false false = refl
or_last false y true = refl
or_last false y false = refl

or_none : (x y before : Bool) → before ≡ (before || ((x && (y && false)) || false))
or_none true true true = refl
or_none true true false = refl
or_none true false true = refl
or_none true false false = refl
or_none false y true = refl
or_none false y false = refl

module _ (since : ℕ) (calls first : List Call) (c : Call) (old : BTreeSet (ℕ × ℕ))
    (so_far : AreCalled since calls first old) where
  calls_of_it : ℕ → ℕ → Call → Bool
  calls_of_it d n x = x.division == d && (x.incident == n && is_recent_of since calls x)

  pub called_more : (new : BTreeSet (ℕ × ℕ)) → is_recent_of since calls c ≡ true
      → Updates pair_cmp old new (c.division, c.incident) true
      → AreCalled since calls (first ++ c ∷ []) new
  unfolding calls_of_it
  called_more new recent updates d n =
      updates.0 (d, n)
      ∙ (ap (λ b. cond b true (contains pair_cmp old (d, n))) (same_pair (c.division, c.incident) (d, n))
      ∙ (ap (λ b. cond (c.division == d && c.incident == n) true b) (so_far d n)
      ∙ (or_last (c.division == d) (c.incident == n) (list_any (calls_of_it d n) first)
      ∙ (ap (λ b. list_any (calls_of_it d n) first || ((c.division == d && (c.incident == n && b)) || false))
      (sym recent)
      ∙ sym (list_any-append (calls_of_it d n) first (c ∷ []))))))

  pub called_same : is_recent_of since calls c ≡ false
      → AreCalled since calls (first ++ c ∷ []) old
  unfolding calls_of_it
  called_same late d n =
      so_far d n
      ∙ (or_none (c.division == d) (c.incident == n) (list_any (calls_of_it d n) first)
      ∙ (ap (λ b. list_any (calls_of_it d n) first || ((c.division == d && (c.incident == n && b)) || false)) (sym late)
      ∙ sym (list_any-append (calls_of_it d n) first (c ∷ []))))

-- ---- the next call of a walk
pub at_least : (a b : ℕ) → is_ge (nat_cmp a b) ≡ nat_le b a
at_least a b = grind (arith, nat_tests)

pub both_false : (x y : Bool) → x ≡ false → y ≡ false → x || y ≡ false
both_false true y e f = e
both_false false y e f = f

at_index : (xs : List Call) (i : ℕ) (d x : Call) → i < length xs → x ≡ get_or xs i d
    → slice_get xs i ≡ Some x
at_index [] i d x less e = absurd (omega (arith, less))
at_index (y ∷ ys) zero d x less e = ap Some (sym e)
at_index (y ∷ ys) (suc i) d x less e = at_index ys i d x (omega (arith, less)) e

past_end : (xs : List Call) (i : ℕ) → length xs ≤ i → slice_get xs i ≡ None
past_end [] i past = refl
past_end (y ∷ ys) zero past = absurd (omega (arith, past))
past_end (y ∷ ys) (suc i) past = past_end ys i (omega (arith, past))

item_is : (xs : List Call) (i : ℕ) (r : Option (Bor Call)) → IsItemAt xs i r
    → option_copied r ≡ slice_get xs i
item_is xs i None h = sym (past_end xs i h.3)
item_is xs i (Some x) h = sym (at_index xs i x.now x.now h.3.0 h.1)

module _ (since : ℕ) (calls : List Call) (at : ℕ) (c : Call) (inside : at < length calls)
    (here : c ≡ get_or calls at c) where
  -- the next call shows whether this one is recent
  pub end_shows : (next : Option (Bor Call)) → IsKeyed pair_cmp call_key calls
      → IsItemAt calls (at + 1) next
      → is_end c (option_copied next) ≡ (c.serial == greatest_of c.position calls)
  end_shows next keyed item =
      let on : at + 1 ≡ suc at = omega arith in
      ap (is_end c) (item_is calls (at + 1) next item ∙ ap (slice_get calls) on)
      ∙ end_is_last calls at c keyed (at_index calls at c c inside here)

  one_on : take (at + 1) calls ≡ take at calls ++ c ∷ []
  one_on = take_more calls at c inside ∙ ap (λ x. take at calls ++ x ∷ []) (sym here)

  pub next_more : (old new : BTreeSet (ℕ × ℕ)) → AreCalled since calls (take at calls) old
      → is_recent_of since calls c ≡ true
      → Updates pair_cmp old new (c.division, c.incident) true
      → AreCalled since calls (take (at + 1) calls) new
  next_more old new so_far recent updates =
      subst (λ first. AreCalled since calls first new) (sym one_on)
      (called_more since calls (take at calls) c old so_far new recent updates)

  pub next_same : (old : BTreeSet (ℕ × ℕ)) → AreCalled since calls (take at calls) old
      → is_recent_of since calls c ≡ false → AreCalled since calls (take (at + 1) calls) old
  next_same old so_far late =
      subst (λ first. AreCalled since calls first old) (sym one_on)
      (called_same since calls (take at calls) c old so_far late)
