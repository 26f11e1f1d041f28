-- The numbers of the incidents that were merged into one.
use Rattle.std.proofs.Common.{Bool, List, [], ap, eqb-true, false, not, refl, subst, sym, true, ℕ}
use Rattle.std.proofs.Common.{◌&&◌, ◌++◌, ◌∙◌, ◌∷◌, ◌≡◌, ◌||◌}
use Rattle.std.specs.List.{list_any}
use Rattle.std.specs.Prelude.{◌==◌}
use Rattle.room_types.specs.declared.tables.Call.{Call}
use Rattle.room_model.specs.Queries.{is_given}
use Rattle.room_store_cache.specs.IncidentNumbers.{contains}
use Rattle.room_store_cache.proofs.Filters.{and_none, or_assoc, or_none}
use Rattle.room_store_reads.specs.RequestReads.{is_merged}

-- the test of each number says whether it is one of them
pub contained : (n : ℕ) (ms : List ℕ) → list_any (λ m. m == n) ms ≡ contains n ms
contained n [] = refl
contained n (m ∷ ms) = ap (λ b. (m == n) || b) (contained n ms)

-- one more number
pub contains_last : (n m : ℕ) (ms : List ℕ) → contains n (ms ++ m ∷ []) ≡ contains n ms || (m == n)
contains_last n m [] = or_none (m == n)
contains_last n m (k ∷ ms) = ap (λ b. (k == n) || b) (contains_last n m ms) ∙ or_assoc (k == n) (contains n ms) (m == n)

-- one more call
given_last : (n : ℕ) (c : Call) (cs : List Call)
    → is_given (cs ++ c ∷ []) n ≡ is_given cs n || (c.given == n)
given_last n c [] = or_none (c.given == n)
given_last n c (x ∷ cs) =
    ap (λ b. (x.given == n) || b) (given_last n c cs) ∙ or_assoc (x.given == n) (is_given cs n) (c.given == n)

and_either : (a b c : Bool) → (a && b) || (a && c) ≡ a && (b || c)
and_either true b c = refl
and_either false b c = refl

pub merged_none : (m n : ℕ) → is_merged m [] n ≡ false
merged_none m n = and_none (not (m == n))

pub merged_last : (n m : ℕ) (c : Call) (cs : List Call)
    → is_merged m cs n || (not (m == n) && c.given == n) ≡ is_merged m (cs ++ c ∷ []) n
merged_last n m c cs =
    and_either (not (m == n)) (is_given cs n) (c.given == n)
    ∙ ap (λ b. not (m == n) && b) (sym (given_last n c cs))

module _ (n m g : ℕ) (ns : List ℕ) where
  -- the number itself, or one that is there, adds nothing
  nothing_new : (a b : Bool) → a || b ≡ true → b ≡ b || (not a && true)
  nothing_new true b known = sym (or_none b)
  nothing_new false b known = rw known refl

  pub without_other : (m == g) || contains g ns ≡ true
      → contains n ns ≡ contains n ns || (not (m == n) && g == n)
  without_other known =
      (elim (g == n) as (λ (b : Bool). (g == n) ≡ b → contains n ns ≡ contains n ns || (not (m == n) && b)) [
        | true ↦
            λ e.
            subst (λ k. contains k ns ≡ contains k ns || (not (m == k) && true)) (eqb-true g n e)
            (nothing_new (m == g) (contains g ns) known)
        | false ↦ λ e. sym (ap (λ b. contains n ns || b) (and_none (not (m == n))) ∙ or_none (contains n ns))
      ]) refl

  -- another one is added
  another : (m == g) ≡ false → (g == n) ≡ not (m == n) && g == n
  another apart = (elim (g == n) as (λ (b : Bool). (g == n) ≡ b → b ≡ not (m == n) && b) [
    | true ↦ λ e. rw (subst (λ k. (m == k) ≡ false) (eqb-true g n e) apart) refl
    | false ↦ λ e. sym (and_none (not (m == n)))
  ]) refl

  first_false : (a b : Bool) → a || b ≡ false → a ≡ false
  first_false true b e = e
  first_false false b e = refl

  pub with_other : (m == g) || contains g ns ≡ false
      → contains n (ns ++ g ∷ []) ≡ contains n ns || (not (m == n) && g == n)
  with_other unknown =
      contains_last n g ns ∙ ap (λ b. contains n ns || b) (another (first_false (m == g) (contains g ns) unknown))
