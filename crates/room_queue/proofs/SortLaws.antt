-- Entries that are sorted, and shown once each, are a queue.
use Rattle.std.proofs.Common.{ap, arith, inl, inr, refl, subst, sym, ◌∙◌}
use Rattle.std.proofs.lemmas.Cmp.{eq_by_cmp_equiv}
use Rattle.std.proofs.lemmas.List.Elements.{All-cons, All-contains, All-weaker}
use Rattle.std.proofs.lemmas.List.Elements.{Contains-append_left, Contains-append_right}
use Rattle.std.proofs.lemmas.List.Elements.{Contains-push}
use Rattle.std.proofs.lemmas.List.Kept.{Contains-dedup, Contains-from_dedup}
use Rattle.std.proofs.lemmas.List.Kept.{IsStrictlySortedBy-dedup}
use Rattle.std.proofs.lemmas.List.Sorted.{Contains-permutation, IsPermutation-sym}
use Rattle.std.specs.Cmp.{IsEquivalence, both_tied, unsigned_ties}
use Rattle.std.specs.List.{All, AllByRecursion, Contains, dedup}
use Rattle.std.specs.List.Sorted.{IsPermutation, IsSorted, IsStrictlySortedBy}
use Rattle.std.specs.Option.{option_cmp, option_eq}
use Rattle.std.specs.Ordering.{eq_by_cmp, is_eq, is_lt, nat_cmp, ordering_then}
use Rattle.std.specs.Prelude.{Bool, List, None, Option, Some, [], slice_index_or, true, ◌&&◌, ◌+◌}
use Rattle.std.specs.Prelude.{◌==◌, ◌∷◌, ◌≡◌}
use Rattle.std.specs.declared.cmp.Ordering.{Ordering}
use Rattle.std.specs.declared.cmp.Ordering.TheVariants.{Less}
use Rattle.room_place.specs.Choice.{Among}
use Rattle.room_types.proofs.RankLaws.{same_ranks, tied_ranks}
use Rattle.room_types.specs.contracts.ranks.RankOrd.TheImpl.{cmp-value}
use Rattle.room_types.specs.contracts.ranks.RankPartialEq.TheImpl.{eq-value}
use Rattle.room_types.specs.KeyedRows.{IsBelowAll, IsKeyed}
use Rattle.room_types.specs.Keys.{callsign_cmp, entry_cmp, entry_key, option_callsign_cmp}
use Rattle.room_types.specs.KeyLemmas.{entries_total, exact_entries}
use Rattle.room_types.specs.Texts.{Callsign}
use Rattle.room_types.specs.declared.answers.QueueEntry.{QueueEntry}
use Rattle.room_model.proofs.Tests.{is_equal}
use Rattle.room_model.specs.Queue.{IsQueueOf}

-- ---- the order and the test that entries have in code
abbrev pub code_cmp : QueueEntry → QueueEntry → Ordering
code_cmp a b =
    ordering_then (cmp-value.it a.rank b.rank) (ordering_then (nat_cmp a.since b.since)
    (ordering_then (nat_cmp a.number b.number) (option_cmp callsign_cmp a.callsign b.callsign)))

abbrev pub alike : QueueEntry → QueueEntry → Bool
alike a b =
    eq-value.it a.rank b.rank
    && (a.since == b.since && (a.number == b.number && option_eq (eq_by_cmp callsign_cmp) a.callsign b.callsign))

same_options : (a b : Option Callsign) → option_cmp callsign_cmp a b ≡ option_callsign_cmp a b
same_options None None = refl
same_options None (Some b) = refl
same_options (Some a) None = refl
same_options (Some a) (Some b) = refl

same_cmp : (a b : QueueEntry) → code_cmp a b ≡ entry_cmp a b
same_cmp a b i =
    ordering_then (same_ranks a.rank b.rank i)
    (ordering_then (nat_cmp a.since b.since)
    (ordering_then (nat_cmp a.number b.number) (same_options a.callsign b.callsign i)))

tied_options : (a b : Option Callsign)
    → option_eq (eq_by_cmp callsign_cmp) a b ≡ is_eq (option_callsign_cmp a b)
tied_options None None = refl
tied_options None (Some b) = refl
tied_options (Some a) None = refl
tied_options (Some a) (Some b) = refl

tied : (a b : QueueEntry) → alike a b ≡ eq_by_cmp entry_cmp a b
tied a b =
    both_tied _ _ _ _ (tied_ranks a.rank b.rank) (both_tied _ _ _ _ (unsigned_ties a.since b.since)
    (both_tied _ _ _ _ (unsigned_ties a.number b.number) (tied_options a.callsign b.callsign)))

alike_equiv : IsEquivalence alike
alike_equiv = let by_cmp = eq_by_cmp_equiv entries_total in record {
  refl = λ a. tied a a ∙ by_cmp.refl a;
  symm = λ a b. tied a b ∙ (by_cmp.symm a b ∙ sym (tied b a));
  congr = λ a b c e. tied a c ∙ (by_cmp.congr a b c (sym (tied a b) ∙ e) ∙ sym (tied b c));
}

alike_same : (a b : QueueEntry) → alike a b ≡ true → a ≡ b
alike_same a b e = exact_entries a b (is_equal _ (sym (tied a b) ∙ e))

-- ---- strictly in order
below_all : (x : QueueEntry) (xs : List QueueEntry) → AllByRecursion (λ y. entry_cmp x y ≡ Less) xs
    → IsBelowAll entry_cmp entry_key x xs
below_all x [] h = tt
below_all x (y ∷ ys) h = (h.0, below_all x ys h.1)

keyed : (xs : List QueueEntry) → IsStrictlySortedBy entry_cmp xs → IsKeyed entry_cmp entry_key xs
unfolding IsStrictlySortedBy
keyed [] h = tt
keyed (x ∷ xs) h = (below_all x xs h.0, keyed xs h.1)

-- ---- the same entries
contained : (xs : List QueueEntry) (x : QueueEntry) → Among x xs → Contains xs x
contained [] x a = absurd a
contained (y ∷ ys) x a = elim a [
  | inl e ↦ subst (λ z. Contains (z ∷ ys) x) e (Contains-append_left (x ∷ []) ys x (Contains-push [] x))
  | inr b ↦ Contains-append_right (y ∷ []) ys x (contained ys x b)
]

all_among : (xs : List QueueEntry) → All (λ x. Among x xs) xs
all_among [] = λ k d low. let none : ⊥ = omega arith in absurd none
all_among (x ∷ xs) =
    All-cons (λ y. Among y (x ∷ xs)) x xs (inl refl)
    (All-weaker (λ y. Among y xs) (λ y. Among y (x ∷ xs)) (λ y a. inr a) xs (all_among xs))

among : (xs : List QueueEntry) (x : QueueEntry) → Contains xs x → Among x xs
among xs x h = All-contains (λ y. Among y xs) xs x (all_among xs) h

pub sorted_queue : (all sorted : List QueueEntry) → IsPermutation all sorted → IsSorted code_cmp sorted
    → IsQueueOf all (dedup alike sorted)
sorted_queue all sorted moved rises = record {
  increasing =
      keyed _
      (IsStrictlySortedBy-dedup entries_total tied sorted (λ k d low high.
      ap is_lt (sym (same_cmp (slice_index_or sorted (k + 1) d) (slice_index_or sorted k d))) ∙ rises k d low high));
  there =
      λ e a.
      among _ e
      (Contains-dedup alike_equiv alike_same sorted e (Contains-permutation all sorted e moved (contained all e a)));
  only =
      λ e a.
      among all e
      (Contains-permutation sorted all e (IsPermutation-sym all sorted moved)
      (Contains-from_dedup alike sorted e (contained _ e a)));
}
