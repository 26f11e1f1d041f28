-- One row more of those that are judged, and of those that are kept of them.
use Rattle.std.proofs.Common.{◌≡◌, ◌++◌, Bool, true, cond, List, [], ◌∷◌, Option, Ordering, ap}
use Rattle.std.proofs.Common.{subst, sym, ◌∙◌}
use Rattle.std.specs.Cmp.{IsTotalOrder}
use Rattle.std.specs.List.{list_all}
use Rattle.std.specs.Prelude.{◌&&◌, filter, is_none}
use Rattle.std.proofs.Math.Bool.{and-true}
use Rattle.std.proofs.lemmas.List.Elements.{filter-append}
use Rattle.std.proofs.lemmas.List.Folds.{list_all-append}
use Rattle.room_types.specs.KeyedRows.{IsKeyed}
use Rattle.room_types.proofs.KeyedLaws.{keyed_filter}
use Rattle.room_store_check_rows.specs.declared.disagreements.Disagreement.{Disagreement}
use Rattle.room_store_check_tables.specs.JudgedHistories.{AreJudged}

module _ {X : Type 0} (p : X → Bool) (before : List X) (x : X) (passes : p x ≡ true) where
  -- a row that passes comes last of those that do
  pub passing_last : filter p (before ++ x ∷ []) ≡ filter p before ++ x ∷ []
  passing_last = filter-append p before (x ∷ []) ∙ ap (λ b. filter p before ++ cond b (x ∷ []) []) passes

  -- and they are in the order of their keys
  pub passing_keyed : {K : Type 0} (cmp : K → K → Ordering) (key : X → K) → IsTotalOrder cmp
      → IsKeyed cmp key (before ++ x ∷ []) → IsKeyed cmp key (filter p before ++ x ∷ [])
  passing_keyed cmp key total keyed =
      subst (IsKeyed cmp key) passing_last (keyed_filter cmp key total p (before ++ x ∷ []) keyed)

-- whether all pass, of one row more
all_more : {X : Type 0} (p : X → Bool) (rows : List X) (x : X)
    → (list_all p rows && p x) ≡ list_all p (rows ++ x ∷ [])
all_more p rows x = sym (list_all-append p rows (x ∷ []) ∙ ap (λ b. list_all p rows && b) (and-true (p x)))

module _ {X Kept : Type 0} {disagreement : X → Option Disagreement}
    {keeps : List X → Kept → Type 0} {rows : List X} {well fit fit' : Bool}
    {first kept kept' : Kept} where
  -- one row more is judged
  pub judged_more : (x : X) → fit' ≡ (fit && is_none (disagreement x))
      → (keeps rows kept → keeps (rows ++ x ∷ []) kept')
      → AreJudged disagreement keeps well first rows fit kept
      → AreJudged disagreement keeps well first (rows ++ x ∷ []) fit' kept'
  judged_more x is more so_far = record {
    agree =
        λ all.
        is ∙ ap (λ b. b && is_none (disagreement x)) (so_far.agree all)
        ∙ all_more (λ y. is_none (disagreement y)) rows x;
    keep = λ none. more (so_far.keep none);
  }
