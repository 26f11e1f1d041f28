-- What a change does to rows kept beside a table, and to a list whose elements each follow it.
use Rattle.std.proofs.Common.{Bool, List, [], arith, cond, false, get_or, length, map, refl, set}
use Rattle.std.proofs.Common.{suc, subst, sym, take, true, ℕ, ◌+◌, ◌++◌, ◌<◌, ◌∙◌, ◌∷◌, ◌≡◌}
use Rattle.std.proofs.lemmas.List.{get_or-set_other, map-append}
use Rattle.std.proofs.lemmas.List.Elements.{All-cons, All-head, All-map, All-tail}
use Rattle.std.proofs.lemmas.List.Elements.{AllWithin-more_set}
use Rattle.std.proofs.lemmas.List.Quantifiers.{all_pairs_push}
use Rattle.std.specs.Cmp.{IsTotalOrder}
use Rattle.std.specs.List.{AllWithin}
use Rattle.std.specs.Ordering.{is_eq, match_ordering}
use Rattle.std.specs.Prelude.{All, AllPairs, filter, remove, ◌≢◌}
use Rattle.std.specs.declared.cmp.Ordering.{Ordering}
use Rattle.std.specs.declared.cmp.Ordering.TheVariants.{Equal, Greater, Less}
use Rattle.room_types.proofs.KeyedLaws.{filter_put, keyed_taken, with_passing}
use Rattle.room_types.specs.KeyedRows.{IsKeyed, drop_row, put_row}
use Rattle.room_tables.proofs.Streams.{put_end}

module _ {R K : Type 0} (cmp : K → K → Ordering) (key : R → K) (total : IsTotalOrder cmp) where
  -- a row is put in the table: it is put in those that pass, or the one of its key is taken out
  pub pass_put : (p : R → Bool) (kept all : List R) (x : R) (passes : Bool) → passes ≡ p x
      → IsKeyed cmp key all → kept ≡ filter p all
      → cond passes (put_row cmp key kept x) (drop_row cmp key kept (key x))
      ≡ filter p (put_row cmp key all x)
  pass_put p kept all x passes is keyed e = rw (filter_put cmp key total p all x keyed, is, e) refl

  -- one row more that passes, put among those before it
  pub put_passing : (p : R → Bool) (table rows : List R) (i : ℕ) (x : R)
      → IsKeyed cmp key table → i < length table → x ≡ get_or table i x
      → rows ≡ filter p (take i table) → p x ≡ true
      → put_row cmp key rows x ≡ filter p (take (i + 1) table)
  put_passing p table rows i x keyed inside here so_far passes =
      let more = with_passing p table rows i x inside here so_far passes in
      put_end cmp key total rows x
      (subst (IsKeyed cmp key) (sym more) (keyed_taken cmp key total p table (i + 1) keyed)) ∙ more

module _ {R K : Type 0} (cmp : K → K → Ordering) (key : R → K) where
  -- what is so of each row stays so where one more is put, and where one is taken out
  all_put : (P : R → Type 0) (xs : List R) (x : R) → P x → All P xs
      → All P (put_row cmp key xs x)
  all_put P [] x here all = All-cons P x [] here all
  all_put P (y ∷ ys) x here all =
      elim (cmp (key x)
      (key y)) as (λ (o : Ordering). All P (match_ordering o (x ∷ y ∷ ys) (x ∷ ys) (y ∷ put_row cmp key ys x))) [
        | Less ↦ All-cons P x (y ∷ ys) here all
        | Equal ↦ All-cons P x ys here (All-tail P y ys all)
        | Greater ↦ All-cons P y _ (All-head P y ys all) (all_put P ys x here (All-tail P y ys all))
      ]

  all_drop : (P : R → Type 0) (xs : List R) (k : K) → All P xs → All P (drop_row cmp key xs k)
  all_drop P [] k all = all
  all_drop P (y ∷ ys) k all =
      elim (is_eq (cmp k (key y))) as (λ (b : Bool). All P (cond b ys (y ∷ drop_row cmp key ys k))) [
        | true ↦ All-tail P y ys all
        | false ↦ All-cons P y _ (All-head P y ys all) (all_drop P ys k (All-tail P y ys all))
      ]

  -- so it does where a row is kept only if that is so of it
  pub all_kept : (P : R → Type 0) (xs : List R) (x : R) (is_kept : Bool) → (is_kept ≡ true → P x)
      → All P xs → All P (cond is_kept (put_row cmp key xs x) (drop_row cmp key xs (key x)))
  all_kept P xs x true here all = all_put P xs x (here refl) all
  all_kept P xs x false here all = all_drop P xs (key x) all

-- where one of a list is set, those after it stay as they are
pub others_stay : {X : Type 0} (P : X → Type 0) (xs : List X) (at end : ℕ) (x : X)
    → AllWithin P xs at end → AllWithin P (set xs at x) (at + 1) end
others_stay P xs at end x all k d low high =
    subst P (sym (get_or-set_other xs at k x d (omega arith))) (all k d (omega arith) high)

-- and one more of those before it has followed
pub one_follows : {X : Type 0} (P Q : X → Type 0) (xs : List X) (at end : ℕ) (x y : X)
    → at < length xs → at < end → x ≡ get_or xs at x → (P x → Q y)
    → AllWithin P xs at end → AllWithin Q xs 0 at → AllWithin Q (set xs at y) 0 (at + 1)
one_follows P Q xs at end x y inside low here follows left made =
    AllWithin-more_set xs at y inside Q made (follows (subst P (sym here) (left at x (omega arith) low)))

-- where none has the key that one more has, no two have one key with it
pub apart_push : {X K : Type 0} (f : X → K) (xs : List X) (x : X) (is_pushed : Bool)
    → All (λ y. f y ≢ f x) xs → AllPairs (λ c d. c ≢ d) (map f xs)
    → AllPairs (λ c d. c ≢ d) (map f (cond is_pushed (xs ++ x ∷ []) xs))
apart_push f xs x true others apart =
    rw (map-append f xs (x ∷ []))
    (all_pairs_push (λ c d. c ≢ d) (map f xs) (f x) apart (All-map (λ c. c ≢ f x) f xs others))
apart_push f xs x false others apart = apart

-- nor have two where the first is taken out
pub apart_rest : {X K : Type 0} (f : X → K) (xs : List X) → AllPairs (λ c d. c ≢ d) (map f xs)
    → AllPairs (λ c d. c ≢ d) (map f (remove xs 0))
apart_rest f [] apart = apart
apart_rest f (x ∷ xs) apart = λ i j d lt within. apart (suc i) (suc j) d (omega arith) (omega arith)
