-- The rows of a tree, distinguished by their rowids.
use Rattle.std.proofs.Common.{◌≡◌, inl, inr, ℤ, List, [], ◌∷◌, filter, ◌||◌, Bool, true, false, not}
use Rattle.std.proofs.Common.{cond, refl, sym, ap, subst, ◌∙◌, Ordering, Less, Equal, Greater}
use Rattle.std.proofs.Common.{is_eq, true≢false, IsPermutation}
use Rattle.std.specs.List.{AllByRecursion, list_any, IsDistinct}
use Rattle.std.specs.Cmp.{both_ways}
use Rattle.std.specs.Ordering.{match_ordering}
use Rattle.std.proofs.lemmas.Bool.{or_parts}
use Rattle.std.proofs.lemmas.Cmp.{tied_itself}
use Rattle.std.proofs.lemmas.Map.Keys.{IsDistinct-IsPermutation}
use Rattle.std.proofs.lemmas.List.Sorted.{IsPermutation-refl, IsPermutation-trans}
use Rattle.std.proofs.lemmas.List.Sorted.{IsPermutation-cons, IsPermutation-middle}
use Rattle.sqlite_value.specs.declared.value.Value.{Value}
use Rattle.sqlite_value.specs.declared.value.Value.TheVariants.{Null, Int, Real, Text, Blob}
use Rattle.sqlite_value.specs.Order.{Row, value_cmp}
use Rattle.sqlite_value.proofs.OrderLemmas.{value_cmp_total}
use Rattle.sqlite_trees.specs.Tree.{IsAscending, rowid, has_rowid, put_row, without_rowid}
use Rattle.sqlite_trees.specs.View.{is_int}
use Rattle.sqlite_trees.proofs.ListLemmas.{all_weaker, all-permutation, all-filter}
use Rattle.sqlite_trees.proofs.ListLemmas.{ascending-filter, filter_same, filter_none}
use Rattle.sqlite_rules.specs.Lists.{Has}
use Rattle.sqlite_rules.specs.Edit.{id_in, without_all, is_taken}
use Rattle.sqlite_rules.proofs.ListLemmas.{all_has, all_from, some_has, some_from}
use Rattle.room_tables_schema.specs.TableTrees.{AreNumbered}
use Rattle.room_tables_schema.proofs.Rising.{is_eq-reverse}

-- the rows have one rowid
abbrev pub alike : Row → Row → Bool
alike a b = is_eq (value_cmp (rowid a) (rowid b))

alike_back : (a b : Row) → alike a b ≡ alike b a
alike_back a b = ap is_eq (value_cmp_total.antisymm (rowid a) (rowid b)) ∙ is_eq-reverse _

pub alike_itself : (r : Row) → alike r r ≡ true
alike_itself r = ap is_eq (tied_itself value_cmp_total (rowid r))

pub is_int_in : (tree : List Row) (r : Row) → AreNumbered tree → Has tree r
    → is_int (rowid r) ≡ true
is_int_in tree r n h = all_has (λ x. is_int (rowid x) ≡ true) tree r n.1 h

-- two rows with one rowid are one
pub one_row : (tree : List Row) (a b : Row) → AreNumbered tree → Has tree a → Has tree b
    → alike a b ≡ true → a ≡ b
one_row [] a b n h k same = absurd h
one_row (r ∷ tree) a b n (inl e) (inl f) same = e ∙ sym f
one_row (r ∷ tree) a b n (inl e) (inr k) same =
    absurd (true≢false (sym same ∙ ap (λ x. alike x b) e ∙ all_has (λ y. alike r y ≡ false) tree b n.0.0 k))
one_row (r ∷ tree) a b n (inr h) (inl f) same =
    absurd
    (true≢false (sym same ∙ alike_back a b ∙ ap (λ x. alike x a) f ∙ all_has (λ y. alike r y ≡ false) tree a n.0.0 h))
one_row (r ∷ tree) a b n (inr h) (inr k) same = one_row tree a b (n.0.1, n.1.1) h k same

-- only a row has its rowid
pub filter-alike : (tree : List Row) (r : Row) → AreNumbered tree → Has tree r
    → filter (λ a. alike a r) tree ≡ r ∷ []
filter-alike [] r n h = absurd h
filter-alike (x ∷ tree) r n (inl e) =
    rw (
      ap (alike x) e ∙ alike_itself x,
      filter_none (λ a. alike a r) tree
          (all_from _ tree (λ y h. ap (alike y) e ∙ alike_back y x ∙ all_has (λ z. alike x z ≡ false) tree y n.0.0 h)),
    ) (ap (λ y. y ∷ []) (sym e))
filter-alike (x ∷ tree) r n (inr h) =
    rw (all_has (λ z. alike x z ≡ false) tree r n.0.0 h) (filter-alike tree r (n.0.1, n.1.1) h)

pub numbered-filter : (p : Row → Bool) (tree : List Row) → AreNumbered tree
    → AreNumbered (filter p tree)
numbered-filter p tree h = (ascending-filter _ p tree h.0, all-filter (λ r. is_int (rowid r) ≡ true) p tree h.1)

-- ---- a row that comes in

-- no row has the new row's rowid
abbrev IsFree : Row → List Row → Type 0
IsFree new tree = is_taken tree new ≡ false

pub put_row_has : (new : Row) (tree : List Row) → IsFree new tree
    → IsPermutation (new ∷ tree) (put_row new tree)
put_row_has new [] h = IsPermutation-refl _
put_row_has new (r ∷ tree) h = go (value_cmp (rowid r) (rowid new)) refl (put_row_has new tree)
  where
    parts : (alike r new ≡ false) × IsFree new tree
    parts = or_parts _ _ h

    go : (o : Ordering) → value_cmp (rowid r) (rowid new) ≡ o
        → (IsFree new tree → IsPermutation (new ∷ tree) (put_row new tree))
        → IsPermutation (new ∷ r ∷ tree) (match_ordering o (r ∷ put_row new tree) (new ∷ tree)
        (new ∷ r ∷ tree))
    go Less e more =
        IsPermutation-trans _ _ _ (IsPermutation-middle (new ∷ []) r tree) (IsPermutation-cons r _ _ (more parts.1))
    go Equal e more = absurd (true≢false (sym (ap is_eq e) ∙ parts.0))
    go Greater e more = IsPermutation-refl _

to_distinct : (tree : List Row) → IsAscending (λ a b. alike a b ≡ false) tree
    → IsDistinct alike tree
unfolding IsDistinct
to_distinct [] h = tt
to_distinct (r ∷ tree) h = (h.0, to_distinct tree h.1)

from_distinct : (tree : List Row) → IsDistinct alike tree
    → IsAscending (λ a b. alike a b ≡ false) tree
unfolding IsDistinct
from_distinct [] h = tt
from_distinct (r ∷ tree) h = (h.0, from_distinct tree h.1)

-- the order of the rows does not matter
pub numbered-permutation : (xs ys : List Row) → IsPermutation xs ys → AreNumbered xs
    → AreNumbered ys
numbered-permutation xs ys same h = (
  from_distinct ys (IsDistinct-IsPermutation alike alike_back xs ys same (to_distinct xs h.0)),
  all-permutation (λ r. is_int (rowid r) ≡ true) xs ys same h.1,
)

none_alike : (new : Row) (tree : List Row) → IsFree new tree
    → AllByRecursion (λ r. alike new r ≡ false) tree
none_alike new [] h = tt
none_alike new (r ∷ tree) h = let p = or_parts _ _ h in (alike_back new r ∙ p.0, none_alike new tree p.1)

pub numbered-put_row : (new : Row) (tree : List Row) → is_int (rowid new) ≡ true → IsFree new tree
    → AreNumbered tree → AreNumbered (put_row new tree)
numbered-put_row new tree int free h =
    numbered-permutation (new ∷ tree) (put_row new tree) (put_row_has new tree free)
    ((none_alike new tree free, h.0), (int, h.1))

-- ---- rows that go out

pub Int-id_in : (v : Value) → is_int v ≡ true → v ≡ Int (id_in v)
Int-id_in Null h = absurd (true≢false (sym h))
Int-id_in (Int n) h = refl
Int-id_in (Real x) h = absurd (true≢false (sym h))
Int-id_in (Text t) h = absurd (true≢false (sym h))
Int-id_in (Blob b) h = absurd (true≢false (sym h))

-- the rows without some rowids are those that fail a test, where the test says which rowids these
-- are
without_all_is : (test : Row → Bool) (ids : List ℤ) (tree : List Row)
    → AllByRecursion (λ r. list_any (λ id. has_rowid id r) ids ≡ test r) tree
    → without_all tree ids ≡ filter (λ r. not (test r)) tree
without_all_is test ids tree h =
    go ids tree
    ∙ filter_same _ (λ r. not (test r)) tree
    (all_weaker _ (λ r. not (list_any (λ id. has_rowid id r) ids) ≡ not (test r)) (λ r e. ap not e) tree h)
  where
    twice : (p q : Row → Bool) (xs : List Row)
        → filter (λ r. not (q r)) (filter (λ r. not (p r)) xs) ≡ filter (λ r. not (p r || q r)) xs
    twice p q [] = refl
    twice p q (x ∷ xs) = step (p x) (q x) refl (twice p q xs)
      where
        step : (a b : Bool) → q x ≡ b → filter (λ r. not (q r)) (filter (λ r. not (p r)) xs)
            ≡ filter (λ r. not (p r || q r)) xs
            → filter (λ r. not (q r)) (cond (not a) (x ∷ filter (λ r. not (p r)) xs)
            (filter (λ r. not (p r)) xs)) ≡ cond (not (a || b))
            (x ∷ filter (λ r. not (p r || q r)) xs) (filter (λ r. not (p r || q r)) xs)
        step true b f more = more
        step false true f more = rw f more
        step false false f more = rw f (ap (λ l. x ∷ l) more)

    none : (xs : List Row) → xs ≡ filter (λ r. not false) xs
    none [] = refl
    none (x ∷ xs) = ap (λ l. x ∷ l) (none xs)

    go : (more : List ℤ) (xs : List Row)
        → without_all xs more ≡ filter (λ r. not (list_any (λ id. has_rowid id r) more)) xs
    go [] xs = none xs
    go (id ∷ more) xs =
        go more (without_rowid id xs) ∙ twice (has_rowid id) (λ r. list_any (λ i. has_rowid i r) more) xs

-- where the rowids are those of the rows that pass, just those rows go
pub without_all-passing : (tree : List Row) (test : Row → Bool) (ids : List ℤ) → AreNumbered tree
    → ((r : Row) → Has tree r → test r ≡ true → Has ids (id_in (rowid r)))
    → ((id : ℤ) → Has ids id → (r : Row) × Has tree r × (test r ≡ true) × (id ≡ id_in (rowid r)))
    → without_all tree ids ≡ filter (λ r. not (test r)) tree
without_all-passing tree test ids numbered complete sound =
    without_all_is test ids tree (all_from _ tree (λ r h. both_ways _ _ (back r h) (there r h)))
  where
    there : (r : Row) → Has tree r → test r ≡ true → list_any (λ id. has_rowid id r) ids ≡ true
    there r h passes =
        some_from (λ id. has_rowid id r) ids (id_in (rowid r)) (complete r h passes)
        (subst (λ v. is_eq (value_cmp (rowid r) v) ≡ true) (Int-id_in (rowid r) (is_int_in tree r numbered h))
        (alike_itself r))

    back : (r : Row) → Has tree r → list_any (λ id. has_rowid id r) ids ≡ true → test r ≡ true
    back r h any =
        let it = some_has (λ id. has_rowid id r) ids any in
        let from = sound it.0 it.1 in
        let int = Int-id_in (rowid from.0) (is_int_in tree from.0 numbered from.1) in
        let same : alike r from.0
        ≡ true = subst (λ v. is_eq (value_cmp (rowid r) v) ≡ true) (ap Int from.3 ∙ sym int) it.2 in
        subst (λ x. test x ≡ true) (sym (one_row tree r from.0 numbered h from.1 same)) from.2
