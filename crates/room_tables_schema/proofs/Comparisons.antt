-- SQL's comparisons, and what a column makes of a value.
use Rattle.std.proofs.Common.{◌≡◌, ◌==◌, ◌&&◌, ◌||◌, ℕ, pos, List, [], ◌∷◌, Bool, true, false, not}
use Rattle.std.proofs.Common.{Some, refl, sym, ap, ◌∙◌, Ordering, Less, Equal, Greater, is_eq}
use Rattle.std.proofs.Common.{true≢false, arith}
use Rattle.std.specs.Cmp.Lexicographic.{slice_cmp}
use Rattle.std.specs.Ordering.{nat_cmp, int_cmp, ordering_then, is_ne}
use Rattle.std.proofs.lemmas.Bool.Decides.{nat_tests}
use Rattle.std.proofs.lemmas.Cmp.{nat_list_cmp_total}
use Rattle.std.proofs.lemmas.Int.{ints}
use Rattle.sqlite_value.specs.declared.value.Value.{Value}
use Rattle.sqlite_value.specs.declared.value.Value.TheVariants.{Null, Int, Real, Text, Blob}
use Rattle.sqlite_value.specs.declared.keys.Collation.TheVariants.{Binary}
use Rattle.sqlite_value.specs.Order.{Row, column, value_cmp}
use Rattle.sqlite_value.proofs.OrderLemmas.{value_cmp-Int, value_cmp-Text, value_cmp-Null}
use Rattle.sqlite_value.proofs.OrderLemmas.{then-Equal}
use Rattle.sqlite_trees.specs.Tree.{rowid}
use Rattle.sqlite_trees.specs.View.{is_int}
use Rattle.sqlite_sql.specs.declared.ops.BinaryOp.TheVariants.{Compare, Coalesce}
use Rattle.sqlite_sql.specs.declared.ops.CompareOp.{CompareOp}
use Rattle.sqlite_sql.specs.declared.ops.CompareOp.TheVariants.{Eq, Ne}
use Rattle.sqlite_sql.specs.Ops.{binary, is_null, is_true, from_truth, test}
use Rattle.sqlite_schema.specs.Rules.{equal, differ}
use Rattle.room_tables_schema.proofs.Rising.{is_eq-reverse}
use Rattle.room_tables_schema.specs.Statements.{passes, equals}

pub false_from_not : (b : Bool) → not b ≡ true → b ≡ false
false_from_not true h = absurd (true≢false (sym h))
false_from_not false h = refl

pub is_Equal : (o : Ordering) → is_eq o ≡ true → o ≡ Equal
is_Equal Less h = absurd (true≢false (sym h))
is_Equal Equal h = refl
is_Equal Greater h = absurd (true≢false (sym h))

-- a comparison in SQL, as WHERE takes it
abbrev pub compare_by : CompareOp → Value → Value → Bool
compare_by op a b = is_true (binary (Compare op Binary) a b)

-- ---- two values

-- apart from NULL a comparison is a test of the order
compare_by-value_cmp : (op : CompareOp) (a b : Value) → is_null a ≡ false → is_null b ≡ false
    → compare_by op a b ≡ test op (value_cmp a b)
unfolding binary
compare_by-value_cmp op a b h k =
    rw (h, k)
    (elim (test op (value_cmp a b)) as (λ t. is_true (from_truth (Some t)) ≡ t) [ true ↦ refl | false ↦ refl ])

null_differs : (b : Value) → is_null b ≡ false → is_eq (value_cmp Null b) ≡ false
null_differs Null h = absurd (true≢false h)
null_differs (Int n) h = ap is_eq (value_cmp-Null (Int n))
null_differs (Real x) h = ap is_eq (value_cmp-Null (Real x))
null_differs (Text t) h = ap is_eq (value_cmp-Null (Text t))
null_differs (Blob b) h = ap is_eq (value_cmp-Null (Blob b))

-- `=` with a value that is not NULL is the tie of the order, whatever the other is
pub equal-value_cmp : (a b : Value) → is_null b ≡ false → equal Binary a b ≡ is_eq (value_cmp a b)
unfolding binary
equal-value_cmp Null b k = sym (null_differs b k)
equal-value_cmp (Int n) b k = compare_by-value_cmp Eq (Int n) b refl k
equal-value_cmp (Real x) b k = compare_by-value_cmp Eq (Real x) b refl k
equal-value_cmp (Text t) b k = compare_by-value_cmp Eq (Text t) b refl k
equal-value_cmp (Blob t) b k = compare_by-value_cmp Eq (Blob t) b refl k

-- so is `<>` the lack of one
pub differ-value_cmp : (a b : Value) → is_null a ≡ false → is_null b ≡ false
    → is_eq (value_cmp a b) ≡ false → differ a b ≡ true
differ-value_cmp a b h k apart = compare_by-value_cmp Ne a b h k ∙ untied (value_cmp a b) apart
  where
    untied : (o : Ordering) → is_eq o ≡ false → is_ne o ≡ true
    untied Less e = refl
    untied Equal e = absurd (true≢false e)
    untied Greater e = refl

-- a plus before a column keeps its value
plus_keeps : (v : Value) → binary Coalesce v Null ≡ v
unfolding binary
plus_keeps Null = refl
plus_keeps (Int n) = refl
plus_keeps (Real x) = refl
plus_keeps (Text t) = refl
plus_keeps (Blob b) = refl

pub equal-by_value : (a b : Value) → equal Binary (binary Coalesce a Null) b ≡ equal Binary a b
equal-by_value a b = ap (λ v. equal Binary v b) (plus_keeps a)

-- numbers are ordered as numbers
pub value_cmp-numbers : (m n : ℕ) → value_cmp (Int (pos m)) (Int (pos n)) ≡ nat_cmp m n
value_cmp-numbers m n =
    let same : nat_cmp m n ≡ int_cmp (pos m) (pos n) = grind (arith, ints) in value_cmp-Int (pos m) (pos n) ∙ sym same

pub equal-numbers : (m n : ℕ) → equal Binary (Int (pos m)) (Int (pos n)) ≡ (m == n)
equal-numbers m n =
    let same : is_eq (nat_cmp m n) ≡ (m == n) = grind (arith, nat_tests) in
    compare_by-value_cmp Eq (Int (pos m)) (Int (pos n)) refl refl ∙ ap is_eq (value_cmp-numbers m n) ∙ same

pub equal-texts : (s t : List ℕ) → equal Binary (Text s) (Text t) ≡ is_eq (slice_cmp nat_cmp s t)
equal-texts s t = compare_by-value_cmp Eq (Text s) (Text t) refl refl ∙ ap is_eq (value_cmp-Text s t)

-- `=` with a key that is sought, as the tie of that key with the row's
pub tie-numbers : (m n : ℕ) → equal Binary (Int (pos m)) (Int (pos n)) ≡ is_eq (nat_cmp n m)
tie-numbers m n = let same : (m == n) ≡ is_eq (nat_cmp n m) = grind (arith, nat_tests) in equal-numbers m n ∙ same

pub tie-texts : (s t : List ℕ) → equal Binary (Text s) (Text t) ≡ is_eq (slice_cmp nat_cmp t s)
tie-texts s t = equal-texts s t ∙ ap is_eq (nat_list_cmp_total.antisymm s t) ∙ is_eq-reverse _

-- ---- several columns

-- conditions one after another; the last of them stands before an end that always holds
pub and_then : {a b c d : Bool} → a ≡ b → c ≡ d → (a && c) ≡ (b && d)
and_then p q i = p i && q i

pub and_last : {a b : Bool} → a ≡ b → (a && true) ≡ b
and_last {a} p = go a ∙ p
  where
    go : (c : Bool) → (c && true) ≡ c
    go true = refl
    go false = refl

or_false : (b : Bool) → (b || false) ≡ b
or_false true = refl
or_false false = refl

pub is_eq-then : (o p : Ordering) → is_eq (ordering_then o p) ≡ (is_eq o && is_eq p)
is_eq-then Less p = refl
is_eq-then Equal p = refl
is_eq-then Greater p = refl

-- the order of a key of one column, and of two
pub key_of_one : {o p : Ordering} → o ≡ p → ordering_then o Equal ≡ p
key_of_one {o} e = then-Equal o ∙ e

pub key_of_two : {o p q r : Ordering} → o ≡ p → q ≡ r
    → ordering_then o (ordering_then q Equal) ≡ ordering_then p r
key_of_two {q} e f i = ordering_then (e i) (key_of_one f i)

-- the key of a row is that of another, of one column or of two
pub tie_of_one : (a b : Value) → is_null b ≡ false
    → (equal Binary a b && true) ≡ is_eq (ordering_then (value_cmp a b) Equal)
tie_of_one a b k = and_last (equal-value_cmp a b k) ∙ ap is_eq (sym (then-Equal (value_cmp a b)))

pub tie_of_two : (a b c d : Value) → is_null c ≡ false → is_null d ≡ false
    → (equal Binary a c && (equal Binary b d && true))
    ≡ is_eq (ordering_then (value_cmp a c) (ordering_then (value_cmp b d) Equal))
tie_of_two a b c d j k = and_then (equal-value_cmp a c j) (tie_of_one b d k) ∙ sym (is_eq-then (value_cmp a c) _)

-- a row is in the way of a new one where the key ties
pub conflict_of_one : (a b : Value) → is_null b ≡ false
    → ((equal Binary a b && true) || false) ≡ is_eq (ordering_then (value_cmp a b) Equal)
conflict_of_one a b k = or_false _ ∙ tie_of_one a b k

pub conflict_of_two : (a b c d : Value) → is_null c ≡ false → is_null d ≡ false
    → ((equal Binary a c && (equal Binary b d && true)) || false)
    ≡ is_eq (ordering_then (value_cmp a c) (ordering_then (value_cmp b d) Equal))
conflict_of_two a b c d j k = or_false _ ∙ tie_of_two a b c d j k

pub int_present : (v : Value) → is_int v ≡ true → is_null v ≡ false
int_present Null h = absurd (true≢false (sym h))
int_present (Int n) h = refl
int_present (Real x) h = refl
int_present (Text t) h = refl
int_present (Blob b) h = refl

-- the rowid that a parameter names is that of the row
pub passes-rowid : (at : ℕ) (params r a : Row) → is_int (rowid r) ≡ true
    → column params at ≡ rowid r → passes (equals 0 at ∷ []) params a
    ≡ is_eq (value_cmp (rowid a) (rowid r))
passes-rowid at params r a int is =
    and_last ((λ i. equal Binary (rowid a) (is i)) ∙ equal-value_cmp (rowid a) (rowid r) (int_present (rowid r) int))
