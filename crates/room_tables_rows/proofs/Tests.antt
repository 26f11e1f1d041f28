-- What SQL's comparisons say of values of the room.
use Rattle.std.proofs.Common.{◌≡◌, ℕ, ◌&&◌, ℤ, List, Bool, true, false, not, Option, Some, None}
use Rattle.std.proofs.Common.{refl, ap, ◌∙◌, is_lt, arith}
use Rattle.std.specs.Prelude.{int_le, int_lt, pos}
use Rattle.std.specs.Ordering.{int_cmp, is_ge}
use Rattle.std.proofs.lemmas.Int.{ints}
use Rattle.sqlite_value.specs.declared.value.Value.TheVariants.{Int, Text}
use Rattle.sqlite_value.specs.declared.keys.Collation.TheVariants.{Binary}
use Rattle.sqlite_value.specs.Order.{value_cmp}
use Rattle.sqlite_value.proofs.OrderLemmas.{value_cmp-Int}
use Rattle.sqlite_sql.specs.declared.ops.CompareOp.TheVariants.{Ge, Lt}
use Rattle.sqlite_sql.specs.declared.ops.CompareOp.{CompareOp}
use Rattle.sqlite_sql.specs.Ops.{binary, from_truth, is_true, test}
use Rattle.sqlite_schema.specs.Rules.{equal}
use Rattle.sqlite_schema.specs.declared.schema.Kind.TheVariants as kind
use Rattle.sqlite_rules.specs.Cast.{cast}
use Rattle.sqlite.specs.Values.{or_null}
use Rattle.room_tables_schema.specs.TypedRows.{number}
use Rattle.room_tables_schema.proofs.Comparisons.{compare_by, equal-numbers}
use Rattle.room_types.specs.Codes.{state_number, is_active}
use Rattle.room_types.specs.declared.codes.State.{State}
use Rattle.room_types.specs.declared.codes.State.TheVariants.{Active, Closed, Merged}
use Rattle.room_tables_rows.specs.ColumnValues.{truth}

-- a state is active where its number is that of Active
pub equal-active : (s : State) → equal Binary (number (state_number s))
    (number (state_number Active)) ≡ is_active s
equal-active Active = equal-numbers 0 0
equal-active Closed = equal-numbers 1 0
equal-active (Merged n) = equal-numbers 2 0

-- a truth value is false where it is 0
pub equal-false : (b : Bool) → equal Binary (truth b) (truth false) ≡ not b
equal-false true = equal-numbers 1 0
equal-false false = equal-numbers 0 0

-- three conditions, before an end that always holds
pub and_three : (a b c : Bool) → (a && (b && (c && true))) ≡ (a && (b && c))
and_three a b true = refl
and_three a b false = refl

-- integers are compared as integers
compare_by-integers : (op : CompareOp) (m n : ℤ)
    → compare_by op (Int m) (Int n) ≡ test op (int_cmp m n)
unfolding binary
compare_by-integers op m n =
    elim (test op (value_cmp (Int m) (Int n))) as (λ t. is_true (from_truth (Some t)) ≡ t)
    [ true ↦ refl | false ↦ refl ] ∙ ap (test op) (value_cmp-Int m n)

pub at_least-integers : (m n : ℤ) → compare_by Ge (Int m) (Int n) ≡ int_le n m
at_least-integers m n =
    let same : is_ge (int_cmp m n) ≡ int_le n m = grind (arith, ints) in compare_by-integers Ge m n ∙ same

pub below-integers : (m n : ℤ) → compare_by Lt (Int m) (Int n) ≡ int_lt m n
below-integers m n =
    let same : is_lt (int_cmp m n) ≡ int_lt m n = grind (arith, ints) in compare_by-integers Lt m n ∙ same

-- a column of texts keeps a text that may be absent
pub cast-text_or_null : (o : Option (List ℕ)) → cast kind.Text (or_null Text o) ≡ or_null Text o
cast-text_or_null None = refl
cast-text_or_null (Some t) = refl
