-- A type of rows written as rows of SQL.
use Rattle.std.specs.Prelude.{◌≡◌, ℕ, List, Option, pos}
use Rattle.std.specs.declared.cmp.Ordering.{Ordering}
use Rattle.std.specs.Cmp.{IsTotalOrder}
use Rattle.sqlite_value.specs.declared.value.Value.{Value}
use Rattle.sqlite_value.specs.declared.value.Value.TheVariants.{Int}
use Rattle.sqlite_value.specs.Order.{Row}
use Rattle.sqlite_sql.specs.Query.{key_cmp}
use Rattle.sqlite.specs.Values.{or_null}
use Rattle.room_tables_schema.specs.TableTrees.{keys}

-- A row is read back as it was written, and SQL orders the rows as their keys are ordered.
pub record IsFaithful {X K : Type 0} (order : K → K → Ordering) (key : X → K) (row : X → Row)
    (key_places : List ℕ) : Type 0 where
  pub read : Row → X
  pub read_back : (x : X) → read (row x) ≡ x
  pub total : IsTotalOrder order
  pub ordered : (x y : X) → key_cmp 0 (keys key_places) (row x) (row y) ≡ order (key x) (key y)

-- a number in a column, and one that may be absent
abbrev pub number : ℕ → Value
number n = Int (pos n)

abbrev pub number_or_null : Option ℕ → Value
number_or_null = or_null number
