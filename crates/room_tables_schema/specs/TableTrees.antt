-- When the tree of a table stands for a list of rows in key order.
use Rattle.std.specs.Prelude.{◌≡◌, ℕ, true, false, not, List, [], ◌∷◌, map, filter}
use Rattle.std.specs.List.{AllByRecursion}
use Rattle.std.specs.List.Sorted.{IsPermutation}
use Rattle.std.specs.declared.cmp.Ordering.{Ordering}
use Rattle.std.specs.declared.cmp.Ordering.TheVariants.{Less}
use Rattle.std.specs.Ordering.{is_eq, match_ordering}
use Rattle.sqlite_value.specs.declared.keys.Collation.TheVariants.{Binary}
use Rattle.sqlite_value.specs.declared.keys.Key.{Key}
use Rattle.sqlite_value.specs.Keys.{ascending}
use Rattle.sqlite_value.specs.Order.{Row, column, value_cmp}
use Rattle.sqlite_trees.specs.Tree.{rowid, IsAscending, IsTable}
use Rattle.sqlite_trees.specs.View.{is_int}
use Rattle.sqlite_sql.specs.Query.{key_cmp}

module _ {X : Type 0} (cmp : X → X → Ordering) where
  -- each element is below all later ones, so none comes twice
  abbrev pub Rises : List X → Type 0
  Rises = IsAscending (λ a b. cmp a b ≡ Less)

  -- the elements with this one in its place, and in place of the one that ties with it
  abbrev pub put_in : X → List X → List X
  put_in new [] = new ∷ []
  put_in new (x ∷ xs) = match_ordering (cmp x new) (x ∷ put_in new xs) (new ∷ xs) (new ∷ x ∷ xs)

  -- the elements without those that tie with this one
  abbrev pub drop_from : X → List X → List X
  drop_from old = filter (λ x. not (is_eq (cmp x old)))

-- what a row of a tree has at these places
abbrev pub cells : List ℕ → Row → Row
cells places row = map (column row) places

-- the order of a key: by its columns from left to right, each ascending
abbrev pub keys : List ℕ → List Key
keys = map (λ _. ascending Binary)

-- the rowids are integers, and no two are alike
abbrev pub AreNumbered : List Row → Type 0
AreNumbered tree = IsAscending (λ a b. is_eq (value_cmp (rowid a) (rowid b)) ≡ false) tree
    × AllByRecursion (λ r. is_int (rowid r) ≡ true) tree

-- the rowids are integers, each below all later ones
abbrev pub RowidsRise : List Row → Type 0
RowidsRise rows = IsTable rows × AllByRecursion (λ r. is_int (rowid r) ≡ true) rows

-- The tree stands for the rows: its rows have these at the places of the columns, and rise by the
-- first columns, which are the key.
pub record Holds (places key : List ℕ) (tree rows : List Row) : Type 0 where
  pub numbered : AreNumbered tree
  pub same : IsPermutation (map (cells places) tree) rows
  pub rises : Rises (key_cmp 0 (keys key)) rows
