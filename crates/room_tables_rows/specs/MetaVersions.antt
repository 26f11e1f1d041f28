-- What `meta` says of the version of a file, whatever the other tables are.
use Rattle.std.specs.Prelude.{◌≡◌, ℕ, List, [], ◌∷◌}
use Rattle.sqlite_value.specs.Order.{Row, column}
use Rattle.sqlite_trees.specs.Tree.{Trees}
use Rattle.room_tables_schema.specs.TypedRows.{number}
use Rattle.room_tables_schema.specs.Schema.{meta_table}

-- The table `meta` has one row, and it gives this version: 2 of these tables, 1 of those before,
-- which had no offers.
pub record IsOfVersion (version : ℕ) (trees : Trees) : Type 0 where
  pub row : Row
  pub only_row : trees meta_table.tree ≡ row ∷ []
  pub version_is : column row 2 ≡ number version

-- one row of `meta` was read, and it gives this version
abbrev pub OneShows : ℕ → List Row → Type 0
OneShows version [] = ⊥
OneShows version (row ∷ []) = column row 1 ≡ number version
OneShows version (_ ∷ _ ∷ _) = ⊥
