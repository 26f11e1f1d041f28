-- What the texts read that select whole tables.
use Rattle.std.specs.Prelude.{ℕ, List, [], ◌∷◌, ◌++◌, ⊤}
use Rattle.sqlite.specs.Given.{IsPlain}
use Rattle.sqlite.specs.Listing.{understood}
use Rattle.sqlite_trees.specs.Tree.{Trees}
use Rattle.sqlite_value.specs.Order.{Row}
use Rattle.room_tables_schema.specs.Statements.{Selects}
use Rattle.room_tables_schema.specs.TableTrees.{Holds}
use Rattle.room_tables_schema.specs.Schema.{room_schema}

-- the text is one statement that a room's schema knows
abbrev pub IsKnown : List ℕ → Type 0
IsKnown text = IsPlain (understood room_schema text)

-- The text selects all rows of a tree, which stands for these.
pub record ReadsTable (text : List ℕ) (trees : Trees) (rows : List Row) : Type 0 where
  pub tree : ℕ
  pub key : List ℕ
  pub more : List ℕ
  pub selects : Selects room_schema text tree (key ++ more) key []
  pub stands : Holds (key ++ more) key (trees tree) rows

-- each text selects the rows of a table, in the order of the tables
abbrev pub ReadEach : List (List ℕ) → Trees → List (List Row) → Type 0
ReadEach [] trees [] = ⊤
ReadEach [] trees (rows ∷ tables) = ⊥
ReadEach (text ∷ texts) trees [] = ⊥
ReadEach (text ∷ texts) trees (rows ∷ tables) =
    ReadsTable text trees rows × ReadEach texts trees tables
