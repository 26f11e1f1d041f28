-- Whether the tables of a room number their rows.
use Rattle.std.specs.Prelude.{◌≡◌, ℕ, ℤ, Bool, true, false, List, [], ◌∷◌, Option, Some, None, ⊤}
use Rattle.std.specs.List.{AllByRecursion}
use Rattle.sqlite_value.specs.declared.value.Value.{Value}
use Rattle.sqlite_value.specs.declared.value.Value.TheVariants.{Int, Null}
use Rattle.sqlite_schema.specs.declared.schema.Table.{Table}
use Rattle.sqlite_value.specs.Order.{Row}
use Rattle.sqlite.specs.State.{State}
use Rattle.sqlite.specs.Values.{or_null}
use Rattle.sqlite_trees.specs.Tree.{Trees, rowid}
use Rattle.room_tables_schema.specs.Statements.{Selects}
use Rattle.room_tables_schema.specs.TableTrees.{AreNumbered, RowidsRise}
use Rattle.room_tables_schema.specs.Schema.{room_schema, room_tables}
use Rattle.room_tables.specs.Failures.{FailsToRead}

-- the integer that a value is
abbrev pub integer_in : Value → Option ℤ
integer_in (Int n) = Some n
integer_in _ = None

-- the rowid of the last row, or this value where there is none
abbrev pub last_rowid : Value → List Row → Value
last_rowid v [] = v
last_rowid v (r ∷ rows) = last_rowid (rowid r) rows

-- what is said of the rowids that were shown so far: they rise, and this was the last; or they
-- don't
abbrev pub ShowsRise : List Row → Bool → Option ℤ → Type 0
ShowsRise shown true last = RowidsRise shown × (or_null Int last ≡ last_rowid Null shown)
ShowsRise shown false last = ¬ (RowidsRise shown)

-- the text selects the rowids of a tree, in their order
abbrev pub SelectsRowids : List ℕ → ℕ → Type 0
SelectsRowids text tree = Selects room_schema text tree (0 ∷ []) (0 ∷ []) []

-- The rowids of a tree were asked for, and the query failed, not for lack of memory.
abbrev pub FailsAtRowids : State → State → Type 0
FailsAtRowids old new = (text : List ℕ) × (tree : ℕ) × SelectsRowids text tree
    × FailsToRead text [] old new (λ _. ⊥)

-- the texts select the rowids of the tables, each those of its own
abbrev pub SelectEach : List (List ℕ) → List Table → Type 0
SelectEach [] [] = ⊤
SelectEach [] (table ∷ tables) = ⊥
SelectEach (text ∷ texts) [] = ⊥
SelectEach (text ∷ texts) (table ∷ tables) = SelectsRowids text table.tree × SelectEach texts tables

-- each table's rows have rowids, and no two rows of one table have the same
abbrev pub AreAllNumbered : Trees → Type 0
AreAllNumbered trees = AllByRecursion (λ table. AreNumbered (trees table.tree)) room_tables
