-- What the statements on one table make of what it stands for: each law from the state before a
-- call to the state after it.
use Rattle.std.specs.Prelude.{◌≡◌, ◌↔◌, ◌==◌, ℕ, List, [], ◌∷◌, ◌++◌, map, filter, Bool, true}
use Rattle.std.specs.Prelude.{if◌then◌else◌, Ok, IsPermutation, IsSorted}
use Rattle.std.specs.declared.cmp.Ordering.{Ordering}
use Rattle.std.specs.Ordering.{is_eq}
use Rattle.sqlite_value.specs.Order.{Row, column}
use Rattle.sqlite_trees.specs.View.{is_int}
use Rattle.sqlite_sql.specs.Term.{Term}
use Rattle.sqlite_sql.specs.Query.{key_cmp}
use Rattle.sqlite_schema.specs.declared.schema.Table.{Table}
use Rattle.sqlite_schema.specs.declared.schema.Index.{Index}
use Rattle.sqlite_schema.specs.declared.schema.Schema.{Schema}
use Rattle.sqlite.specs.State.{State, Shown, Executes}
use Rattle.room_types.specs.KeyedRows.{IsKeyed, put_row, drop_row}
use Rattle.room_tables_schema.specs.TableTrees.{cells, keys, AreNumbered, RowidsRise, Holds}
use Rattle.room_tables_schema.specs.Outcomes.{Only, MakesTable, MakesIndex}
use Rattle.room_tables_schema.specs.Statements.{passes, Selects, StandsApart, Deletes, Inserts}
use Rattle.room_tables_schema.specs.Statements.{Upserts, Stores, Overwrites, Covers, Creates}
use Rattle.room_tables_schema.specs.Statements.{Indexes}
use Rattle.room_tables_schema.specs.TypedRows.{IsFaithful}

-- ---- of any tree

module _ (schema : Schema) (text : List ℕ) (old new : State) where
  -- A selection shows the columns of the rows that pass, each row once, in the order of the key.
  abbrev pub ShowsPassing : Type 0
  ShowsPassing =
      (tree : ℕ) (key more : List ℕ) (terms : List Term) (params : Row) (rows : List Row)
      → Selects schema text tree (key ++ more) key terms → old.now.schema ≡ schema
      → Shown text params old new rows
      → IsPermutation (map (cells (key ++ more))
      (filter (passes terms params) (old.now.trees tree))) rows
      × IsSorted (key_cmp 0 (keys key)) rows

  -- A selection with no terms shows the columns of all rows.
  abbrev pub ShowsAll : Type 0
  ShowsAll =
      (tree : ℕ) (key more : List ℕ) (params : Row) (rows : List Row)
      → Selects schema text tree (key ++ more) key [] → old.now.schema ≡ schema
      → Shown text params old new rows
      → IsPermutation (map (cells (key ++ more)) (old.now.trees tree)) rows
      × IsSorted (key_cmp 0 (keys key)) rows

  -- The rowids that a selection shows in their order rise where the tree is numbered, and only
  -- there.
  abbrev pub RowidsShow : Type 0
  RowidsShow =
      (tree : ℕ) (params : Row) (rows : List Row) → Selects schema text tree (0 ∷ []) (0 ∷ []) []
      → old.now.schema ≡ schema → Shown text params old new rows
      → RowidsRise rows ↔ AreNumbered (old.now.trees tree)

  -- A table that was made is empty, and the others keep their rows.
  abbrev pub CreateMakes : Type 0
  CreateMakes = (table : Table) (count : ℕ) → Creates schema text table → old.now.schema ≡ schema
      → Executes text [] old new (Ok count) → MakesTable schema table old.now new.now

  -- An index that was made leaves the rows of all tables.
  abbrev pub IndexMakes : Type 0
  IndexMakes =
      (at : ℕ) (table : Table) (index : Index) (count : ℕ) → Indexes schema text at table index
      → old.now.schema ≡ schema → Executes text [] old new (Ok count)
      → MakesIndex schema table index old.now new.now

-- ---- of a tree that stands for a list of typed rows in key order

module _ {X K : Type 0} (order : K → K → Ordering) (key : X → K) (row : X → Row) where
  -- A tree stands for only one list, and that list is in key order.
  abbrev pub StandsForOne : Type 0
  StandsForOne =
      (places key_places : List ℕ) (tree : List Row) (xs ys : List X)
      → IsFaithful order key row key_places
      → Holds places key_places tree (map row xs) → Holds places key_places tree (map row ys)
      → (xs ≡ ys) × IsKeyed order key xs

  -- Rows that were read of any tree are what it stands for, if its rowids differ and the keys that
  -- were read rise.
  abbrev pub StandsForRead : Type 0
  StandsForRead =
      (places key_places : List ℕ) (tree : List Row) (xs : List X)
      → IsFaithful order key row key_places
      → AreNumbered tree → IsPermutation (map (cells places) tree) (map row xs)
      → IsKeyed order key xs → Holds places key_places tree (map row xs)

  -- Rowids that were read as the first column, and rise strictly, are integers that differ.
  abbrev pub NumbersRead : Type 0
  NumbersRead =
      (more : List ℕ) (tree : List Row) (xs : List X) → IsFaithful order key row (0 ∷ [])
      → ((x : X) → is_int (column (row x) 0) ≡ true)
      → IsPermutation (map (cells (0 ∷ more)) tree) (map row xs) → IsKeyed order key xs
      → AreNumbered tree

  module _ (schema : Schema) (text : List ℕ) (old new : State) where
    -- A selection that was read back is the list of the rows that are chosen, in key order.
    -- The test of the columns says what the terms say, and `chosen` says the same of a typed row.
    abbrev pub SelectionIsChosen : Type 0
    SelectionIsChosen =
        (tree : ℕ) (key_places more : List ℕ) (terms : List Term) (params : Row)
        (test : Row → Bool) (chosen : X → Bool) (shown : List Row) (found xs : List X)
        → Selects schema text tree (key_places ++ more) key_places terms
        → IsFaithful order key row key_places
        → ((r : Row) → passes terms params r ≡ test (cells (key_places ++ more) r))
        → ((x : X) → test (row x) ≡ chosen x)
        → old.now.schema ≡ schema → Shown text params old new shown → map row found ≡ shown
        → Holds (key_places ++ more) key_places (old.now.trees tree) (map row xs)
        → found ≡ filter chosen xs

    -- An upsert puts its row, in place of the one with its key, and changes no other table.
    abbrev pub UpsertPuts : Type 0
    UpsertPuts =
        (at : ℕ) (table : Table) (places key_places : List ℕ) (columns : ℕ)
        (values update : List Term) (count : ℕ) (x : X) (xs : List X)
        → StandsApart schema at table → Upserts schema text at table key_places columns values
        update → IsFaithful order key row key_places
        → Stores schema table places key_places columns values update (row x)
        → old.now.schema ≡ schema → Executes text (row x) old new (Ok count)
        → Holds places key_places (old.now.trees table.tree) (map row xs)
        → Only schema table.tree old.now new.now
        × Holds places key_places (new.now.trees table.tree) (map row (put_row order key xs x))

    -- An insertion that was made puts its row, whose key no other had, and changes no other table.
    abbrev pub InsertionPuts : Type 0
    InsertionPuts =
        (at : ℕ) (table : Table) (places key_places : List ℕ) (columns : ℕ)
        (values update : List Term) (count : ℕ) (x : X) (xs : List X)
        → StandsApart schema at table → Inserts schema text at columns values
        → IsFaithful order key row key_places
        → Stores schema table places key_places columns values update (row x)
        → old.now.schema ≡ schema → Executes text (row x) old new (Ok count)
        → Holds places key_places (old.now.trees table.tree) (map row xs)
        → Only schema table.tree old.now new.now
        × Holds places key_places (new.now.trees table.tree) (map row (put_row order key xs x))

    -- An update of one row puts it in place of the one with its key. Where no row has that, it
    -- writes none, and the list is as before. It changes no other table.
    abbrev pub OverwritePuts : Type 0
    OverwritePuts =
        (at : ℕ) (table : Table) (places key_places : List ℕ) (columns : ℕ) (count : ℕ) (x : X)
        (xs : List X)
        → StandsApart schema at table → Overwrites schema text at table key_places columns
        → IsFaithful order key row key_places → Covers table places key_places columns (row x)
        → old.now.schema ≡ schema → Executes text (row x) old new (Ok count)
        → Holds places key_places (old.now.trees table.tree) (map row xs)
        → Only schema table.tree old.now new.now
        × Holds places key_places (new.now.trees table.tree)
        (map row (if count == 0 then xs else put_row order key xs x))

    -- A deletion of the rows with a key drops its one row, if it is there, and changes no other
    -- table.
    abbrev pub DeletionDrops : Type 0
    DeletionDrops =
        (at : ℕ) (table : Table) (places key_places : List ℕ) (terms : List Term) (params : Row)
        (test : Row → Bool) (count : ℕ) (k : K) (xs : List X)
        → StandsApart schema at table → Deletes schema text at table terms
        → IsFaithful order key row key_places
        → ((r : Row) → passes terms params r ≡ test (cells places r))
        → ((x : X) → test (row x) ≡ is_eq (order k (key x)))
        → old.now.schema ≡ schema → Executes text params old new (Ok count)
        → Holds places key_places (old.now.trees table.tree) (map row xs)
        → Only schema table.tree old.now new.now
        × Holds places key_places (new.now.trees table.tree) (map row (drop_row order key xs k))
