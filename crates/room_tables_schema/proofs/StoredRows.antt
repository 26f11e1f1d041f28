-- What the upsert of one row stores, for the two kinds of keys, and what its update writes over.
use Rattle.std.proofs.Common.{◌≡◌, ◌+◌, ◌/◌, ℕ, ℤ, List, [], ◌∷◌, ◌++◌, length, Some, ap, ◌∙◌}
use Rattle.std.proofs.Common.{is_eq}
use Rattle.sqlite_value.specs.declared.value.Value.{Value}
use Rattle.sqlite_value.specs.declared.value.Value.TheVariants.{Null, Int}
use Rattle.sqlite_value.specs.Order.{Row, column}
use Rattle.sqlite_trees.specs.Tree.{rowid}
use Rattle.sqlite_sql.specs.Term.{eval_all}
use Rattle.sqlite_sql.specs.Query.{key_cmp}
use Rattle.sqlite_schema.specs.declared.schema.Table.{Table}
use Rattle.sqlite_schema.specs.declared.schema.Schema.{Schema}
use Rattle.sqlite_schema.specs.declared.schema.Kind.TheVariants.{Integer}
use Rattle.sqlite_rules.specs.declared.error.Rowids.TheVariants.{Chosen}
use Rattle.sqlite_rules.specs.Cast.{cast, cast_row}
use Rattle.sqlite_rules.specs.Keys.{conflicts}
use Rattle.sqlite_rules.specs.Edit.{with_rowid}
use Rattle.sqlite.specs.Effect.{value_rows}
use Rattle.sqlite.specs.Rows.{shown, stamped}
use Rattle.room_tables_schema.specs.TableTrees.{cells, keys}
use Rattle.room_tables_schema.specs.Statements.{Stores, Covers, passes, row_values, row_update}
use Rattle.room_tables_schema.specs.Statements.{rowid_values, rowid_update, own_key, own_update}
use Rattle.room_tables_schema.proofs.ColumnValues.{AreKept, cast_all-kept, cast-Int, cast-Null}

module _ (schema : Schema) (table : Table) (places key : List ℕ) (columns : ℕ) where
  -- SQL picks the rowid, and the row stands after it
  pub stores_row : (row : Row) → AreKept table.columns row
      → value_rows (stamped table row) (columns + 1) (length (row_values columns) / (columns + 1))
      (row_values columns) ≡ (Null ∷ row) ∷ []
      → ((id : Value) → cells places (id ∷ row) ≡ row)
      → ((id : ℤ) (r : Row) → conflicts (Some key) schema.indexes table (Int id ∷ row) r
      ≡ is_eq (key_cmp 0 (keys key) (cells places r) row))
      → ((id : ℤ) (r : Row) → eval_all (row_update columns)
      ((row ++ rowid r ∷ shown table (Int id ∷ row)) ∷ r ∷ []) ≡ rowid r ∷ rowid r ∷ row)
      → ((id : ℤ) (r : Row) → column (row ++ rowid r ∷ shown table (Int id ∷ row)) columns
      ≡ rowid r)
      → Stores schema table places key columns (row_values columns) (row_update columns) row
  stores_row row kept source_is shows conflicts_are over_is over_names =
      let is_cast : (id : Value) → cast_row table (id ∷ row) ≡ cast Integer id ∷ row = λ id.
      ap (λ l. cast Integer id ∷ l) (cast_all-kept table.columns row kept) in
      record {
        source = Null ∷ row;
        source_is = source_is;
        fresh = λ id. Int id ∷ row;
        fresh_is = λ tree. ap (with_rowid Chosen tree) (is_cast Null ∙ ap (λ v. v ∷ row) cast-Null);
        fresh_stands = λ id. shows (Int id);
        fresh_shows = λ id. ap (cells places) (is_cast (Int id)) ∙ shows (cast Integer (Int id));
        conflicts_are = conflicts_are;
        over = λ r. rowid r ∷ row;
        over_is = over_is;
        over_names = over_names;
        over_shows = λ r. ap (cells places) (is_cast (rowid r)) ∙ shows (cast Integer (rowid r));
      }

  -- written over, it stands there too
  pub covers_row : (row : Row) → AreKept table.columns row
      → ((id : Value) → cells places (id ∷ row) ≡ row)
      → ((r : Row) → passes (own_key key) row r
      ≡ is_eq (key_cmp 0 (keys key) (cells places r) row))
      → ((r : Row) → eval_all (own_update columns) (row ∷ r ∷ []) ≡ rowid r ∷ rowid r ∷ row)
      → Covers table places key columns row
  covers_row row kept shows finds over_is = record {
    finds = finds;
    over_is = over_is;
    over_shows =
        λ id. (λ i. cells places (cast Integer id ∷ cast_all-kept table.columns row kept i)) ∙ shows (cast Integer id);
  }

  -- the first column is the rowid, and its own place is empty
  pub stores_rowid : (id : ℤ) (row : Row) → AreKept table.columns (Null ∷ row)
      → (let stored = Int id ∷ Null ∷ row in
      value_rows (stamped table (Int id ∷ row)) (columns + 1) (length (rowid_values columns) / (columns + 1))
      (rowid_values columns) ≡ stored ∷ []
      → cells places stored ≡ Int id ∷ row
      → ((r : Row) → conflicts (Some key) schema.indexes table stored r
      ≡ is_eq (key_cmp 0 (keys key) (cells places r) (Int id ∷ row)))
      → ((r : Row) → eval_all (rowid_update columns)
      (((Int id ∷ row) ++ rowid r ∷ shown table stored) ∷ r ∷ []) ≡ rowid r ∷ stored)
      → ((r : Row) → column ((Int id ∷ row) ++ rowid r ∷ shown table stored) columns ≡ rowid r)
      → Stores schema table places key columns (rowid_values columns) (rowid_update columns)
      (Int id ∷ row))
  stores_rowid id row kept source_is shows conflicts_are over_is over_names =
      let stored : Row = Int id ∷ Null ∷ row in
      let is_cast : cast_row table stored ≡ stored = λ i.
      cast-Int id i ∷ cast_all-kept table.columns (Null ∷ row) kept i in
      record {
        source = stored;
        source_is = source_is;
        fresh = λ _. stored;
        fresh_is = λ tree. ap (with_rowid Chosen tree) is_cast;
        fresh_stands = λ _. shows;
        fresh_shows = λ _. ap (cells places) is_cast ∙ shows;
        conflicts_are = λ _. conflicts_are;
        over = λ _. stored;
        over_is = λ _. over_is;
        over_names = λ _. over_names;
        over_shows = λ _. ap (cells places) is_cast ∙ shows;
      }
