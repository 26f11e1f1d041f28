-- What the text of a statement on one table means, under the schema that it is read by. For a
-- schema and a text that are written out, each fact of these records is `refl`, under `unfolding
-- understood everything` of `sqlite_tied`.
use Rattle.std.specs.Prelude.{◌≡◌, ◌+◌, ℕ, zero, suc, ◌-◌, pos, negsuc, List, [], ◌∷◌, ◌++◌, map}
use Rattle.std.specs.Prelude.{length, ◌/◌, Bool, false, ℤ, Some, None, Ok, slice_get}
use Rattle.std.specs.List.{list_all}
use Rattle.std.specs.Ordering.{is_eq}
use Rattle.sqlite_value.specs.declared.value.Value.{Value}
use Rattle.sqlite_value.specs.declared.value.Value.TheVariants.{Null, Int}
use Rattle.sqlite_value.specs.declared.keys.Collation.TheVariants.{Binary}
use Rattle.sqlite_value.specs.Keys.{ascending}
use Rattle.sqlite_value.specs.Order.{Row, column}
use Rattle.sqlite_trees.specs.Tree.{rowid}
use Rattle.sqlite_sql.specs.declared.ops.BinaryOp.TheVariants.{Compare, Coalesce}
use Rattle.sqlite_sql.specs.declared.ops.CompareOp.{CompareOp}
use Rattle.sqlite_sql.specs.declared.ops.CompareOp.TheVariants.{Eq, Lt, Ge}
use Rattle.sqlite_sql.specs.Term.{Term, lit, col, op2, eval_all, holds}
use Rattle.sqlite_sql.specs.Query.{Query, inner, end, key_cmp}
use Rattle.sqlite_schema.specs.declared.schema.Table.{Table}
use Rattle.sqlite_schema.specs.declared.schema.Index.{Index}
use Rattle.sqlite_schema.specs.declared.schema.Schema.{Schema}
use Rattle.sqlite_schema.specs.declared.schema.Keys.TheVariants.{Enforced}
use Rattle.sqlite_schema.specs.declared.command.Command.{Command}
use Rattle.sqlite_schema.specs.declared.command.Command.TheVariants.{Select, Delete, Insert}
use Rattle.sqlite_schema.specs.declared.command.Command.TheVariants.{InsertOr, Update, CreateTable}
use Rattle.sqlite_schema.specs.declared.command.Command.TheVariants.{CreateIndex}
use Rattle.sqlite_schema.specs.declared.command.Upsert.{Upsert}
use Rattle.sqlite_schema.specs.declared.command.Conflict.TheVariants.{Abort}
use Rattle.sqlite_schema.specs.declared.command.Source.TheVariants.{Values}
use Rattle.sqlite_resolve.specs.Compile.{table_defined_by, index_defined_by}
use Rattle.sqlite_rules.specs.Action.{works}
use Rattle.sqlite_rules.specs.Cast.{cast_row}
use Rattle.sqlite_rules.specs.Keys.{conflicts}
use Rattle.sqlite_rules.specs.Edit.{with_rowid, next_rowid}
use Rattle.sqlite_rules.specs.declared.error.Rowids.TheVariants.{Chosen}
use Rattle.sqlite_catalog.specs.Change.{created}
use Rattle.sqlite.specs.Does.{lacks_sequence}
use Rattle.sqlite.specs.Effect.{value_rows}
use Rattle.sqlite.specs.Given.{IsPlain}
use Rattle.sqlite.specs.Listing.{understood, reads_listing}
use Rattle.sqlite.specs.Rows.{shown, stamped}
use Rattle.sqlite.proofs.Callers.{command_of, statement_of}
use Rattle.room_tables_schema.specs.TableTrees.{cells, keys}

-- ---- what a statement asks of a row

-- the column at a place compares so with a parameter
abbrev pub compares : CompareOp → ℕ → ℕ → Term
compares op place param = op2 (Compare op Binary) (col 1 place) (col 0 param)

abbrev pub equals : ℕ → ℕ → Term
equals = compares Eq

-- the same with a plus before the column, which keeps its value and is sought by no key
abbrev pub equals_by_value : ℕ → ℕ → Term
equals_by_value place param =
    op2 (Compare Eq Binary) (op2 Coalesce (col 1 place) (lit Null)) (col 0 param)

abbrev pub at_least : ℕ → ℕ → Term
at_least = compares Ge

abbrev pub below : ℕ → ℕ → Term
below = compares Lt

-- whether a row passes each of the terms
abbrev pub passes : List Term → Row → Row → Bool
passes terms params row = list_all (holds (params ∷ row ∷ [])) terms

-- ---- selections

-- these columns of the rows of a tree that pass, in the order of the key
abbrev pub table_query : ℕ → List ℕ → List ℕ → List Term → Query
table_query tree places key terms = record {
  from = inner tree end;
  filter = terms;
  group = None;
  project = map (col 1) places;
  distinct = false;
  collations = [];
  order = map (λ p. (col 1 p, ascending Binary)) key;
  limit = lit (Int (negsuc 0));
  offset = lit (Int (pos 0));
}

-- the text selects these columns of the rows that pass, in the order of the key
pub record Selects (schema : Schema) (text : List ℕ) (tree : ℕ) (places key : List ℕ)
    (terms : List Term) : Type 0 where
  pub names : List (List ℕ)
  pub command : command_of (understood schema text)
      ≡ Select (record { lets = []; body = table_query tree places key terms }) names
  pub plain : IsPlain (understood schema text)
  pub unlisted : reads_listing schema text ≡ false

-- ---- writes

-- the table is at this place of the schema, no foreign key refers to it, and it counts no rowids
pub record StandsApart (schema : Schema) (at : ℕ) (table : Table) : Type 0 where
  pub is_there : slice_get schema.tables at ≡ Some table
  pub unreferenced : (olds news : List Row) → works schema Enforced 0 table.tree olds news ≡ []
  pub uncounted : table.is_counted ≡ false

-- the text deletes the rows that pass
pub record Deletes (schema : Schema) (text : List ℕ) (at : ℕ) (table : Table)
    (terms : List Term) : Type 0 where
  pub command : command_of (understood schema text)
      ≡ Delete at (record { lets = []; body = table_query table.tree (0 ∷ []) [] terms })
  pub plain : IsPlain (understood schema text)

-- these terms of the rows of a tree that pass, in no order
abbrev pub plain_query : ℕ → List Term → List Term → Query
plain_query tree project terms = record {
  from = inner tree end;
  filter = terms;
  group = None;
  project = project;
  distinct = false;
  collations = [];
  order = [];
  limit = lit (Int (negsuc 0));
  offset = lit (Int (pos 0));
}

-- so many parameters, from one on
abbrev pub params_from : ℕ → ℕ → List Term
params_from at zero = []
params_from at (suc n) = col 0 at ∷ params_from (suc at) n

-- What an upsert of so many columns inserts, and what it writes over the row with the same key:
-- where SQL picks the rowid ..
abbrev pub row_values : ℕ → List Term
row_values columns = lit Null ∷ params_from 0 columns

abbrev pub row_update : ℕ → List Term
row_update columns = col 1 0 ∷ col 1 0 ∷ params_from (columns + 2) columns

-- .. and where the first column is the rowid, so that its own place is empty
abbrev pub rowid_values : ℕ → List Term
rowid_values columns = col 0 0 ∷ lit Null ∷ params_from 1 (columns - 1)

abbrev pub rowid_update : ℕ → List Term
rowid_update columns =
    col 1 0 ∷ col 0 (columns + 2) ∷ lit Null ∷ params_from (columns + 3) (columns - 1)

-- on a conflict of the key the row that is there is written over; the parameter after the columns
-- is its rowid
abbrev pub written_over : Table → List ℕ → ℕ → List Term → Upsert
written_over table key columns update = record {
  target = Some key;
  update =
      Some (record { lets = []; body = plain_query table.tree update (equals 0 columns ∷ []) });
}

-- INSERT .. VALUES .. ON CONFLICT (key) DO UPDATE SET .. of one row of so many columns
abbrev pub upsert : ℕ → Table → List ℕ → ℕ → List Term → List Term → Command
upsert at table key columns values update =
    InsertOr at Abort (Values values (columns + 1)) (written_over table key columns update ∷ [])

-- the text is an upsert
pub record Upserts (schema : Schema) (text : List ℕ) (at : ℕ) (table : Table) (key : List ℕ)
    (columns : ℕ) (values update : List Term) : Type 0 where
  pub command : command_of (understood schema text) ≡ upsert at table key columns values update
  pub plain : IsPlain (understood schema text)

-- INSERT .. VALUES .. of one row of so many columns
abbrev pub insertion : ℕ → ℕ → List Term → Command
insertion at columns values = Insert at (Values values (columns + 1))

-- the text is an insertion
pub record Inserts (schema : Schema) (text : List ℕ) (at columns : ℕ)
    (values : List Term) : Type 0 where
  pub command : command_of (understood schema text) ≡ insertion at columns values
  pub plain : IsPlain (understood schema text)

-- what the insertion or the upsert of one row stores in the tree
pub record Stores (schema : Schema) (table : Table) (places key : List ℕ) (columns : ℕ)
    (values update : List Term) (row : Row) : Type 0 where
  -- the row of VALUES
  pub source : Row
  pub source_is : value_rows (stamped table row) (columns + 1)
      (length values / (columns + 1)) values ≡ source ∷ []
  -- what goes into the tree at this new rowid
  pub fresh : ℤ → Row
  pub fresh_is : (tree : List Row) → with_rowid Chosen tree (cast_row table source)
      ≡ fresh (next_rowid tree)
  -- it shows the row, as it is and as its columns keep it
  pub fresh_stands : (id : ℤ) → cells places (fresh id) ≡ row
  pub fresh_shows : (id : ℤ) → cells places (cast_row table (fresh id)) ≡ row
  -- a row of the tree is in the way just where it has the same key
  pub conflicts_are : (id : ℤ) (r : Row)
      → conflicts (Some key) schema.indexes table (fresh id) r
      ≡ is_eq (key_cmp 0 (keys key) (cells places r) row)
  -- what takes the place of such a row
  pub over : Row → Row
  pub over_is : (id : ℤ) (r : Row) → eval_all update
      ((row ++ rowid r ∷ shown table (fresh id)) ∷ r ∷ []) ≡ rowid r ∷ over r
  pub over_names : (id : ℤ) (r : Row)
      → column (row ++ rowid r ∷ shown table (fresh id)) columns ≡ rowid r
  pub over_shows : (r : Row) → cells places (cast_row table (over r)) ≡ row

-- An update of one row, where SQL picks the rowid, has the row's columns as parameters. It finds
-- the rows with the columns of its key ..
abbrev pub own_key : List ℕ → List Term
own_key = map (λ place. equals place (place - 1))

-- .. and sets all columns
abbrev pub own_update : ℕ → List Term
own_update columns = col 1 0 ∷ col 1 0 ∷ params_from 0 columns

-- the text is UPDATE .. SET .. WHERE .. of one row of so many columns
pub record Overwrites (schema : Schema) (text : List ℕ) (at : ℕ) (table : Table) (key : List ℕ)
    (columns : ℕ) : Type 0 where
  pub command : command_of (understood schema text) ≡ Update at
      (record { lets = []; body = plain_query table.tree (own_update columns) (own_key key) })
  pub plain : IsPlain (understood schema text)

-- what the update of one row finds in the tree, and puts in its place
pub record Covers (table : Table) (places key : List ℕ) (columns : ℕ) (row : Row) : Type 0 where
  -- a row of the tree is found just where it has the same key
  pub finds : (r : Row) → passes (own_key key) row r
      ≡ is_eq (key_cmp 0 (keys key) (cells places r) row)
  pub over_is : (r : Row) → eval_all (own_update columns) (row ∷ r ∷ [])
      ≡ rowid r ∷ rowid r ∷ row
  pub over_shows : (id : Value) → cells places (cast_row table (id ∷ row)) ≡ row

-- ---- definitions

-- the text makes the table
pub record Creates (schema : Schema) (text : List ℕ) (table : Table) : Type 0 where
  pub command : command_of (understood schema text) ≡ CreateTable
  pub plain : IsPlain (understood schema text)
  pub whole : statement_of text (understood schema text) ≡ text
  pub defined : table_defined_by text ≡ Ok table
  pub uncounted : lacks_sequence (created schema table) ≡ false

-- the text makes the index, of the table at this place
pub record Indexes (schema : Schema) (text : List ℕ) (at : ℕ) (table : Table)
    (index : Index) : Type 0 where
  pub command : command_of (understood schema text) ≡ CreateIndex at
  pub plain : IsPlain (understood schema text)
  pub whole : statement_of text (understood schema text) ≡ text
  pub is_there : slice_get schema.tables at ≡ Some table
  pub defined : index_defined_by table text ≡ Ok index
