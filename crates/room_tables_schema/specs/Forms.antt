-- What the forms of columns, tables and indexes say.
use Rattle.std.specs.Prelude.{ℕ, List, [], ◌∷◌, Bool, true, false, Option, Some, None, map}
use Rattle.std.specs.Borrow.{Bor}
use Rattle.sqlite_value.specs.declared.value.Value.TheVariants.{Null}
use Rattle.sqlite_value.specs.declared.keys.Collation.TheVariants.{Binary}
use Rattle.sqlite_value.specs.declared.keys.Order.{Order}
use Rattle.sqlite_value.specs.Keys.{plain}
use Rattle.sqlite_schema.specs.declared.schema.Column.{Column}
use Rattle.sqlite_schema.specs.declared.schema.Table.{Table}
use Rattle.sqlite_schema.specs.declared.schema.Index.{Index}
use Rattle.room_tables_schema.specs.declared.forms.Rule.{Rule}

-- ---- columns: of one kind (the tables are STRICT), compared byte by byte, with no default

abbrev pub column_of : List ℕ → Rule → Column
column_of name rule = record {
  name = name;
  kind = rule.kind;
  is_strict = true;
  not_null = rule.is_needed;
  default = Null;
  collation = Binary;
}

abbrev pub ColumnForm : Type 0
ColumnForm = Bor (List ℕ) × Rule

abbrev pub column_as : ColumnForm → Column
column_as form = column_of form.0.now form.1

abbrev pub columns_as : List ColumnForm → List Column
columns_as = map column_as

-- ---- tables: a tree of rows each, with a key and no other rule

-- what tables differ by, and what none of them has
abbrev pub table_of : ℕ → List ℕ → Option ℕ → List ℕ → List (List ℕ) → List Order → List Column
    → Table
table_of tree name key primary uniques orders columns = record {
  name = name;
  tree = tree;
  columns = columns;
  key = key;
  primary = primary;
  uniques = uniques;
  orders = orders;
  checks = [];
  references = [];
  computed = [];
  stamps = record { places = []; terms = []; formats = [] };
  is_counted = false;
}

-- its key is the first column, which is the rowid
abbrev pub rowid_table : ℕ → List ℕ → List Column → Table
rowid_table tree name columns = table_of tree name (Some 0) (0 ∷ []) [] [] columns

-- its key is the columns at these places, counted from 1, and an index keeps it; place 0 of a row
-- is a rowid of no meaning
abbrev pub keyed_table : ℕ → List ℕ → List ℕ → List Column → Table
keyed_table tree name places columns =
    table_of tree name None places (places ∷ []) (plain ∷ []) columns

abbrev pub TableForm : Type 0
TableForm = Bor (List ℕ) × ℕ × Bor (List ℕ) × Bor (List ColumnForm)

-- a table whose key has these places, or is the rowid where it has none
abbrev pub table_keyed : List ℕ → ℕ → List ℕ → List Column → Table
table_keyed [] tree name columns = rowid_table tree name columns
table_keyed (p ∷ ps) tree name columns = keyed_table tree name (p ∷ ps) columns

abbrev pub table_as : TableForm → Table
table_as form = table_keyed form.2.now form.1 form.0.now (columns_as form.3.now)

abbrev pub tables_as : List TableForm → List Table
tables_as = map table_as

-- ---- indexes: by the columns at these places of a row

abbrev pub index_of : List ℕ → ℕ → ℕ → List ℕ → Bool → Index
index_of name tree table places is_unique = record {
  name = name;
  tree = tree;
  table = table;
  columns = places;
  order = plain;
  is_unique = is_unique;
}

abbrev pub IndexForm : Type 0
IndexForm = Bor (List ℕ) × ℕ × ℕ × Bor (List ℕ) × Bool

abbrev pub index_as : IndexForm → Index
index_as form = index_of form.0.now form.1 form.2 form.3.now form.4

abbrev pub indexes_as : List IndexForm → List Index
indexes_as = map index_as
