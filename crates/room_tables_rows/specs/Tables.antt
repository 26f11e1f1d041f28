-- What a table is to the room, and what the statements on it say.
use Rattle.std.specs.Prelude.{◌≡◌, ◌++◌, ℕ, List, [], Bool}
use Rattle.std.specs.declared.cmp.Ordering.{Ordering}
use Rattle.std.specs.Ordering.{is_eq}
use Rattle.sqlite_value.specs.Order.{Row}
use Rattle.sqlite_trees.specs.Tree.{Trees}
use Rattle.sqlite_sql.specs.Term.{Term}
use Rattle.sqlite_schema.specs.declared.schema.Table.{Table}
use Rattle.sqlite.specs.Effect.{Database}
use Rattle.room_tables_schema.specs.Outcomes.{Only}
use Rattle.room_tables_schema.specs.Statements.{passes, Selects, StandsApart, Deletes, Inserts}
use Rattle.room_tables_schema.specs.Statements.{Upserts, Stores, Overwrites, Covers}
use Rattle.room_tables_schema.specs.TableTrees.{cells}
use Rattle.room_tables_schema.specs.TypedRows.{IsFaithful}
use Rattle.room_types.specs.KeyedRows.{put_row, drop_row}
use Rattle.room_types.specs.declared.changes.Change.{Change}
use Rattle.room_model.specs.Room.{Room, apply_one}
use Rattle.room_tables_schema.specs.Schema.{room_schema}
use Rattle.room_tables_rows.specs.RoomsInTables.{Configuration, Stands, StandsFor, places}

-- The table holds these rows of a configuration and a room, and no other table refers to it.
pub record IsHeld {X K : Type 0} (order : K → K → Ordering) (key : X → K) (row : X → Row)
    (table : Table) (rows : Configuration → Room → List X) : Type 0 where
  pub faithful : IsFaithful order key row table.primary
  -- the columns of the key stand first
  pub others : List ℕ
  pub places_are : places table ≡ table.primary ++ others
  pub at : ℕ
  pub apart : StandsApart room_schema at table
  pub held : (trees : Trees) (config : Configuration) (room : Room) → Stands trees config room
      → StandsFor trees table row (rows config room)

module _ {X : Type 0} (table : Table) (row : X → Row) where
  -- the terms choose among the columns of rows as `chosen` does among the rows
  pub record Chooses (terms : List Term) (params : Row) (chosen : X → Bool) : Type 0 where
    pub test : Row → Bool
    pub agrees : (r : Row) → passes terms params r ≡ test (cells (places table) r)
    pub same : (x : X) → test (row x) ≡ chosen x

  -- the text selects the rows that are chosen, in the order of the key
  pub record SelectsChosen (text : List ℕ) (params : Row) (chosen : X → Bool) : Type 0 where
    pub terms : List Term
    pub selects : Selects room_schema text table.tree (places table) table.primary terms
    pub chooses : Chooses terms params chosen

  -- the text deletes the rows that are chosen
  pub record DeletesChosen (at : ℕ) (text : List ℕ) (params : Row)
      (chosen : X → Bool) : Type 0 where
    pub terms : List Term
    pub deletes : Deletes room_schema text at table terms
    pub chooses : Chooses terms params chosen

  -- the text puts a row in place of the one with its key
  pub record PutsRow (at : ℕ) (text : List ℕ) : Type 0 where
    pub columns : ℕ
    pub values : List Term
    pub update : List Term
    pub upserts : Upserts room_schema text at table table.primary columns values update
    pub stores : (x : X) → Stores room_schema table
        (places table) table.primary columns values update (row x)

  -- the text inserts a row, whose key no other has
  pub record InsertsRow (at : ℕ) (text : List ℕ) : Type 0 where
    pub columns : ℕ
    pub values : List Term
    pub update : List Term
    pub inserts : Inserts room_schema text at columns values
    pub stores : (x : X) → Stores room_schema table
        (places table) table.primary columns values update (row x)

module _ {X : Type 0} (table : Table) (row : X → Row) (rows : Room → List X) where
  -- The text writes a row over the one with its key. Where none has that, the room is as before.
  pub record IsOverwritten (text : List ℕ) : Type 0 where
    pub at : ℕ
    pub apart : StandsApart room_schema at table
    pub columns : ℕ
    pub overwrites : Overwrites room_schema text at table table.primary columns
    pub covers : (x : X) → Covers table (places table) table.primary columns (row x)
    pub stays : (old new : Database) (config : Configuration) (room : Room)
        → Stands old.trees config room → Only room_schema table.tree old new
        → StandsFor new.trees table row (rows room) → Stands new.trees config room

-- the statements that every table of the room's rows has: all rows, the row of a key, and the put
-- of a row
pub record Texts : Type 0 where
  pub all : List ℕ
  pub at : List ℕ
  pub put : List ℕ

module _ {X K : Type 0} (order : K → K → Ordering) (key : X → K) (row : X → Row)
    (key_row : K → Row) (table : Table) (rows : Room → List X) where
  -- The table holds these rows of a room, and the texts are the statements on them: a put makes
  -- this change.
  pub record IsTable (put : X → Change) (texts : Texts) : Type 0 where
    pub is_held : IsHeld order key row table (λ config room. rows room)
    pub selects_all : Selects room_schema texts.all table.tree (places table) table.primary []
    pub selects_at : (k : K) → SelectsChosen table row texts.at (key_row k)
        (λ x. is_eq (order k (key x)))
    pub puts : PutsRow table row is_held.at texts.put
    pub leads : (old new : Database) (config : Configuration) (room : Room) (x : X)
        → Stands old.trees config room → Only room_schema table.tree old new
        → StandsFor new.trees table row (put_row order key (rows room) x)
        → Stands new.trees config (apply_one room (put x))

  -- The text drops the row of a key from the table, and this is the change that it makes.
  pub record IsDropped (drop : K → Change) (text : List ℕ) : Type 0 where
    -- said again, since the law of a trait cannot name that of the trait above it
    pub at : ℕ
    pub apart : StandsApart room_schema at table
    pub deletes : (k : K) → DeletesChosen table row at text (key_row k)
        (λ x. is_eq (order k (key x)))
    pub leads : (old new : Database) (config : Configuration) (room : Room) (k : K)
        → Stands old.trees config room → Only room_schema table.tree old new
        → StandsFor new.trees table row (drop_row order key (rows room) k)
        → Stands new.trees config (apply_one room (drop k))
