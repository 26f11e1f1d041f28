-- What is made of the rows of a table that are read one at a time.
use Rattle.std.specs.Prelude.{◌≡◌, ℕ, List, [], ◌∷◌, map, Bool, Option, Some, None, Result, Ok, Err}
use Rattle.std.specs.declared.cmp.Ordering.{Ordering}
use Rattle.sqlite.specs.State.{Shown, State}
use Rattle.sqlite_value.specs.Order.{Row}
use Rattle.sqlite_trees.specs.Tree.{Trees}
use Rattle.sqlite_schema.specs.declared.schema.Table.{Table}
use Rattle.room_types.specs.KeyedRows.{IsKeyed}
use Rattle.room_model.specs.Room.{Room}
use Rattle.room_tables_schema.specs.TableTrees.{AreNumbered}
use Rattle.room_tables_schema.specs.declared.database_faults.Fault.{Fault}
use Rattle.room_tables_rows.specs.RoomsInTables.{Configuration, Stands, StandsFor}
use Rattle.room_tables.specs.Failures.{AreNoRows, IfStorage}

-- the last of some rows
abbrev pub last_of : {X : Type 0} → List X → Option X
last_of [] = None
last_of (x ∷ []) = Some x
last_of (x ∷ y ∷ xs) = last_of (y ∷ xs)

module _ {X K T : Type 0} (is_row : Row → Bool) (order : K → K → Ordering) (key : X → K)
    (row : X → Row) (takes : T → List X → T → Type 0) where
  -- What was shown so far are the table's rows in the order of their keys, and all were taken;
  -- or memory failed, or they are no such rows.
  abbrev pub AreTaken : T → List Row → T → Option X → Result (Unit {0}) Fault → Type 0
  AreTaken first shown now last (Ok done) = (rows : List X) × (map row rows ≡ shown)
      × IsKeyed order key rows × (last ≡ last_of rows) × takes first rows now
  AreTaken first shown now last (Err fault) = IfStorage (AreNoRows is_row order key row shown) fault

  -- the same of what was shown in all, and of the result
  abbrev pub AreRead : T → List Row → Result T Fault → Type 0
  AreRead first shown (Ok now) = (last : Option X) × AreTaken first shown now last (Ok tt)
  AreRead first shown (Err fault) = IfStorage (AreNoRows is_row order key row shown) fault

-- The rows, in the order of their keys, are what a selection showed.
pub record AreShown {X K : Type 0} (order : K → K → Ordering) (key : X → K) (row : X → Row)
    (text : List ℕ) (params : Row) (old new : State) (rows : List X) : Type 0 where
  pub keyed : IsKeyed order key rows
  pub shown : Shown text params old new (map row rows)

-- The rows, in the order of their keys, are those of the room that the tables stand for, whichever
-- it is; and they are what the table stands for, if its rowids differ.
pub record AreAll {X K : Type 0} (order : K → K → Ordering) (key : X → K) (row : X → Row)
    (of_room : Room → List X) (table : Table) (trees : Trees) (rows : List X) : Type 0 where
  pub keyed : IsKeyed order key rows
  pub stands : AreNumbered (trees table.tree) → StandsFor trees table row rows
  pub of_any : (config : Configuration) (room : Room) → Stands trees config room
      → rows ≡ of_room room
