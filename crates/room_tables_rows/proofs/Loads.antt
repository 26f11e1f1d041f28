-- From what a selection shows to the rows of the room that the tables stand for.
use Rattle.std.proofs.Common.{◌≡◌, ◌++◌, ℕ, List, [], map, filter, Bool, Option, refl, sym, subst}
use Rattle.std.proofs.Common.{Ordering, is_eq}
use Rattle.sqlite_value.specs.Order.{Row}
use Rattle.sqlite_sql.specs.Term.{Term}
use Rattle.sqlite_schema.specs.declared.schema.Table.{Table}
use Rattle.sqlite_trees.specs.Tree.{Trees}
use Rattle.sqlite.specs.State.{State, Shown}
use Rattle.room_types.specs.KeyedRows.{IsKeyed, row_at}
use Rattle.room_tables_schema.specs.TableTrees.{cells, AreNumbered, Holds}
use Rattle.room_tables_schema.specs.Statements.{passes, Selects}
use Rattle.room_tables_schema.proofs.TypedTables.{stands_for_one, selection_is_chosen}
use Rattle.room_tables_schema.proofs.Selections.{shows_all}
use Rattle.room_tables_schema.proofs.Openings.{stands_for_read}
use Rattle.room_model.specs.Room.{Room}
use Rattle.room_tables_schema.specs.Schema.{room_schema}
use Rattle.room_tables_rows.specs.OptionalRows.{listed}
use Rattle.room_tables_rows.specs.RoomsInTables.{Configuration, Stands, StandsFor, places}
use Rattle.room_tables_rows.specs.Tables.{IsHeld, SelectsChosen}
use Rattle.room_tables_rows.proofs.Found.{found_at}

-- what a selection of rows shows is so for every configuration and room that the tables stand for
abbrev pub Shows : {X : Type 0} → (X → Row) → List ℕ → Row → (List X → Configuration → Room → Type 0)
    → Type 1
Shows {X} row text params IsSo =
    (old new : State) (found : List X) → old.now.schema ≡ room_schema → Shown text params old new (map row found)
    → (config : Configuration) (room : Room) → Stands old.now.trees config room → IsSo found config room

-- the same of one row, which may be absent
abbrev pub ShowsRow : {X : Type 0} → (X → Row) → List ℕ → Row → (Option X → Configuration → Room → Type 0)
    → Type 1
ShowsRow {X} row text params IsSo =
    (old new : State) (found : Option X) → old.now.schema ≡ room_schema
    → Shown text params old new (map row (listed found))
    → (config : Configuration) (room : Room) → Stands old.now.trees config room → IsSo found config room

-- the same of a whole table, which holds what was read, if its rowids differ, whatever else is
-- known of the tables
abbrev pub ShowsAll : {X K : Type 0} → (K → K → Ordering) → (X → K) → (X → Row) → Table → List ℕ
    → (Configuration → Room → List X) → Type 1
ShowsAll {X} order key row table text rows =
    (old new : State) (found : List X) → old.now.schema ≡ room_schema → Shown text [] old new (map row found)
    → IsKeyed order key found
    → (AreNumbered (old.now.trees table.tree) → StandsFor old.now.trees table row found)
    × ((config : Configuration) (room : Room) → Stands old.now.trees config room → found ≡ rows config room)

module _ {X K : Type 0} {order : K → K → Ordering} {key : X → K} {row : X → Row} {table : Table}
    {rows : Configuration → Room → List X} (is : IsHeld order key row table rows) (text : List ℕ) where
  held_there : (trees : Trees) (xs : List X) → StandsFor trees table row xs
      → Holds (table.primary ++ is.others) table.primary (trees table.tree) (map row xs)
  held_there trees xs h = subst (λ p. Holds p table.primary (trees table.tree) (map row xs)) is.places_are h

  selects_there : (terms : List Term)
      → Selects room_schema text table.tree (places table) table.primary terms
      → Selects room_schema text table.tree (table.primary ++ is.others) table.primary terms
  selects_there terms s = subst (λ p. Selects room_schema text table.tree p table.primary terms) is.places_are s

  -- the rows that are chosen
  pub chosen_rows : (params : Row) (chosen : X → Bool) → SelectsChosen table row text params chosen
      → Shows row text params (λ found config room. found ≡ filter chosen (rows config room))
  chosen_rows params chosen means old new found has shown config room h =
      selection_is_chosen order key row room_schema text old new table.tree table.primary is.others means.terms params
      means.chooses.test chosen _ found (rows config room) (selects_there means.terms means.selects) is.faithful
      (λ r.
      subst (λ p. passes means.terms params r ≡ means.chooses.test (cells p r)) is.places_are (means.chooses.agrees r))
      means.chooses.same has shown refl
      (held_there old.now.trees (rows config room) (is.held old.now.trees config room h))

  -- the row of a key
  pub row_of_key : (params : Row) (k : K)
      → SelectsChosen table row text params (λ x. is_eq (order k (key x)))
      → ShowsRow row text params (λ found config room. found ≡ row_at order key (rows config room) k)
  row_of_key params k means old new found has shown config room h =
      found_at order key k (rows config room) found
      (chosen_rows params (λ x. is_eq (order k (key x))) means old new (listed found) has shown config room h)

  -- the whole table
  pub all_rows : Selects room_schema text table.tree (places table) table.primary []
      → ShowsAll order key row table text rows
  all_rows means old new found has shown keyed =
      let holds = λ (numbered : AreNumbered (old.now.trees table.tree)).
      stands_for_read order key row (table.primary ++ is.others) table.primary (old.now.trees table.tree) found
      is.faithful numbered
      (shows_all room_schema text old new table.tree table.primary is.others [] (map row found) (selects_there [] means)
      has shown).0 keyed in (
        λ numbered.
            subst (λ p. Holds p table.primary (old.now.trees table.tree) (map row found)) (sym is.places_are)
            (holds numbered),
        λ config room h.
            let xs = held_there old.now.trees (rows config room) (is.held old.now.trees config room h) in
            (stands_for_one order key row (table.primary ++ is.others) table.primary (old.now.trees table.tree) found
            (rows config room) is.faithful (holds xs.numbered) xs).0,
      )
