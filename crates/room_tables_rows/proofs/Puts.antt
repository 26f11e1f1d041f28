-- From an insertion, an upsert, an update or a deletion to the configuration and the room that the tables stand for
-- afterwards.
use Rattle.std.proofs.Common.{◌≡◌, ◌==◌, ℕ, List, Bool, true, false, if◌then◌else◌, Ok, ◌∙◌}
use Rattle.std.proofs.Common.{Ordering, is_eq}
use Rattle.sqlite_value.specs.Order.{Row}
use Rattle.sqlite_schema.specs.declared.schema.Table.{Table}
use Rattle.sqlite.specs.Effect.{Database}
use Rattle.sqlite.specs.State.{State, Executes}
use Rattle.room_types.specs.KeyedRows.{put_row, drop_row}
use Rattle.room_types.specs.declared.changes.Change.{Change}
use Rattle.room_tables_schema.specs.Outcomes.{Inside, Only}
use Rattle.room_tables_schema.specs.Statements.{StandsApart}
use Rattle.room_tables_schema.proofs.TypedTables.{insertion_puts, upsert_puts, overwrite_puts}
use Rattle.room_tables_schema.proofs.TypedTables.{deletion_drops}
use Rattle.room_tables_schema.proofs.Overwrites.{overwritten}
use Rattle.room_tables_schema.proofs.Insertions.{inserted_schema}
use Rattle.room_tables_schema.proofs.Upserts.{upserted_schema}
use Rattle.room_tables_schema.proofs.Deletions.{deleted}
use Rattle.room_model.specs.Room.{Room, apply_one}
use Rattle.room_tables_schema.specs.Schema.{room_schema}
use Rattle.room_tables_rows.specs.RoomsInTables.{Configuration, Stands, StandsFor, places}
use Rattle.room_tables_rows.specs.Tables.{DeletesChosen, InsertsRow, IsDropped, IsHeld}
use Rattle.room_tables_rows.specs.Tables.{IsOverwritten, IsTable, PutsRow, Texts}
use Rattle.room_tables_rows.specs.Writes.{Changes, Makes}

module _ {X K : Type 0} {order : K → K → Ordering} {key : X → K} {row : X → Row} {table : Table}
    {rows : Configuration → Room → List X} (is : IsHeld order key row table rows) (text : List ℕ) where
  -- where only this table changed, and now holds these rows, the tables stand for this configuration and
  -- room
  abbrev pub Leads : (Configuration → Room → List X) → (Configuration → Configuration) → (Room → Room) → Type 0
  Leads rows_after config_after room_after =
      (old new : Database) (config : Configuration) (room : Room) → Stands old.trees config room
      → Only room_schema table.tree old new → StandsFor new.trees table row (rows_after config room)
      → Stands new.trees (config_after config) (room_after room)

  -- a statement that puts its row in this table changes the room so
  changes_by : (x : X) (config_after : Configuration → Configuration) (room_after : Room → Room)
      → Leads (λ config room. put_row order key (rows config room) x) config_after room_after
      → (old new : State) → Inside old new → new.now.schema ≡ room_schema
      → ((xs : List X) → StandsFor old.now.trees table row xs
      → Only room_schema table.tree old.now new.now
      × StandsFor new.now.trees table row (put_row order key xs x))
      → Changes old new config_after room_after
  changes_by x config_after room_after leads old new inside schema puts = record {
    inside = inside;
    schema = schema;
    stands =
        λ config room h.
        let it = puts (rows config room) (is.held old.now.trees config room h) in
        leads old.now new.now config room h it.0 it.1;
  }

  -- an upsert does
  pub put_changes : PutsRow table row is.at text
      → (x : X) (config_after : Configuration → Configuration) (room_after : Room → Room)
      → Leads (λ config room. put_row order key (rows config room) x) config_after room_after
      → (old new : State) (count : ℕ) → old.now.schema ≡ room_schema → Inside old new
      → Executes text (row x) old new (Ok count) → Changes old new config_after room_after
  put_changes puts x config_after room_after leads old new count has inside ran =
      changes_by x config_after room_after leads old new inside
      (upserted_schema room_schema text is.at table is.apart (places table) table.primary puts.columns puts.values
      puts.update puts.upserts (row x) (puts.stores x) old new count has ran)
      (λ xs.
      upsert_puts order key row room_schema text old new is.at table (places table) table.primary puts.columns
      puts.values puts.update count x xs is.apart puts.upserts is.faithful (puts.stores x) has ran)

  -- so does an insertion
  pub insert_changes : InsertsRow table row is.at text
      → (x : X) (config_after : Configuration → Configuration) (room_after : Room → Room)
      → Leads (λ config room. put_row order key (rows config room) x) config_after room_after
      → (old new : State) (count : ℕ) → old.now.schema ≡ room_schema → Inside old new
      → Executes text (row x) old new (Ok count) → Changes old new config_after room_after
  insert_changes inserts x config_after room_after leads old new count has inside ran =
      changes_by x config_after room_after leads old new inside
      (inserted_schema room_schema text is.at table is.apart (places table) table.primary inserts.columns inserts.values
      inserts.update inserts.inserts (row x) (inserts.stores x) old new count has ran)
      (λ xs.
      insertion_puts order key row room_schema text old new is.at table (places table) table.primary inserts.columns
      inserts.values inserts.update count x xs is.apart inserts.inserts is.faithful (inserts.stores x) has ran)

  -- the row of the key is dropped
  pub drop_changes : (at : ℕ) → StandsApart room_schema at table → (params : Row) (k : K)
      → DeletesChosen table row at text params (λ x. is_eq (order k (key x)))
      → (config_after : Configuration → Configuration) (room_after : Room → Room)
      → Leads (λ config room. drop_row order key (rows config room) k) config_after room_after
      → (old new : State) (count : ℕ) → old.now.schema ≡ room_schema → Inside old new
      → Executes text params old new (Ok count) → Changes old new config_after room_after
  drop_changes at apart params k means config_after room_after leads old new count has inside ran = record {
    inside = inside;
    schema =
        (deleted room_schema text at table apart means.terms means.deletes old new params count has ran).0.schema_is
        ∙ has;
    stands = λ config room h.
        let it = deletion_drops order key row room_schema text old new at table (places table) table.primary means.terms
        params means.chooses.test count k (rows config room) apart means.deletes is.faithful means.chooses.agrees
        means.chooses.same has ran
        (is.held old.now.trees config room h) in
        leads old.now new.now config room h it.0 it.1;
  }

module _ {X K : Type 0} {order : K → K → Ordering} {key : X → K} {row : X → Row}
    {key_row : K → Row} {table : Table} {rows : Room → List X} {put : X → Change} {texts : Texts}
    (is : IsTable order key row key_row table rows put texts) where
  -- a put of the room's rows is its change ..
  pub put_makes : (x : X) (old new : State) (count : ℕ) → old.now.schema ≡ room_schema
      → Inside old new → Executes texts.put (row x) old new (Ok count) → Makes old new (put x)
  put_makes x =
      put_changes is.is_held texts.put is.puts x (λ config. config) (λ room. apply_one room (put x))
      (λ old new config room. is.leads old new config room x)

  -- .. and so is an insertion, ..
  pub insert_makes : (text : List ℕ) → InsertsRow table row is.is_held.at text → (x : X)
      (old new : State) (count : ℕ) → old.now.schema ≡ room_schema → Inside old new
      → Executes text (row x) old new (Ok count) → Makes old new (put x)
  insert_makes text inserts x =
      insert_changes is.is_held text inserts x (λ config. config) (λ room. apply_one room (put x))
      (λ old new config room. is.leads old new config room x)

  -- .. and a row that is written over, where one was there
  pub overwrite_makes : (text : List ℕ) → IsOverwritten table row rows text → (x : X)
      (old new : State) (count : ℕ) → old.now.schema ≡ room_schema → Inside old new
      → Executes text (row x) old new (Ok count)
      → Changes old new (λ config. config)
      (λ room. if count == 0 then room else apply_one room (put x))
  overwrite_makes text over x old new count has inside ran =
      record {
        inside = inside;
        schema =
            (overwritten room_schema text over.at table over.apart (places table) table.primary over.columns
            over.overwrites (row x) (over.covers x) old new count has ran).0.schema_is ∙ has;
        stands = λ config room h.
            let it = overwrite_puts order key row room_schema text old new over.at table (places table) table.primary
            over.columns count x (rows room) over.apart over.overwrites is.is_held.faithful (over.covers x) has ran
            (is.is_held.held old.now.trees config room h) in
            after config room h it.0 (count == 0) it.1;
      }
    where
      after : (config : Configuration) (room : Room) → Stands old.now.trees config room
          → Only room_schema table.tree old.now new.now → (none : Bool)
          → StandsFor new.now.trees table row
          (if none then rows room else put_row order key (rows room) x)
          → Stands new.now.trees config (if none then room else apply_one room (put x))
      after config room h only true now = over.stays old.now new.now config room h only now
      after config room h only false now = is.leads old.now new.now config room x h only now

  -- .. and a drop
  pub drop_makes : (drop : K → Change) (text : List ℕ)
      → IsDropped order key row key_row table rows drop text
      → (k : K) (old new : State) (count : ℕ) → old.now.schema ≡ room_schema → Inside old new
      → Executes text (key_row k) old new (Ok count) → Makes old new (drop k)
  drop_makes drop text dropped k =
      drop_changes is.is_held text dropped.at dropped.apart (key_row k) k (dropped.deletes k) (λ config. config)
      (λ room. apply_one room (drop k)) (λ old new config room. dropped.leads old new config room k)
