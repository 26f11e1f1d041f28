-- The statements on a table that stands for a list of typed rows in key order.
use Rattle.std.proofs.Common.{◌==◌, ℕ, List, map, ◌∙◌, Ordering}
use Rattle.sqlite_value.specs.Order.{Row}
use Rattle.sqlite_schema.specs.declared.schema.Schema.{Schema}
use Rattle.sqlite.specs.State.{State}
use Rattle.room_tables_schema.specs.Laws.{StandsForOne, SelectionIsChosen, InsertionPuts}
use Rattle.room_tables_schema.specs.Laws.{UpsertPuts, OverwritePuts, DeletionDrops}
use Rattle.room_tables_schema.proofs.Selections.{selected}
use Rattle.room_tables_schema.proofs.Deletions.{deleted}
use Rattle.room_tables_schema.proofs.Overwrites.{overwritten}
use Rattle.room_tables_schema.proofs.Insertions.{inserted}
use Rattle.room_tables_schema.proofs.Upserts.{upserted}
use Rattle.room_tables_schema.proofs.TypedRows.{holds_one_typed, holds-put, holds-put_if}
use Rattle.room_tables_schema.proofs.TypedRows.{holds-drop, keyed_held, read_chosen}

module _ {X K : Type 0} (order : K → K → Ordering) (key : X → K) (row : X → Row) where
  pub stands_for_one : StandsForOne order key row
  stands_for_one places key_places tree xs ys faithful h k = (
    holds_one_typed order key row places key_places faithful tree xs ys h k,
    keyed_held order key row places key_places faithful tree xs h,
  )

  module _ (schema : Schema) (text : List ℕ) (old new : State) where
    pub selection_is_chosen : SelectionIsChosen order key row schema text old new
    selection_is_chosen tree key_places more terms params test chosen shown found xs means faithful agrees same has
        shows
        is h =
        read_chosen order key row key_places faithful test chosen same xs found
        (is
        ∙ selected schema text tree key_places more terms means old new params shown has shows (map row xs) test h
        agrees)

    pub insertion_puts : InsertionPuts order key row schema text old new
    insertion_puts at table places key_places columns values update count x xs apart means faithful stores has ran h =
        let it = inserted schema text at table apart places key_places columns values update means (row x) stores old
        new count has ran (map row xs) h in
        (it.0, holds-put order key row places key_places faithful (new.now.trees table.tree) x xs it.1)

    pub upsert_puts : UpsertPuts order key row schema text old new
    upsert_puts at table places key_places columns values update count x xs apart means faithful stores has ran h =
        let it = upserted schema text at table apart places key_places columns values update means (row x) stores old
        new count has ran (map row xs) h in
        (it.0, holds-put order key row places key_places faithful (new.now.trees table.tree) x xs it.1)

    pub overwrite_puts : OverwritePuts order key row schema text old new
    overwrite_puts at table places key_places columns count x xs apart means faithful covers has ran h =
        let it = overwritten schema text at table apart places key_places columns means (row x) covers old new count has
        ran in (
          it.0,
          holds-put_if order key row places key_places faithful (new.now.trees table.tree) (count == 0) x xs
              (it.1 (map row xs) h),
        )

    pub deletion_drops : DeletionDrops order key row schema text old new
    deletion_drops at table places key_places terms params test count k xs apart means faithful agrees same has ran h =
        let it = deleted schema text at table apart terms means old new params count has ran in (
          it.0,
          holds-drop order key row places key_places faithful (new.now.trees table.tree) k test same xs
              (keyed_held order key row places key_places faithful (old.now.trees table.tree) xs h)
              (it.1 places key_places (map row xs) test h agrees),
        )
