-- What the statements on the table meta say, and what they make of a room. (Written by tools/tables.py.)
use Rattle.room_model.specs.Room.{Room}
use Rattle.room_tables_rows.proofs.Loads.{ShowsAll, all_rows}
use Rattle.room_tables_rows.proofs.RowLaws.{meta_faithful}
use Rattle.room_tables_rows.specs.MetaSql.{meta_key, meta_row}
use Rattle.room_tables_rows.specs.RoomsInTables.{Configuration}
use Rattle.room_tables_rows.specs.Tables.{IsHeld, PutsRow}
use Rattle.room_tables_rows.specs.declared.meta_sql.TheConstants.{ALL_META, PUT_META}
use Rattle.room_tables_schema.proofs.ColumnValues.{cast-Int, cast-Null}
use Rattle.room_tables_schema.proofs.Comparisons.{conflict_of_one}
use Rattle.room_tables_schema.proofs.StoredRows.{stores_rowid}
use Rattle.room_tables_schema.specs.Schema.{meta_table, room_schema}
use Rattle.room_tables_schema.specs.Statements.{Selects, StandsApart, Stores, Upserts, rowid_update}
use Rattle.room_tables_schema.specs.Statements.{rowid_values}
use Rattle.room_tables_schema.specs.TypedRows.{number}
use Rattle.sqlite.specs.Listing.{understood}
use Rattle.sqlite_tied.specs.Compute.{everything}
use Rattle.sqlite_value.specs.Order.{column}
use Rattle.std.proofs.Common.{List, [], refl, ℕ, ◌∷◌}
use Rattle.std.specs.Ordering.{nat_cmp}

abbrev all_of : Configuration → Room → List (List ℕ)
all_of config room = (config.zone ∷ [])

pub meta_apart : StandsApart room_schema 0 meta_table
meta_apart = record { is_there = refl; unreferenced = λ olds news. refl; uncounted = refl }

abbrev pub meta_held : IsHeld nat_cmp meta_key meta_row meta_table all_of
meta_held = record {
  faithful = meta_faithful;
  others = (2 ∷ 3 ∷ []);
  places_are = refl;
  at = 0;
  apart = meta_apart;
  held = λ trees config room h. h.meta;
}

pub all_meta_means : Selects room_schema ALL_META.now 0 (0 ∷ 2 ∷ 3 ∷ []) (0 ∷ []) ([])
unfolding understood everything
all_meta_means = record { names = _; command = refl; plain = (refl, refl); unlisted = refl }

pub all_meta_are : ShowsAll nat_cmp meta_key meta_row meta_table ALL_META.now all_of
all_meta_are = all_rows meta_held ALL_META.now all_meta_means

pub put_meta_means : Upserts room_schema PUT_META.now 0 meta_table (0 ∷ []) 3 (rowid_values 3) (rowid_update 3)
unfolding understood everything
put_meta_means = record { command = refl; plain = (refl, refl) }

pub meta_stores : (x : List ℕ)
    → Stores room_schema meta_table (0 ∷ 2 ∷ 3 ∷ []) (0 ∷ []) 3 (rowid_values 3) (rowid_update 3) (meta_row x)
unfolding Rattle.sqlite_value.specs.Keys.first_key
meta_stores x = stores_rowid room_schema meta_table (0 ∷ 2 ∷ 3 ∷ []) (0 ∷ []) 3 _ _
    (cast-Null, (cast-Int _, (refl, tt))) refl refl (λ r. conflict_of_one (column r 0) (number 1) refl) (λ r. refl)
    (λ r. refl)

pub meta_puts : PutsRow meta_table meta_row 0 PUT_META.now
meta_puts = record {
  columns = 3;
  values = rowid_values 3;
  update = rowid_update 3;
  upserts = put_meta_means;
  stores = meta_stores;
}
