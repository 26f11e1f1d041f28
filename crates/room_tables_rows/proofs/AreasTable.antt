-- What the statements on the table areas say, and what they make of a room. (Written by tools/tables.py.)
use Rattle.room_model.specs.Room.{Room}
use Rattle.room_place.specs.declared.plans.Area.{Area}
use Rattle.room_tables_rows.proofs.Loads.{ShowsAll, all_rows}
use Rattle.room_tables_rows.proofs.RowLaws.{area_faithful}
use Rattle.room_tables_rows.specs.AreaSql.{area_key, area_row}
use Rattle.room_tables_rows.specs.RoomsInTables.{Configuration, numbered}
use Rattle.room_tables_rows.specs.Tables.{IsHeld, PutsRow}
use Rattle.room_tables_rows.specs.declared.area_sql.TheConstants.{ALL_AREAS, PUT_AREA}
use Rattle.room_tables_schema.proofs.ColumnValues.{cast-Int, cast-Null}
use Rattle.room_tables_schema.proofs.Comparisons.{conflict_of_one}
use Rattle.room_tables_schema.proofs.StoredRows.{stores_rowid}
use Rattle.room_tables_schema.specs.Schema.{areas_table, room_schema}
use Rattle.room_tables_schema.specs.Statements.{Selects, StandsApart, Stores, Upserts, rowid_update}
use Rattle.room_tables_schema.specs.Statements.{rowid_values}
use Rattle.room_tables_schema.specs.TypedRows.{number}
use Rattle.sqlite.specs.Listing.{understood}
use Rattle.sqlite_tied.specs.Compute.{everything}
use Rattle.sqlite_value.specs.Order.{column}
use Rattle.std.proofs.Common.{List, [], refl, ℕ, ◌∷◌}
use Rattle.std.specs.Ordering.{nat_cmp}

abbrev all_of : Configuration → Room → List (ℕ × Area)
all_of config room = (numbered 1 room.plan)

pub areas_apart : StandsApart room_schema 1 areas_table
areas_apart = record { is_there = refl; unreferenced = λ olds news. refl; uncounted = refl }

abbrev pub areas_held : IsHeld nat_cmp area_key area_row areas_table all_of
areas_held = record {
  faithful = area_faithful;
  others = (2 ∷ 3 ∷ 4 ∷ 5 ∷ 6 ∷ []);
  places_are = refl;
  at = 1;
  apart = areas_apart;
  held = λ trees config room h. h.areas;
}

pub all_areas_means : Selects room_schema ALL_AREAS.now 1 (0 ∷ 2 ∷ 3 ∷ 4 ∷ 5 ∷ 6 ∷ []) (0 ∷ []) ([])
unfolding understood everything
all_areas_means = record { names = _; command = refl; plain = (refl, refl); unlisted = refl }

pub all_areas_are : ShowsAll nat_cmp area_key area_row areas_table ALL_AREAS.now all_of
all_areas_are = all_rows areas_held ALL_AREAS.now all_areas_means

pub put_area_means : Upserts room_schema PUT_AREA.now 1 areas_table (0 ∷ []) 6 (rowid_values 6) (rowid_update 6)
unfolding understood everything
put_area_means = record { command = refl; plain = (refl, refl) }

pub area_stores : (x : ℕ × Area)
    → Stores room_schema areas_table (0 ∷ 2 ∷ 3 ∷ 4 ∷ 5 ∷ 6 ∷ []) (0 ∷ []) 6 (rowid_values 6) (rowid_update 6)
    (area_row x)
unfolding Rattle.sqlite_value.specs.Keys.first_key
area_stores x = stores_rowid room_schema areas_table (0 ∷ 2 ∷ 3 ∷ 4 ∷ 5 ∷ 6 ∷ []) (0 ∷ []) 6 _ _
    (cast-Null, (cast-Int _, (cast-Int _, (cast-Int _, (cast-Int _, (cast-Int _, tt)))))) refl refl
    (λ r. conflict_of_one (column r 0) (number x.0) refl) (λ r. refl) (λ r. refl)

pub area_puts : PutsRow areas_table area_row 1 PUT_AREA.now
area_puts = record {
  columns = 6;
  values = rowid_values 6;
  update = rowid_update 6;
  upserts = put_area_means;
  stores = area_stores;
}
