-- What the statements on the table points say, and what they make of a room. (Written by tools/tables.py.)
use Rattle.room_model.specs.Room.{Room}
use Rattle.room_tables_rows.proofs.Kept.{with_points}
use Rattle.room_tables_rows.proofs.RowLaws.{point_faithful}
use Rattle.room_tables_rows.specs.KeyColumns.{pair_cells}
use Rattle.room_tables_rows.specs.PointSql.{point_row}
use Rattle.room_tables_rows.specs.RoomsInTables.{Configuration}
use Rattle.room_tables_rows.specs.Tables.{IsHeld, IsTable, PutsRow, SelectsChosen}
use Rattle.room_tables_rows.specs.declared.point_sql.TheConstants.{ALL_POINTS, POINT_AT, PUT_POINT}
use Rattle.room_tables_schema.proofs.ColumnValues.{cast-Int}
use Rattle.room_tables_schema.proofs.Comparisons.{and_last, and_then, conflict_of_two, is_eq-then}
use Rattle.room_tables_schema.proofs.Comparisons.{tie-numbers}
use Rattle.room_tables_schema.proofs.StoredRows.{stores_row}
use Rattle.room_tables_schema.specs.Schema.{points_table, room_schema}
use Rattle.room_tables_schema.specs.Statements.{Selects, StandsApart, Stores, Upserts, equals}
use Rattle.room_tables_schema.specs.Statements.{row_update, row_values}
use Rattle.room_tables_schema.specs.TypedRows.{number}
use Rattle.room_types.specs.Keys.{pair_cmp, point_key}
use Rattle.room_types.specs.declared.changes.Change.TheVariants.{PutPoint}
use Rattle.room_types.specs.declared.tables.Point.{Point}
use Rattle.sqlite.specs.Listing.{understood}
use Rattle.sqlite_schema.specs.Rules.{equal}
use Rattle.sqlite_tied.specs.Compute.{everything}
use Rattle.sqlite_value.specs.Order.{column}
use Rattle.sqlite_value.specs.declared.keys.Collation.TheVariants.{Binary}
use Rattle.std.proofs.Common.{List, [], refl, sym, ℕ, ◌&&◌, ◌∙◌, ◌∷◌}
use Rattle.std.specs.Ordering.{is_eq, nat_cmp}

abbrev all_of : Configuration → Room → List Point
all_of config room = room.points

pub points_apart : StandsApart room_schema 9 points_table
points_apart = record { is_there = refl; unreferenced = λ olds news. refl; uncounted = refl }

abbrev pub points_held : IsHeld pair_cmp point_key point_row points_table all_of
points_held = record {
  faithful = point_faithful;
  others = (3 ∷ 4 ∷ 5 ∷ []);
  places_are = refl;
  at = 9;
  apart = points_apart;
  held = λ trees config room h. h.points;
}

pub all_points_means : Selects room_schema ALL_POINTS.now 15 (1 ∷ 2 ∷ 3 ∷ 4 ∷ 5 ∷ []) (1 ∷ 2 ∷ []) ([])
unfolding understood everything
all_points_means = record { names = _; command = refl; plain = (refl, refl); unlisted = refl }

pub point_at_means : Selects room_schema POINT_AT.now 15 (1 ∷ 2 ∷ 3 ∷ 4 ∷ 5 ∷ []) (1 ∷ 2 ∷ [])
    (equals 1 0 ∷ equals 2 1 ∷ [])
unfolding understood everything
point_at_means = record { names = _; command = refl; plain = (refl, refl); unlisted = refl }

pub point_at_chooses : (j k : ℕ)
    → SelectsChosen points_table point_row POINT_AT.now (number j ∷ number k ∷ [])
    (λ x. is_eq (pair_cmp (j, k) (point_key x)))
point_at_chooses j k = record {
  terms = equals 1 0 ∷ equals 2 1 ∷ [];
  selects = point_at_means;
  chooses = record {
    test = λ r. equal Binary (column r 0) (number j) && equal Binary (column r 1) (number k);
    agrees = λ r. and_then refl (and_last refl);
    same =
        λ x.
        and_then (tie-numbers x.division j) (tie-numbers x.number k)
        ∙ sym (is_eq-then (nat_cmp j x.division) (nat_cmp k x.number));
  };
}

pub put_point_means : Upserts room_schema PUT_POINT.now 9 points_table (1 ∷ 2 ∷ []) 5 (row_values 5) (row_update 5)
unfolding understood everything
put_point_means = record { command = refl; plain = (refl, refl) }

pub point_stores : (x : Point)
    → Stores room_schema points_table (1 ∷ 2 ∷ 3 ∷ 4 ∷ 5 ∷ []) (1 ∷ 2 ∷ []) 5 (row_values 5) (row_update 5)
    (point_row x)
unfolding Rattle.sqlite_value.specs.Keys.first_key
point_stores x = stores_row room_schema points_table (1 ∷ 2 ∷ 3 ∷ 4 ∷ 5 ∷ []) (1 ∷ 2 ∷ []) 5 (point_row x)
    (cast-Int _, (cast-Int _, (cast-Int _, (cast-Int _, (cast-Int _, tt))))) refl (λ id. refl)
    (λ id r. conflict_of_two (column r 1) (column r 2) (number x.division) (number x.number) refl refl) (λ id r. refl)
    (λ id r. refl)

pub point_puts : PutsRow points_table point_row 9 PUT_POINT.now
point_puts = record {
  columns = 5;
  values = row_values 5;
  update = row_update 5;
  upserts = put_point_means;
  stores = point_stores;
}

pub points_are : IsTable pair_cmp point_key point_row pair_cells points_table (λ room. room.points) PutPoint
    (record { all = ALL_POINTS.now; at = POINT_AT.now; put = PUT_POINT.now })
points_are = record {
  is_held = points_held;
  selects_all = all_points_means;
  selects_at = λ k. point_at_chooses k.0 k.1;
  puts = point_puts;
  leads = λ old new config room x h only is. with_points old new config room h only _ is;
}
