-- What the statements on the table divisions say, and what they make of a room. (Written by tools/tables.py.)
use Rattle.room_model.specs.Room.{Room}
use Rattle.room_tables_rows.proofs.Kept.{with_divisions}
use Rattle.room_tables_rows.proofs.RowLaws.{division_faithful}
use Rattle.room_tables_rows.specs.DivisionSql.{division_row}
use Rattle.room_tables_rows.specs.KeyColumns.{number_cells}
use Rattle.room_tables_rows.specs.RoomsInTables.{Configuration}
use Rattle.room_tables_rows.specs.Tables.{IsHeld, IsTable, PutsRow, SelectsChosen}
use Rattle.room_tables_rows.specs.declared.division_sql.TheConstants.{ALL_DIVISIONS, DIVISION_AT}
use Rattle.room_tables_rows.specs.declared.division_sql.TheConstants.{PUT_DIVISION}
use Rattle.room_tables_schema.proofs.ColumnValues.{cast-Int, cast-Null}
use Rattle.room_tables_schema.proofs.Comparisons.{and_last, conflict_of_one, tie-numbers}
use Rattle.room_tables_schema.proofs.StoredRows.{stores_rowid}
use Rattle.room_tables_schema.specs.Schema.{divisions_table, room_schema}
use Rattle.room_tables_schema.specs.Statements.{Selects, StandsApart, Stores, Upserts, equals}
use Rattle.room_tables_schema.specs.Statements.{rowid_update, rowid_values}
use Rattle.room_tables_schema.specs.TypedRows.{number}
use Rattle.room_types.specs.Keys.{division_key}
use Rattle.room_types.specs.declared.changes.Change.TheVariants.{PutDivision}
use Rattle.room_types.specs.declared.tables.Division.{Division}
use Rattle.sqlite.specs.Listing.{understood}
use Rattle.sqlite_schema.specs.Rules.{equal}
use Rattle.sqlite_tied.specs.Compute.{everything}
use Rattle.sqlite_value.specs.Order.{column}
use Rattle.sqlite_value.specs.declared.keys.Collation.TheVariants.{Binary}
use Rattle.std.proofs.Common.{List, [], refl, ℕ, ◌∷◌}
use Rattle.std.specs.Ordering.{is_eq, nat_cmp}

abbrev all_of : Configuration → Room → List Division
all_of config room = room.divisions

pub divisions_apart : StandsApart room_schema 3 divisions_table
divisions_apart = record { is_there = refl; unreferenced = λ olds news. refl; uncounted = refl }

abbrev pub divisions_held : IsHeld nat_cmp division_key division_row divisions_table all_of
divisions_held = record {
  faithful = division_faithful;
  others = (2 ∷ []);
  places_are = refl;
  at = 3;
  apart = divisions_apart;
  held = λ trees config room h. h.divisions;
}

pub all_divisions_means : Selects room_schema ALL_DIVISIONS.now 4 (0 ∷ 2 ∷ []) (0 ∷ []) ([])
unfolding understood everything
all_divisions_means = record { names = _; command = refl; plain = (refl, refl); unlisted = refl }

pub division_at_means : Selects room_schema DIVISION_AT.now 4 (0 ∷ 2 ∷ []) (0 ∷ []) (equals 0 0 ∷ [])
unfolding understood everything
division_at_means = record { names = _; command = refl; plain = (refl, refl); unlisted = refl }

pub division_at_chooses : (k : ℕ)
    → SelectsChosen divisions_table division_row DIVISION_AT.now (number k ∷ [])
    (λ x. is_eq (nat_cmp k (division_key x)))
division_at_chooses k = record {
  terms = equals 0 0 ∷ [];
  selects = division_at_means;
  chooses = record {
    test = λ r. equal Binary (column r 0) (number k);
    agrees = λ r. and_last refl;
    same = λ x. tie-numbers x.number k;
  };
}

pub put_division_means : Upserts room_schema PUT_DIVISION.now 3 divisions_table (0 ∷ []) 2 (rowid_values 2)
    (rowid_update 2)
unfolding understood everything
put_division_means = record { command = refl; plain = (refl, refl) }

pub division_stores : (x : Division)
    → Stores room_schema divisions_table (0 ∷ 2 ∷ []) (0 ∷ []) 2 (rowid_values 2) (rowid_update 2) (division_row x)
unfolding Rattle.sqlite_value.specs.Keys.first_key
division_stores x = stores_rowid room_schema divisions_table (0 ∷ 2 ∷ []) (0 ∷ []) 2 _ _
    (cast-Null, (cast-Int _, tt)) refl refl (λ r. conflict_of_one (column r 0) (number x.number) refl) (λ r. refl)
    (λ r. refl)

pub division_puts : PutsRow divisions_table division_row 3 PUT_DIVISION.now
division_puts = record {
  columns = 2;
  values = rowid_values 2;
  update = rowid_update 2;
  upserts = put_division_means;
  stores = division_stores;
}

pub divisions_are : IsTable nat_cmp division_key division_row number_cells divisions_table (λ room. room.divisions)
    PutDivision (record { all = ALL_DIVISIONS.now; at = DIVISION_AT.now; put = PUT_DIVISION.now })
divisions_are = record {
  is_held = divisions_held;
  selects_all = all_divisions_means;
  selects_at = λ k. division_at_chooses k;
  puts = division_puts;
  leads = λ old new config room x h only is. with_divisions old new config room h only _ is;
}
