-- What the statements on the table vehicles say, and what they make of a room. (Written by tools/tables.py.)
use Rattle.room_model.specs.Room.{Room}
use Rattle.room_tables_rows.proofs.Kept.{with_vehicles}
use Rattle.room_tables_rows.proofs.RowLaws.{vehicle_faithful}
use Rattle.room_tables_rows.specs.KeyColumns.{text_cells}
use Rattle.room_tables_rows.specs.RoomsInTables.{Configuration}
use Rattle.room_tables_rows.specs.Tables.{IsHeld, IsOverwritten, IsTable, PutsRow, SelectsChosen}
use Rattle.room_tables_rows.specs.VehicleSql.{vehicle_row}
use Rattle.room_tables_rows.specs.declared.vehicle_sql.TheConstants.{ALL_VEHICLES}
use Rattle.room_tables_rows.specs.declared.vehicle_sql.TheConstants.{OVERWRITE_VEHICLE, PUT_VEHICLE}
use Rattle.room_tables_rows.specs.declared.vehicle_sql.TheConstants.{VEHICLE_AT}
use Rattle.room_tables_schema.proofs.ColumnValues.{AreKept, cast-Int, cast-number_or_null}
use Rattle.room_tables_schema.proofs.Comparisons.{and_last, conflict_of_one, tie-texts, tie_of_one}
use Rattle.room_tables_schema.proofs.StoredRows.{covers_row, stores_row}
use Rattle.room_tables_schema.specs.Schema.{room_schema, vehicles_table}
use Rattle.room_tables_schema.specs.Statements.{Covers, Overwrites, Selects, StandsApart, Stores}
use Rattle.room_tables_schema.specs.Statements.{Upserts, equals, row_update, row_values}
use Rattle.room_types.specs.Keys.{callsign_cmp, vehicle_key}
use Rattle.room_types.specs.Texts.{Callsign}
use Rattle.room_types.specs.declared.changes.Change.TheVariants.{PutVehicle}
use Rattle.room_types.specs.declared.tables.Vehicle.{Vehicle}
use Rattle.sqlite.specs.Listing.{understood}
use Rattle.sqlite_schema.specs.Rules.{equal}
use Rattle.sqlite_tied.specs.Compute.{everything}
use Rattle.sqlite_value.specs.Order.{column}
use Rattle.sqlite_value.specs.declared.keys.Collation.TheVariants.{Binary}
use Rattle.sqlite_value.specs.declared.value.Value.TheVariants.{Text}
use Rattle.std.proofs.Common.{List, [], refl, ◌∷◌}
use Rattle.std.specs.Ordering.{is_eq}

abbrev all_of : Configuration → Room → List Vehicle
all_of config room = room.vehicles

pub vehicles_apart : StandsApart room_schema 6 vehicles_table
vehicles_apart = record { is_there = refl; unreferenced = λ olds news. refl; uncounted = refl }

abbrev pub vehicles_held : IsHeld callsign_cmp vehicle_key vehicle_row vehicles_table all_of
vehicles_held = record {
  faithful = vehicle_faithful;
  others = (2 ∷ 3 ∷ 4 ∷ 5 ∷ 6 ∷ 7 ∷ 8 ∷ 9 ∷ 10 ∷ 11 ∷ []);
  places_are = refl;
  at = 6;
  apart = vehicles_apart;
  held = λ trees config room h. h.vehicles;
}

pub all_vehicles_means : Selects room_schema ALL_VEHICLES.now 9 (1 ∷ 2 ∷ 3 ∷ 4 ∷ 5 ∷ 6 ∷ 7 ∷ 8 ∷ 9 ∷ 10 ∷ 11 ∷ [])
    (1 ∷ []) ([])
unfolding understood everything
all_vehicles_means = record { names = _; command = refl; plain = (refl, refl); unlisted = refl }

pub vehicle_at_means : Selects room_schema VEHICLE_AT.now 9 (1 ∷ 2 ∷ 3 ∷ 4 ∷ 5 ∷ 6 ∷ 7 ∷ 8 ∷ 9 ∷ 10 ∷ 11 ∷ []) (1 ∷ [])
    (equals 1 0 ∷ [])
unfolding understood everything
vehicle_at_means = record { names = _; command = refl; plain = (refl, refl); unlisted = refl }

pub vehicle_at_chooses : (k : Callsign)
    → SelectsChosen vehicles_table vehicle_row VEHICLE_AT.now (Text k ∷ [])
    (λ x. is_eq (callsign_cmp k (vehicle_key x)))
vehicle_at_chooses k = record {
  terms = equals 1 0 ∷ [];
  selects = vehicle_at_means;
  chooses = record {
    test = λ r. equal Binary (column r 0) (Text k);
    agrees = λ r. and_last refl;
    same = λ x. tie-texts x.callsign k;
  };
}

pub put_vehicle_means : Upserts room_schema PUT_VEHICLE.now 6 vehicles_table (1 ∷ []) 11 (row_values 11) (row_update 11)
unfolding understood everything
put_vehicle_means = record { command = refl; plain = (refl, refl) }

vehicle_kept : (x : Vehicle) → AreKept vehicles_table.columns (vehicle_row x)
vehicle_kept x = (
  refl,
  (
    cast-Int _,
    (
      cast-Int _,
      (
        cast-Int _,
        (cast-Int _, (cast-Int _, (cast-Int _, (cast-Int _, (cast-number_or_null _, (cast-Int _, (cast-Int _, tt))))))),
      ),
    ),
  ),
)

pub vehicle_stores : (x : Vehicle)
    → Stores room_schema vehicles_table (1 ∷ 2 ∷ 3 ∷ 4 ∷ 5 ∷ 6 ∷ 7 ∷ 8 ∷ 9 ∷ 10 ∷ 11 ∷ []) (1 ∷ []) 11 (row_values 11)
    (row_update 11) (vehicle_row x)
unfolding Rattle.sqlite_value.specs.Keys.first_key
vehicle_stores x =
    stores_row room_schema vehicles_table (1 ∷ 2 ∷ 3 ∷ 4 ∷ 5 ∷ 6 ∷ 7 ∷ 8 ∷ 9 ∷ 10 ∷ 11 ∷ []) (1 ∷ []) 11 (vehicle_row x)
    (vehicle_kept x) refl (λ id. refl) (λ id r. conflict_of_one (column r 1) (Text x.callsign) refl) (λ id r. refl)
    (λ id r. refl)

pub vehicle_puts : PutsRow vehicles_table vehicle_row 6 PUT_VEHICLE.now
vehicle_puts = record {
  columns = 11;
  values = row_values 11;
  update = row_update 11;
  upserts = put_vehicle_means;
  stores = vehicle_stores;
}

pub vehicles_are : IsTable callsign_cmp vehicle_key vehicle_row text_cells vehicles_table (λ room. room.vehicles)
    PutVehicle (record { all = ALL_VEHICLES.now; at = VEHICLE_AT.now; put = PUT_VEHICLE.now })
vehicles_are = record {
  is_held = vehicles_held;
  selects_all = all_vehicles_means;
  selects_at = λ k. vehicle_at_chooses k;
  puts = vehicle_puts;
  leads = λ old new config room x h only is. with_vehicles old new config room h only _ is;
}

pub overwrite_vehicle_means : Overwrites room_schema OVERWRITE_VEHICLE.now 6 vehicles_table (1 ∷ []) 11
unfolding understood everything
overwrite_vehicle_means = record { command = refl; plain = (refl, refl) }

pub vehicle_covers : (x : Vehicle)
    → Covers vehicles_table (1 ∷ 2 ∷ 3 ∷ 4 ∷ 5 ∷ 6 ∷ 7 ∷ 8 ∷ 9 ∷ 10 ∷ 11 ∷ []) (1 ∷ []) 11 (vehicle_row x)
unfolding Rattle.sqlite_value.specs.Keys.first_key
vehicle_covers x =
    covers_row room_schema vehicles_table (1 ∷ 2 ∷ 3 ∷ 4 ∷ 5 ∷ 6 ∷ 7 ∷ 8 ∷ 9 ∷ 10 ∷ 11 ∷ []) (1 ∷ []) 11 (vehicle_row x)
    (vehicle_kept x) (λ id. refl) (λ r. tie_of_one (column r 1) (Text x.callsign) refl) (λ r. refl)

pub vehicles_overwritten : IsOverwritten vehicles_table vehicle_row (λ room. room.vehicles) OVERWRITE_VEHICLE.now
vehicles_overwritten = record {
  at = 6;
  apart = vehicles_apart;
  columns = 11;
  overwrites = overwrite_vehicle_means;
  covers = vehicle_covers;
  stays = λ old new config room h only is. with_vehicles old new config room h only _ is;
}
