-- A vehicle that is found and put again with another holder, available, is settled.
use Rattle.std.proofs.Common.{◌≡◌, ℕ, true, Option, Some, None, map, ◌∙◌, sym, subst}
use Rattle.sqlite.specs.State.{State, IsUnchanged, Shown}
use Rattle.sqlite_trees.specs.Tree.{Trees}
use Rattle.room_types.specs.KeyedRows.{row_at}
use Rattle.room_types.specs.Keys.{callsign_cmp, vehicle_key}
use Rattle.room_types.specs.Texts.{Callsign}
use Rattle.room_types.specs.declared.changes.Change.TheVariants.{PutVehicle, Settle}
use Rattle.room_types.specs.declared.codes.Status.TheVariants.{Available}
use Rattle.room_types.specs.declared.tables.Vehicle.{Vehicle}
use Rattle.room_model.specs.Room.{Room, settled}
use Rattle.room_tables_schema.specs.Schema.{room_schema}
use Rattle.room_tables_rows.specs.OptionalRows.{listed}
use Rattle.room_tables_rows.specs.KeyColumns.{text_cells}
use Rattle.room_tables_rows.specs.RoomsInTables.{Configuration, Stands}
use Rattle.room_tables_rows.specs.VehicleSql.{vehicle_row}
use Rattle.room_tables_rows.specs.Writes.{Makes}
use Rattle.room_tables_rows.specs.declared.vehicle_sql.TheConstants.{VEHICLE_AT}
use Rattle.room_tables_rows.proofs.Loads.{row_of_key}
use Rattle.room_tables_rows.proofs.VehiclesTable.{vehicles_are}
use Rattle.room_tables.proofs.RoomReads.{kept}

-- this is the row of the callsign, of whatever room the tables stand for
abbrev pub IsFound : Trees → Callsign → Option Vehicle → Type 0
IsFound trees callsign found =
    (config : Configuration) (room : Room) → Stands trees config room
    → found ≡ row_at callsign_cmp vehicle_key room.vehicles callsign

-- what a selection by the callsign shows
pub found_by : (old mid : State) (callsign : Callsign) (found : Option Vehicle)
    → old.now.schema ≡ room_schema → Shown VEHICLE_AT.now (text_cells callsign) old mid
    (map vehicle_row (listed found)) → IsFound old.now.trees callsign found
found_by old mid callsign found has shown =
    row_of_key vehicles_are.is_held VEHICLE_AT.now (text_cells callsign) callsign (vehicles_are.selects_at callsign) old
    mid found has shown

module _ (old mid : State) (callsign : Callsign) (division : ℕ) (same : IsUnchanged old mid) where
  pub settles_found : (vehicle : Vehicle) (new : State)
      → IsFound old.now.trees callsign (Some vehicle)
      → Makes mid new (PutVehicle (record vehicle { holder = division; status = Available }))
      → Makes old new (Settle callsign division)
  settles_found vehicle new found put = record {
    inside = record {
      was_open = same.0.was_open;
      is_open = put.inside.is_open;
      now_is = put.inside.now_is;
      committed_is = put.inside.committed_is ∙ same.0.committed_is;
      mode = put.inside.mode;
    };
    schema = put.schema;
    stands = λ config room h.
        subst (λ at. Stands new.now.trees config (record room { vehicles = settled at division room.vehicles }))
        (found config room h) (put.stands config room (kept old mid same config room h));
  }

  pub settles_none : old.in_transaction ≡ true → old.now.schema ≡ room_schema
      → IsFound old.now.trees callsign None → Makes old mid (Settle callsign division)
  settles_none inside has none = record {
    inside = record {
      was_open = same.0.was_open;
      is_open = same.0.is_open;
      now_is = λ i. mid.now;
      committed_is = same.0.committed_is;
      mode = same.0.mode ∙ inside;
    };
    schema = subst (λ db. db.schema ≡ room_schema) (sym same.0.now_is) has;
    stands = λ config room h.
        subst (λ at. Stands mid.now.trees config (record room { vehicles = settled at division room.vehicles }))
        (none config room h) (kept old mid same config room h);
  }
