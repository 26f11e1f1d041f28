-- What the statements on the table assignments say, and what they make of a room. (Written by tools/tables.py.)
use Rattle.room_model.specs.Room.{Room}
use Rattle.room_tables_rows.proofs.Kept.{with_assignments}
use Rattle.room_tables_rows.proofs.RowLaws.{assignment_faithful}
use Rattle.room_tables_rows.specs.AssignmentSql.{assignment_row}
use Rattle.room_tables_rows.specs.KeyColumns.{text_cells}
use Rattle.room_tables_rows.specs.RoomsInTables.{Configuration}
use Rattle.room_tables_rows.specs.Tables.{InsertsRow, IsDropped, IsHeld, IsTable, PutsRow}
use Rattle.room_tables_rows.specs.Tables.{SelectsChosen}
use Rattle.room_tables_rows.specs.declared.assignment_sql.TheConstants.{ALL_ASSIGNMENTS}
use Rattle.room_tables_rows.specs.declared.assignment_sql.TheConstants.{ASSIGNMENT_AT}
use Rattle.room_tables_rows.specs.declared.assignment_sql.TheConstants.{DROP_ASSIGNMENT}
use Rattle.room_tables_rows.specs.declared.assignment_sql.TheConstants.{INSERT_ASSIGNMENT}
use Rattle.room_tables_rows.specs.declared.assignment_sql.TheConstants.{PUT_ASSIGNMENT}
use Rattle.room_tables_schema.proofs.ColumnValues.{cast-Int}
use Rattle.room_tables_schema.proofs.Comparisons.{and_last, conflict_of_one, tie-texts}
use Rattle.room_tables_schema.proofs.StoredRows.{stores_row}
use Rattle.room_tables_schema.specs.Schema.{assignments_table, room_schema}
use Rattle.room_tables_schema.specs.Statements.{Deletes, Inserts, Selects, StandsApart, Stores}
use Rattle.room_tables_schema.specs.Statements.{Upserts, equals, row_update, row_values}
use Rattle.room_types.specs.Keys.{assignment_key, callsign_cmp}
use Rattle.room_types.specs.Texts.{Callsign}
use Rattle.room_types.specs.declared.changes.Change.TheVariants.{DropAssignment, PutAssignment}
use Rattle.room_types.specs.declared.tables.Assignment.{Assignment}
use Rattle.sqlite.specs.Listing.{understood}
use Rattle.sqlite_schema.specs.Rules.{equal}
use Rattle.sqlite_tied.specs.Compute.{everything}
use Rattle.sqlite_value.specs.Order.{column}
use Rattle.sqlite_value.specs.declared.keys.Collation.TheVariants.{Binary}
use Rattle.sqlite_value.specs.declared.value.Value.TheVariants.{Text}
use Rattle.std.proofs.Common.{List, [], refl, ◌∷◌}
use Rattle.std.specs.Ordering.{is_eq}

abbrev all_of : Configuration → Room → List Assignment
all_of config room = room.assignments

pub assignments_apart : StandsApart room_schema 8 assignments_table
assignments_apart = record { is_there = refl; unreferenced = λ olds news. refl; uncounted = refl }

abbrev pub assignments_held : IsHeld callsign_cmp assignment_key assignment_row assignments_table all_of
assignments_held = record {
  faithful = assignment_faithful;
  others = (2 ∷ 3 ∷ 4 ∷ 5 ∷ 6 ∷ 7 ∷ []);
  places_are = refl;
  at = 8;
  apart = assignments_apart;
  held = λ trees config room h. h.assignments;
}

pub all_assignments_means : Selects room_schema ALL_ASSIGNMENTS.now 13 (1 ∷ 2 ∷ 3 ∷ 4 ∷ 5 ∷ 6 ∷ 7 ∷ []) (1 ∷ []) ([])
unfolding understood everything
all_assignments_means = record { names = _; command = refl; plain = (refl, refl); unlisted = refl }

pub assignment_at_means : Selects room_schema ASSIGNMENT_AT.now 13 (1 ∷ 2 ∷ 3 ∷ 4 ∷ 5 ∷ 6 ∷ 7 ∷ []) (1 ∷ [])
    (equals 1 0 ∷ [])
unfolding understood everything
assignment_at_means = record { names = _; command = refl; plain = (refl, refl); unlisted = refl }

pub assignment_at_chooses : (k : Callsign)
    → SelectsChosen assignments_table assignment_row ASSIGNMENT_AT.now (Text k ∷ [])
    (λ x. is_eq (callsign_cmp k (assignment_key x)))
assignment_at_chooses k = record {
  terms = equals 1 0 ∷ [];
  selects = assignment_at_means;
  chooses = record {
    test = λ r. equal Binary (column r 0) (Text k);
    agrees = λ r. and_last refl;
    same = λ x. tie-texts x.callsign k;
  };
}

pub put_assignment_means : Upserts room_schema PUT_ASSIGNMENT.now 8 assignments_table (1 ∷ []) 7 (row_values 7)
    (row_update 7)
unfolding understood everything
put_assignment_means = record { command = refl; plain = (refl, refl) }

pub assignment_stores : (x : Assignment)
    → Stores room_schema assignments_table (1 ∷ 2 ∷ 3 ∷ 4 ∷ 5 ∷ 6 ∷ 7 ∷ []) (1 ∷ []) 7 (row_values 7) (row_update 7)
    (assignment_row x)
unfolding Rattle.sqlite_value.specs.Keys.first_key
assignment_stores x =
    stores_row room_schema assignments_table (1 ∷ 2 ∷ 3 ∷ 4 ∷ 5 ∷ 6 ∷ 7 ∷ []) (1 ∷ []) 7 (assignment_row x)
    (refl, (cast-Int _, (cast-Int _, (cast-Int _, (cast-Int _, (cast-Int _, (cast-Int _, tt))))))) refl (λ id. refl)
    (λ id r. conflict_of_one (column r 1) (Text x.callsign) refl) (λ id r. refl) (λ id r. refl)

pub assignment_puts : PutsRow assignments_table assignment_row 8 PUT_ASSIGNMENT.now
assignment_puts = record {
  columns = 7;
  values = row_values 7;
  update = row_update 7;
  upserts = put_assignment_means;
  stores = assignment_stores;
}

pub assignments_are : IsTable callsign_cmp assignment_key assignment_row text_cells assignments_table
    (λ room. room.assignments) PutAssignment
    (record { all = ALL_ASSIGNMENTS.now; at = ASSIGNMENT_AT.now; put = PUT_ASSIGNMENT.now })
assignments_are = record {
  is_held = assignments_held;
  selects_all = all_assignments_means;
  selects_at = λ k. assignment_at_chooses k;
  puts = assignment_puts;
  leads = λ old new config room x h only is. with_assignments old new config room h only _ is;
}

pub insert_assignment_means : Inserts room_schema INSERT_ASSIGNMENT.now 8 7 (row_values 7)
unfolding understood everything
insert_assignment_means = record { command = refl; plain = (refl, refl) }

pub assignment_inserts : InsertsRow assignments_table assignment_row assignments_are.is_held.at INSERT_ASSIGNMENT.now
unfolding assignments_are
assignment_inserts = record {
  columns = 7;
  values = row_values 7;
  update = row_update 7;
  inserts = insert_assignment_means;
  stores = assignment_stores;
}

pub drop_assignment_means : Deletes room_schema DROP_ASSIGNMENT.now 8 assignments_table (equals 1 0 ∷ [])
unfolding understood everything
drop_assignment_means = record { command = refl; plain = (refl, refl) }

pub assignments_dropped : IsDropped callsign_cmp assignment_key assignment_row text_cells assignments_table
    (λ room. room.assignments) DropAssignment DROP_ASSIGNMENT.now
assignments_dropped = record {
  at = 8;
  apart = assignments_apart;
  deletes =
      λ k. record {
        terms = equals 1 0 ∷ [];
        deletes = drop_assignment_means;
        chooses = record {
          test = λ r. equal Binary (column r 0) (Text k);
          agrees = λ r. and_last refl;
          same = λ x. tie-texts x.callsign k;
        };
      };
  leads = λ old new config room k h only is. with_assignments old new config room h only _ is;
}
