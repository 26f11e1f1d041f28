-- What the statements on the table incidents say, and what they make of a room. (Written by tools/tables.py.)
use Rattle.room_model.specs.Room.{Room}
use Rattle.room_tables_rows.proofs.Kept.{with_incidents}
use Rattle.room_tables_rows.proofs.Loads.{Shows, chosen_rows}
use Rattle.room_tables_rows.proofs.RowLaws.{incident_faithful}
use Rattle.room_tables_rows.proofs.Tests.{at_least-integers, below-integers, equal-active}
use Rattle.room_tables_rows.specs.IncidentSql.{incident_row}
use Rattle.room_tables_rows.specs.KeyColumns.{pair_cells}
use Rattle.room_tables_rows.specs.RoomsInTables.{Configuration}
use Rattle.room_tables_rows.specs.Tables.{InsertsRow, IsHeld, IsOverwritten, IsTable, PutsRow}
use Rattle.room_tables_rows.specs.Tables.{SelectsChosen}
use Rattle.room_tables_rows.specs.declared.incident_sql.TheConstants.{ACTIVE_INCIDENTS}
use Rattle.room_tables_rows.specs.declared.incident_sql.TheConstants.{ALL_INCIDENTS}
use Rattle.room_tables_rows.specs.declared.incident_sql.TheConstants.{INCIDENTS_OPENED}
use Rattle.room_tables_rows.specs.declared.incident_sql.TheConstants.{INCIDENTS_SINCE, INCIDENT_AT}
use Rattle.room_tables_rows.specs.declared.incident_sql.TheConstants.{INSERT_INCIDENT}
use Rattle.room_tables_rows.specs.declared.incident_sql.TheConstants.{OVERWRITE_INCIDENT}
use Rattle.room_tables_rows.specs.declared.incident_sql.TheConstants.{PUT_INCIDENT}
use Rattle.room_tables_schema.proofs.ColumnValues.{AreKept, cast-Int, cast-number_or_null}
use Rattle.room_tables_schema.proofs.Comparisons.{and_last, and_then, compare_by, conflict_of_two}
use Rattle.room_tables_schema.proofs.Comparisons.{equal-by_value, equal-numbers, is_eq-then}
use Rattle.room_tables_schema.proofs.Comparisons.{tie-numbers, tie_of_two}
use Rattle.room_tables_schema.proofs.StoredRows.{covers_row, stores_row}
use Rattle.room_tables_schema.specs.Schema.{incidents_table, room_schema}
use Rattle.room_tables_schema.specs.Statements.{Covers, Inserts, Overwrites, Selects, StandsApart}
use Rattle.room_tables_schema.specs.Statements.{Stores, Upserts, at_least, below, equals}
use Rattle.room_tables_schema.specs.Statements.{equals_by_value, row_update, row_values}
use Rattle.room_tables_schema.specs.TypedRows.{number}
use Rattle.room_types.specs.Codes.{is_active, state_number}
use Rattle.room_types.specs.Keys.{incident_key, pair_cmp}
use Rattle.room_types.specs.declared.changes.Change.TheVariants.{PutIncident}
use Rattle.room_types.specs.declared.codes.State.TheVariants.{Active}
use Rattle.room_types.specs.declared.tables.Incident.{Incident}
use Rattle.sqlite.specs.Listing.{understood}
use Rattle.sqlite_schema.specs.Rules.{equal}
use Rattle.sqlite_sql.specs.declared.ops.CompareOp.TheVariants.{Ge, Lt}
use Rattle.sqlite_tied.specs.Compute.{everything}
use Rattle.sqlite_value.specs.Order.{column}
use Rattle.sqlite_value.specs.declared.keys.Collation.TheVariants.{Binary}
use Rattle.sqlite_value.specs.declared.value.Value.TheVariants.{Int}
use Rattle.std.proofs.Common.{List, [], filter, pos, refl, sym, ℕ, ℤ, ◌&&◌, ◌==◌, ◌∙◌, ◌∷◌, ◌≡◌}
use Rattle.std.specs.Ordering.{is_eq, nat_cmp}
use Rattle.std.specs.Prelude.{int_le, int_lt}

abbrev all_of : Configuration → Room → List Incident
all_of config room = room.incidents

pub incidents_apart : StandsApart room_schema 4 incidents_table
incidents_apart = record { is_there = refl; unreferenced = λ olds news. refl; uncounted = refl }

abbrev pub incidents_held : IsHeld pair_cmp incident_key incident_row incidents_table all_of
incidents_held = record {
  faithful = incident_faithful;
  others = (3 ∷ 4 ∷ 5 ∷ 6 ∷ 7 ∷ 8 ∷ 9 ∷ 10 ∷ 11 ∷ 12 ∷ []);
  places_are = refl;
  at = 4;
  apart = incidents_apart;
  held = λ trees config room h. h.incidents;
}

pub all_incidents_means : Selects room_schema ALL_INCIDENTS.now 5
    (1 ∷ 2 ∷ 3 ∷ 4 ∷ 5 ∷ 6 ∷ 7 ∷ 8 ∷ 9 ∷ 10 ∷ 11 ∷ 12 ∷ []) (1 ∷ 2 ∷ []) ([])
unfolding understood everything
all_incidents_means = record { names = _; command = refl; plain = (refl, refl); unlisted = refl }

pub incident_at_means : Selects room_schema INCIDENT_AT.now 5 (1 ∷ 2 ∷ 3 ∷ 4 ∷ 5 ∷ 6 ∷ 7 ∷ 8 ∷ 9 ∷ 10 ∷ 11 ∷ 12 ∷ [])
    (1 ∷ 2 ∷ []) (equals 1 0 ∷ equals 2 1 ∷ [])
unfolding understood everything
incident_at_means = record { names = _; command = refl; plain = (refl, refl); unlisted = refl }

pub incident_at_chooses : (j k : ℕ)
    → SelectsChosen incidents_table incident_row INCIDENT_AT.now (number j ∷ number k ∷ [])
    (λ x. is_eq (pair_cmp (j, k) (incident_key x)))
incident_at_chooses j k = record {
  terms = equals 1 0 ∷ equals 2 1 ∷ [];
  selects = incident_at_means;
  chooses = record {
    test = λ r. equal Binary (column r 0) (number j) && equal Binary (column r 1) (number k);
    agrees = λ r. and_then refl (and_last refl);
    same =
        λ x.
        and_then (tie-numbers x.division j) (tie-numbers x.number k)
        ∙ sym (is_eq-then (nat_cmp j x.division) (nat_cmp k x.number));
  };
}

pub active_incidents_means : Selects room_schema ACTIVE_INCIDENTS.now 5
    (1 ∷ 2 ∷ 3 ∷ 4 ∷ 5 ∷ 6 ∷ 7 ∷ 8 ∷ 9 ∷ 10 ∷ 11 ∷ 12 ∷ []) (1 ∷ 2 ∷ []) (equals 11 0 ∷ equals 1 1 ∷ [])
unfolding understood everything
active_incidents_means = record { names = _; command = refl; plain = (refl, refl); unlisted = refl }

pub active_incidents_chooses : (d : ℕ)
    → SelectsChosen incidents_table incident_row ACTIVE_INCIDENTS.now (number (state_number Active) ∷ number d ∷ [])
    (λ x. is_active x.state && x.division == d)
active_incidents_chooses d = record {
  terms = equals 11 0 ∷ equals 1 1 ∷ [];
  selects = active_incidents_means;
  chooses = record {
    test = λ r. equal Binary (column r 10) (number (state_number Active)) && equal Binary (column r 0) (number d);
    agrees = λ r. and_then refl (and_last refl);
    same = λ x. and_then (equal-active x.state) (equal-numbers x.division d);
  };
}

pub active_incidents_are : (d : ℕ)
    → Shows incident_row ACTIVE_INCIDENTS.now (number (state_number Active) ∷ number d ∷ [])
    (λ found config room. found ≡ filter (λ x. is_active x.state && x.division == d) room.incidents)
active_incidents_are d =
    chosen_rows incidents_held ACTIVE_INCIDENTS.now (number (state_number Active) ∷ number d ∷ [])
    (λ x. is_active x.state && x.division == d) (active_incidents_chooses d)

pub incidents_opened_means : Selects room_schema INCIDENTS_OPENED.now 5
    (1 ∷ 2 ∷ 3 ∷ 4 ∷ 5 ∷ 6 ∷ 7 ∷ 8 ∷ 9 ∷ 10 ∷ 11 ∷ 12 ∷ []) (1 ∷ 2 ∷ [])
    (at_least 9 0 ∷ below 9 1 ∷ equals_by_value 1 2 ∷ [])
unfolding understood everything
incidents_opened_means = record { names = _; command = refl; plain = (refl, refl); unlisted = refl }

pub incidents_opened_chooses : (from to : ℤ) (d : ℕ)
    → SelectsChosen incidents_table incident_row INCIDENTS_OPENED.now (Int from ∷ Int to ∷ number d ∷ [])
    (λ x. int_le from (pos x.opened) && (int_lt (pos x.opened) to && x.division == d))
incidents_opened_chooses from to d = record {
  terms = at_least 9 0 ∷ below 9 1 ∷ equals_by_value 1 2 ∷ [];
  selects = incidents_opened_means;
  chooses = record {
    test =
        λ r.
        compare_by Ge (column r 8) (Int from)
        && (compare_by Lt (column r 8) (Int to) && equal Binary (column r 0) (number d));
    agrees = λ r. and_then refl (and_then refl (and_last (equal-by_value (column r 1) (number d))));
    same =
        λ x.
        and_then (at_least-integers (pos x.opened) from)
        (and_then (below-integers (pos x.opened) to) (equal-numbers x.division d));
  };
}

pub incidents_opened_are : (from to : ℤ) (d : ℕ)
    → Shows incident_row INCIDENTS_OPENED.now (Int from ∷ Int to ∷ number d ∷ [])
    (λ found config room.
    found ≡ filter (λ x. int_le from (pos x.opened) && (int_lt (pos x.opened) to && x.division == d)) room.incidents)
incidents_opened_are from to d =
    chosen_rows incidents_held INCIDENTS_OPENED.now (Int from ∷ Int to ∷ number d ∷ [])
    (λ x. int_le from (pos x.opened) && (int_lt (pos x.opened) to && x.division == d))
    (incidents_opened_chooses from to d)

pub incidents_since_means : Selects room_schema INCIDENTS_SINCE.now 5
    (1 ∷ 2 ∷ 3 ∷ 4 ∷ 5 ∷ 6 ∷ 7 ∷ 8 ∷ 9 ∷ 10 ∷ 11 ∷ 12 ∷ []) (1 ∷ 2 ∷ []) (at_least 9 0 ∷ [])
unfolding understood everything
incidents_since_means = record { names = _; command = refl; plain = (refl, refl); unlisted = refl }

pub incidents_since_chooses : (from : ℤ)
    → SelectsChosen incidents_table incident_row INCIDENTS_SINCE.now (Int from ∷ []) (λ x. int_le from (pos x.opened))
incidents_since_chooses from = record {
  terms = at_least 9 0 ∷ [];
  selects = incidents_since_means;
  chooses = record {
    test = λ r. compare_by Ge (column r 8) (Int from);
    agrees = λ r. and_last refl;
    same = λ x. at_least-integers (pos x.opened) from;
  };
}

pub incidents_since_are : (from : ℤ)
    → Shows incident_row INCIDENTS_SINCE.now (Int from ∷ [])
    (λ found config room. found ≡ filter (λ x. int_le from (pos x.opened)) room.incidents)
incidents_since_are from =
    chosen_rows incidents_held INCIDENTS_SINCE.now (Int from ∷ []) (λ x. int_le from (pos x.opened))
    (incidents_since_chooses from)

pub put_incident_means : Upserts room_schema PUT_INCIDENT.now 4 incidents_table (1 ∷ 2 ∷ []) 12 (row_values 12)
    (row_update 12)
unfolding understood everything
put_incident_means = record { command = refl; plain = (refl, refl) }

incident_kept : (x : Incident) → AreKept incidents_table.columns (incident_row x)
incident_kept x = (
  cast-Int _,
  (
    cast-Int _,
    (
      cast-Int _,
      (
        cast-Int _,
        (
          cast-Int _,
          (
            cast-Int _,
            (
              cast-Int _,
              (cast-Int _, (cast-Int _, (cast-number_or_null _, (cast-Int _, (cast-number_or_null _, tt))))),
            ),
          ),
        ),
      ),
    ),
  ),
)

pub incident_stores : (x : Incident)
    → Stores room_schema incidents_table (1 ∷ 2 ∷ 3 ∷ 4 ∷ 5 ∷ 6 ∷ 7 ∷ 8 ∷ 9 ∷ 10 ∷ 11 ∷ 12 ∷ []) (1 ∷ 2 ∷ []) 12
    (row_values 12) (row_update 12) (incident_row x)
unfolding Rattle.sqlite_value.specs.Keys.first_key
incident_stores x =
    stores_row room_schema incidents_table (1 ∷ 2 ∷ 3 ∷ 4 ∷ 5 ∷ 6 ∷ 7 ∷ 8 ∷ 9 ∷ 10 ∷ 11 ∷ 12 ∷ []) (1 ∷ 2 ∷ []) 12
    (incident_row x)
    (incident_kept x) refl (λ id. refl)
    (λ id r. conflict_of_two (column r 1) (column r 2) (number x.division) (number x.number) refl refl) (λ id r. refl)
    (λ id r. refl)

pub incident_puts : PutsRow incidents_table incident_row 4 PUT_INCIDENT.now
incident_puts = record {
  columns = 12;
  values = row_values 12;
  update = row_update 12;
  upserts = put_incident_means;
  stores = incident_stores;
}

pub incidents_are : IsTable pair_cmp incident_key incident_row pair_cells incidents_table (λ room. room.incidents)
    PutIncident (record { all = ALL_INCIDENTS.now; at = INCIDENT_AT.now; put = PUT_INCIDENT.now })
incidents_are = record {
  is_held = incidents_held;
  selects_all = all_incidents_means;
  selects_at = λ k. incident_at_chooses k.0 k.1;
  puts = incident_puts;
  leads = λ old new config room x h only is. with_incidents old new config room h only _ is;
}

pub insert_incident_means : Inserts room_schema INSERT_INCIDENT.now 4 12 (row_values 12)
unfolding understood everything
insert_incident_means = record { command = refl; plain = (refl, refl) }

pub incident_inserts : InsertsRow incidents_table incident_row incidents_are.is_held.at INSERT_INCIDENT.now
unfolding incidents_are
incident_inserts = record {
  columns = 12;
  values = row_values 12;
  update = row_update 12;
  inserts = insert_incident_means;
  stores = incident_stores;
}

pub overwrite_incident_means : Overwrites room_schema OVERWRITE_INCIDENT.now 4 incidents_table (1 ∷ 2 ∷ []) 12
unfolding understood everything
overwrite_incident_means = record { command = refl; plain = (refl, refl) }

pub incident_covers : (x : Incident)
    → Covers incidents_table (1 ∷ 2 ∷ 3 ∷ 4 ∷ 5 ∷ 6 ∷ 7 ∷ 8 ∷ 9 ∷ 10 ∷ 11 ∷ 12 ∷ []) (1 ∷ 2 ∷ []) 12 (incident_row x)
unfolding Rattle.sqlite_value.specs.Keys.first_key
incident_covers x =
    covers_row room_schema incidents_table (1 ∷ 2 ∷ 3 ∷ 4 ∷ 5 ∷ 6 ∷ 7 ∷ 8 ∷ 9 ∷ 10 ∷ 11 ∷ 12 ∷ []) (1 ∷ 2 ∷ []) 12
    (incident_row x) (incident_kept x) (λ id. refl)
    (λ r. tie_of_two (column r 1) (column r 2) (number x.division) (number x.number) refl refl) (λ r. refl)

pub incidents_overwritten : IsOverwritten incidents_table incident_row (λ room. room.incidents) OVERWRITE_INCIDENT.now
incidents_overwritten = record {
  at = 4;
  apart = incidents_apart;
  columns = 12;
  overwrites = overwrite_incident_means;
  covers = incident_covers;
  stays = λ old new config room h only is. with_incidents old new config room h only _ is;
}
