-- What the statements on the table reports say, and what they make of a room. (Written by tools/tables.py.)
use Rattle.room_model.specs.Room.{Room}
use Rattle.room_tables_rows.proofs.Kept.{with_reports}
use Rattle.room_tables_rows.proofs.Loads.{Shows, chosen_rows}
use Rattle.room_tables_rows.proofs.RowLaws.{report_faithful}
use Rattle.room_tables_rows.proofs.Tests.{and_three, equal-false}
use Rattle.room_tables_rows.specs.ColumnValues.{outcome_code, truth}
use Rattle.room_tables_rows.specs.KeyColumns.{numbered_cells}
use Rattle.room_tables_rows.specs.ReportSql.{report_row}
use Rattle.room_tables_rows.specs.RoomsInTables.{Configuration}
use Rattle.room_tables_rows.specs.Tables.{InsertsRow, IsHeld, IsTable, PutsRow, SelectsChosen}
use Rattle.room_tables_rows.specs.declared.report_sql.TheConstants.{ALL_REPORTS, INSERT_REPORT}
use Rattle.room_tables_rows.specs.declared.report_sql.TheConstants.{PUT_REPORT, REPORTS_OF}
use Rattle.room_tables_rows.specs.declared.report_sql.TheConstants.{REPORT_AT, UNCLEARED_REPORTS}
use Rattle.room_tables_schema.proofs.ColumnValues.{cast-Int}
use Rattle.room_tables_schema.proofs.Comparisons.{and_last, and_then, conflict_of_two}
use Rattle.room_tables_schema.proofs.Comparisons.{equal-numbers, is_eq-then, tie-numbers, tie-texts}
use Rattle.room_tables_schema.proofs.StoredRows.{stores_row}
use Rattle.room_tables_schema.specs.Schema.{reports_table, room_schema}
use Rattle.room_tables_schema.specs.Statements.{Inserts, Selects, StandsApart, Stores, Upserts}
use Rattle.room_tables_schema.specs.Statements.{equals, row_update, row_values}
use Rattle.room_tables_schema.specs.TypedRows.{number}
use Rattle.room_types.specs.Codes.{outcome_number}
use Rattle.room_types.specs.Keys.{callsign_cmp, numbered_cmp, report_key}
use Rattle.room_types.specs.Texts.{Callsign}
use Rattle.room_types.specs.declared.changes.Change.TheVariants.{PutReport}
use Rattle.room_types.specs.declared.codes.Outcome.{Outcome}
use Rattle.room_types.specs.declared.tables.Report.{Report}
use Rattle.sqlite.specs.Listing.{understood}
use Rattle.sqlite_schema.specs.Rules.{equal}
use Rattle.sqlite_tied.specs.Compute.{everything}
use Rattle.sqlite_value.specs.Order.{column}
use Rattle.sqlite_value.specs.declared.keys.Collation.TheVariants.{Binary}
use Rattle.sqlite_value.specs.declared.value.Value.TheVariants.{Text}
use Rattle.std.proofs.Common.{List, [], false, filter, not, refl, sym, ℕ, ◌&&◌, ◌==◌, ◌∙◌, ◌∷◌, ◌≡◌}
use Rattle.std.specs.Ordering.{is_eq, nat_cmp}

abbrev all_of : Configuration → Room → List Report
all_of config room = room.reports

pub reports_apart : StandsApart room_schema 11 reports_table
reports_apart = record { is_there = refl; unreferenced = λ olds news. refl; uncounted = refl }

abbrev pub reports_held : IsHeld numbered_cmp report_key report_row reports_table all_of
reports_held = record {
  faithful = report_faithful;
  others = (3 ∷ 4 ∷ 5 ∷ 6 ∷ 7 ∷ 8 ∷ 9 ∷ 10 ∷ 11 ∷ []);
  places_are = refl;
  at = 11;
  apart = reports_apart;
  held = λ trees config room h. h.reports;
}

pub all_reports_means : Selects room_schema ALL_REPORTS.now 19 (1 ∷ 2 ∷ 3 ∷ 4 ∷ 5 ∷ 6 ∷ 7 ∷ 8 ∷ 9 ∷ 10 ∷ 11 ∷ [])
    (1 ∷ 2 ∷ []) ([])
unfolding understood everything
all_reports_means = record { names = _; command = refl; plain = (refl, refl); unlisted = refl }

pub report_at_means : Selects room_schema REPORT_AT.now 19 (1 ∷ 2 ∷ 3 ∷ 4 ∷ 5 ∷ 6 ∷ 7 ∷ 8 ∷ 9 ∷ 10 ∷ 11 ∷ [])
    (1 ∷ 2 ∷ []) (equals 1 0 ∷ equals 2 1 ∷ [])
unfolding understood everything
report_at_means = record { names = _; command = refl; plain = (refl, refl); unlisted = refl }

pub report_at_chooses : (j : Callsign) (k : ℕ)
    → SelectsChosen reports_table report_row REPORT_AT.now (Text j ∷ number k ∷ [])
    (λ x. is_eq (numbered_cmp (j, k) (report_key x)))
report_at_chooses j k = record {
  terms = equals 1 0 ∷ equals 2 1 ∷ [];
  selects = report_at_means;
  chooses = record {
    test = λ r. equal Binary (column r 0) (Text j) && equal Binary (column r 1) (number k);
    agrees = λ r. and_then refl (and_last refl);
    same =
        λ x.
        and_then (tie-texts x.callsign j) (tie-numbers x.number k)
        ∙ sym (is_eq-then (callsign_cmp j x.callsign) (nat_cmp k x.number));
  };
}

pub uncleared_reports_means : Selects room_schema UNCLEARED_REPORTS.now 19
    (1 ∷ 2 ∷ 3 ∷ 4 ∷ 5 ∷ 6 ∷ 7 ∷ 8 ∷ 9 ∷ 10 ∷ 11 ∷ []) (1 ∷ 2 ∷ []) (equals 9 0 ∷ equals 11 1 ∷ equals 8 2 ∷ [])
unfolding understood everything
uncleared_reports_means = record { names = _; command = refl; plain = (refl, refl); unlisted = refl }

pub uncleared_reports_chooses : (o : Outcome) (d : ℕ)
    → SelectsChosen reports_table report_row UNCLEARED_REPORTS.now (outcome_code o ∷ truth false ∷ number d ∷ [])
    (λ x. outcome_number x.outcome == outcome_number o && (not x.cleared && x.division == d))
uncleared_reports_chooses o d = record {
  terms = equals 9 0 ∷ equals 11 1 ∷ equals 8 2 ∷ [];
  selects = uncleared_reports_means;
  chooses = record {
    test =
        λ r.
        equal Binary (column r 8) (outcome_code o)
        && (equal Binary (column r 10) (truth false) && equal Binary (column r 7) (number d));
    agrees =
        λ r.
        and_three (equal Binary (column r 9) (outcome_code o)) (equal Binary (column r 11) (truth false))
        (equal Binary (column r 8) (number d));
    same =
        λ x.
        and_then (equal-numbers (outcome_number x.outcome) (outcome_number o))
        (and_then (equal-false x.cleared) (equal-numbers x.division d));
  };
}

pub uncleared_reports_are : (o : Outcome) (d : ℕ)
    → Shows report_row UNCLEARED_REPORTS.now (outcome_code o ∷ truth false ∷ number d ∷ [])
    (λ found config room.
    found
    ≡ filter (λ x. outcome_number x.outcome == outcome_number o && (not x.cleared && x.division == d)) room.reports)
uncleared_reports_are o d =
    chosen_rows reports_held UNCLEARED_REPORTS.now (outcome_code o ∷ truth false ∷ number d ∷ [])
    (λ x. outcome_number x.outcome == outcome_number o && (not x.cleared && x.division == d))
    (uncleared_reports_chooses o d)

pub reports_of_means : Selects room_schema REPORTS_OF.now 19 (1 ∷ 2 ∷ 3 ∷ 4 ∷ 5 ∷ 6 ∷ 7 ∷ 8 ∷ 9 ∷ 10 ∷ 11 ∷ [])
    (1 ∷ 2 ∷ []) (equals 1 0 ∷ equals 8 1 ∷ [])
unfolding understood everything
reports_of_means = record { names = _; command = refl; plain = (refl, refl); unlisted = refl }

pub reports_of_chooses : (c : Callsign) (d : ℕ)
    → SelectsChosen reports_table report_row REPORTS_OF.now (Text c ∷ number d ∷ [])
    (λ x. is_eq (callsign_cmp c x.callsign) && x.division == d)
reports_of_chooses c d = record {
  terms = equals 1 0 ∷ equals 8 1 ∷ [];
  selects = reports_of_means;
  chooses = record {
    test = λ r. equal Binary (column r 0) (Text c) && equal Binary (column r 7) (number d);
    agrees = λ r. and_then refl (and_last refl);
    same = λ x. and_then (tie-texts x.callsign c) (equal-numbers x.division d);
  };
}

pub reports_of_are : (c : Callsign) (d : ℕ)
    → Shows report_row REPORTS_OF.now (Text c ∷ number d ∷ [])
    (λ found config room. found ≡ filter (λ x. is_eq (callsign_cmp c x.callsign) && x.division == d) room.reports)
reports_of_are c d =
    chosen_rows reports_held REPORTS_OF.now (Text c ∷ number d ∷ [])
    (λ x. is_eq (callsign_cmp c x.callsign) && x.division == d) (reports_of_chooses c d)

pub put_report_means : Upserts room_schema PUT_REPORT.now 11 reports_table (1 ∷ 2 ∷ []) 11 (row_values 11)
    (row_update 11)
unfolding understood everything
put_report_means = record { command = refl; plain = (refl, refl) }

pub report_stores : (x : Report)
    → Stores room_schema reports_table (1 ∷ 2 ∷ 3 ∷ 4 ∷ 5 ∷ 6 ∷ 7 ∷ 8 ∷ 9 ∷ 10 ∷ 11 ∷ []) (1 ∷ 2 ∷ []) 11
    (row_values 11) (row_update 11) (report_row x)
unfolding Rattle.sqlite_value.specs.Keys.first_key
report_stores x =
    stores_row room_schema reports_table (1 ∷ 2 ∷ 3 ∷ 4 ∷ 5 ∷ 6 ∷ 7 ∷ 8 ∷ 9 ∷ 10 ∷ 11 ∷ []) (1 ∷ 2 ∷ []) 11
    (report_row x) (
      refl,
      (
        cast-Int _,
        (
          cast-Int _,
          (
            cast-Int _,
            (cast-Int _, (cast-Int _, (cast-Int _, (cast-Int _, (cast-Int _, (cast-Int _, (cast-Int _, tt))))))),
          ),
        ),
      ),
    ) refl (λ id. refl)
    (λ id r. conflict_of_two (column r 1) (column r 2) (Text x.callsign) (number x.number) refl refl) (λ id r. refl)
    (λ id r. refl)

pub report_puts : PutsRow reports_table report_row 11 PUT_REPORT.now
report_puts = record {
  columns = 11;
  values = row_values 11;
  update = row_update 11;
  upserts = put_report_means;
  stores = report_stores;
}

pub reports_are : IsTable numbered_cmp report_key report_row numbered_cells reports_table (λ room. room.reports)
    PutReport (record { all = ALL_REPORTS.now; at = REPORT_AT.now; put = PUT_REPORT.now })
reports_are = record {
  is_held = reports_held;
  selects_all = all_reports_means;
  selects_at = λ k. report_at_chooses k.0 k.1;
  puts = report_puts;
  leads = λ old new config room x h only is. with_reports old new config room h only _ is;
}

pub insert_report_means : Inserts room_schema INSERT_REPORT.now 11 11 (row_values 11)
unfolding understood everything
insert_report_means = record { command = refl; plain = (refl, refl) }

pub report_inserts : InsertsRow reports_table report_row reports_are.is_held.at INSERT_REPORT.now
unfolding reports_are
report_inserts = record {
  columns = 11;
  values = row_values 11;
  update = row_update 11;
  inserts = insert_report_means;
  stores = report_stores;
}
