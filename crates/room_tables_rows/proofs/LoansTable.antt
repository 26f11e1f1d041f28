-- What the statements on the table loans say, and what they make of a room. (Written by tools/tables.py.)
use Rattle.room_model.specs.Room.{Room}
use Rattle.room_tables_rows.proofs.Kept.{with_loans}
use Rattle.room_tables_rows.proofs.RowLaws.{loan_faithful}
use Rattle.room_tables_rows.specs.KeyColumns.{text_cells}
use Rattle.room_tables_rows.specs.LoanSql.{loan_row}
use Rattle.room_tables_rows.specs.RoomsInTables.{Configuration}
use Rattle.room_tables_rows.specs.Tables.{IsDropped, IsHeld, IsTable, PutsRow, SelectsChosen}
use Rattle.room_tables_rows.specs.declared.loan_sql.TheConstants.{ALL_LOANS, DROP_LOAN, LOAN_AT}
use Rattle.room_tables_rows.specs.declared.loan_sql.TheConstants.{PUT_LOAN}
use Rattle.room_tables_schema.proofs.ColumnValues.{cast-Int}
use Rattle.room_tables_schema.proofs.Comparisons.{and_last, conflict_of_one, tie-texts}
use Rattle.room_tables_schema.proofs.StoredRows.{stores_row}
use Rattle.room_tables_schema.specs.Schema.{loans_table, room_schema}
use Rattle.room_tables_schema.specs.Statements.{Deletes, Selects, StandsApart, Stores, Upserts}
use Rattle.room_tables_schema.specs.Statements.{equals, row_update, row_values}
use Rattle.room_types.specs.Keys.{callsign_cmp, loan_key}
use Rattle.room_types.specs.Texts.{Callsign}
use Rattle.room_types.specs.declared.changes.Change.TheVariants.{DropLoan, PutLoan}
use Rattle.room_types.specs.declared.tables.Loan.{Loan}
use Rattle.sqlite.specs.Listing.{understood}
use Rattle.sqlite_schema.specs.Rules.{equal}
use Rattle.sqlite_tied.specs.Compute.{everything}
use Rattle.sqlite_value.specs.Order.{column}
use Rattle.sqlite_value.specs.declared.keys.Collation.TheVariants.{Binary}
use Rattle.sqlite_value.specs.declared.value.Value.TheVariants.{Text}
use Rattle.std.proofs.Common.{List, [], refl, ◌∷◌}
use Rattle.std.specs.Ordering.{is_eq}

abbrev all_of : Configuration → Room → List Loan
all_of config room = room.loans

pub loans_apart : StandsApart room_schema 10 loans_table
loans_apart = record { is_there = refl; unreferenced = λ olds news. refl; uncounted = refl }

abbrev pub loans_held : IsHeld callsign_cmp loan_key loan_row loans_table all_of
loans_held = record {
  faithful = loan_faithful;
  others = (2 ∷ 3 ∷ 4 ∷ 5 ∷ 6 ∷ []);
  places_are = refl;
  at = 10;
  apart = loans_apart;
  held = λ trees config room h. h.loans;
}

pub all_loans_means : Selects room_schema ALL_LOANS.now 17 (1 ∷ 2 ∷ 3 ∷ 4 ∷ 5 ∷ 6 ∷ []) (1 ∷ []) ([])
unfolding understood everything
all_loans_means = record { names = _; command = refl; plain = (refl, refl); unlisted = refl }

pub loan_at_means : Selects room_schema LOAN_AT.now 17 (1 ∷ 2 ∷ 3 ∷ 4 ∷ 5 ∷ 6 ∷ []) (1 ∷ []) (equals 1 0 ∷ [])
unfolding understood everything
loan_at_means = record { names = _; command = refl; plain = (refl, refl); unlisted = refl }

pub loan_at_chooses : (k : Callsign)
    → SelectsChosen loans_table loan_row LOAN_AT.now (Text k ∷ []) (λ x. is_eq (callsign_cmp k (loan_key x)))
loan_at_chooses k = record {
  terms = equals 1 0 ∷ [];
  selects = loan_at_means;
  chooses = record {
    test = λ r. equal Binary (column r 0) (Text k);
    agrees = λ r. and_last refl;
    same = λ x. tie-texts x.callsign k;
  };
}

pub put_loan_means : Upserts room_schema PUT_LOAN.now 10 loans_table (1 ∷ []) 6 (row_values 6) (row_update 6)
unfolding understood everything
put_loan_means = record { command = refl; plain = (refl, refl) }

pub loan_stores : (x : Loan)
    → Stores room_schema loans_table (1 ∷ 2 ∷ 3 ∷ 4 ∷ 5 ∷ 6 ∷ []) (1 ∷ []) 6 (row_values 6) (row_update 6) (loan_row x)
unfolding Rattle.sqlite_value.specs.Keys.first_key
loan_stores x = stores_row room_schema loans_table (1 ∷ 2 ∷ 3 ∷ 4 ∷ 5 ∷ 6 ∷ []) (1 ∷ []) 6 (loan_row x)
    (refl, (cast-Int _, (cast-Int _, (cast-Int _, (cast-Int _, (cast-Int _, tt)))))) refl (λ id. refl)
    (λ id r. conflict_of_one (column r 1) (Text x.callsign) refl) (λ id r. refl) (λ id r. refl)

pub loan_puts : PutsRow loans_table loan_row 10 PUT_LOAN.now
loan_puts =
    record { columns = 6; values = row_values 6; update = row_update 6; upserts = put_loan_means; stores = loan_stores }

pub loans_are : IsTable callsign_cmp loan_key loan_row text_cells loans_table (λ room. room.loans) PutLoan
    (record { all = ALL_LOANS.now; at = LOAN_AT.now; put = PUT_LOAN.now })
loans_are = record {
  is_held = loans_held;
  selects_all = all_loans_means;
  selects_at = λ k. loan_at_chooses k;
  puts = loan_puts;
  leads = λ old new config room x h only is. with_loans old new config room h only _ is;
}

pub drop_loan_means : Deletes room_schema DROP_LOAN.now 10 loans_table (equals 1 0 ∷ [])
unfolding understood everything
drop_loan_means = record { command = refl; plain = (refl, refl) }

pub loans_dropped : IsDropped callsign_cmp loan_key loan_row text_cells loans_table (λ room. room.loans) DropLoan
    DROP_LOAN.now
loans_dropped = record {
  at = 10;
  apart = loans_apart;
  deletes =
      λ k. record {
        terms = equals 1 0 ∷ [];
        deletes = drop_loan_means;
        chooses = record {
          test = λ r. equal Binary (column r 0) (Text k);
          agrees = λ r. and_last refl;
          same = λ x. tie-texts x.callsign k;
        };
      };
  leads = λ old new config room k h only is. with_loans old new config room h only _ is;
}
