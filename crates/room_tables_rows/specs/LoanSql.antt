-- The columns of a loan, in the order of its table, and which columns a reader takes.
use Rattle.std.specs.Prelude.{[], ◌∷◌, ◌==◌, Bool, length, ◌&&◌}
use Rattle.sqlite_value.specs.declared.value.Value.TheVariants.{Text}
use Rattle.sqlite_value.specs.Order.{Row, column}
use Rattle.room_tables_schema.specs.TypedRows.{number}
use Rattle.room_types.specs.declared.tables.Loan.{Loan}
use Rattle.room_tables_rows.specs.ColumnValues.{truth, number_in, text_in, truth_in}
use Rattle.room_tables_rows.specs.ReadableColumns.{is_truth, is_division, is_moment, is_name}

abbrev pub loan_row : Loan → Row
loan_row x = Text x.callsign ∷ number x.lender ∷ number x.borrower ∷ number x.since
    ∷ number x.until ∷ truth x.recalled ∷ []

abbrev pub loan_in : Row → Loan
loan_in r = record {
  callsign = text_in (column r 0);
  lender = number_in (column r 1);
  borrower = number_in (column r 2);
  since = number_in (column r 3);
  until = number_in (column r 4);
  recalled = truth_in (column r 5);
}

abbrev pub is_loan_row : Row → Bool
is_loan_row r =
    length r == 6 && is_name (column r 0) && is_division (column r 1) && is_division (column r 2)
    && is_moment (column r 3) && is_moment (column r 4) && is_truth (column r 5)
