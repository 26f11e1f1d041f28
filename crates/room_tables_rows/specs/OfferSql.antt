-- The columns of an offer, in the order of its table, and which columns a reader takes.
use Rattle.std.specs.Prelude.{[], ◌∷◌, ◌==◌, Bool, length, ◌&&◌}
use Rattle.sqlite_value.specs.declared.value.Value.TheVariants.{Text}
use Rattle.sqlite_value.specs.Order.{Row, column}
use Rattle.room_tables_schema.specs.TypedRows.{number}
use Rattle.room_types.specs.declared.tables.Offer.{Offer}
use Rattle.room_tables_rows.specs.ColumnValues.{number_in, text_in}
use Rattle.room_tables_rows.specs.ReadableColumns.{is_division, is_moment, is_name}

abbrev pub offer_row : Offer → Row
offer_row x =
    Text x.callsign ∷ number x.lender ∷ number x.borrower ∷ number x.since ∷ number x.until ∷ []

abbrev pub offer_in : Row → Offer
offer_in r = record {
  callsign = text_in (column r 0);
  lender = number_in (column r 1);
  borrower = number_in (column r 2);
  since = number_in (column r 3);
  until = number_in (column r 4);
}

abbrev pub is_offer_row : Row → Bool
is_offer_row r =
    length r == 5 && is_name (column r 0) && is_division (column r 1) && is_division (column r 2)
    && is_moment (column r 3) && is_moment (column r 4)
