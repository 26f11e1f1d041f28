-- What the statements on the table offers say, and what they make of a room. (Written by tools/tables.py.)
use Rattle.room_model.specs.Room.{Room}
use Rattle.room_tables_rows.proofs.Kept.{with_offers}
use Rattle.room_tables_rows.proofs.RowLaws.{offer_faithful}
use Rattle.room_tables_rows.specs.KeyColumns.{text_cells}
use Rattle.room_tables_rows.specs.OfferSql.{offer_row}
use Rattle.room_tables_rows.specs.RoomsInTables.{Configuration}
use Rattle.room_tables_rows.specs.Tables.{IsDropped, IsHeld, IsTable, PutsRow, SelectsChosen}
use Rattle.room_tables_rows.specs.declared.offer_sql.TheConstants.{ALL_OFFERS, DROP_OFFER, OFFER_AT}
use Rattle.room_tables_rows.specs.declared.offer_sql.TheConstants.{PUT_OFFER}
use Rattle.room_tables_schema.proofs.ColumnValues.{cast-Int}
use Rattle.room_tables_schema.proofs.Comparisons.{and_last, conflict_of_one, tie-texts}
use Rattle.room_tables_schema.proofs.StoredRows.{stores_row}
use Rattle.room_tables_schema.specs.Schema.{offers_table, room_schema}
use Rattle.room_tables_schema.specs.Statements.{Deletes, Selects, StandsApart, Stores, Upserts}
use Rattle.room_tables_schema.specs.Statements.{equals, row_update, row_values}
use Rattle.room_types.specs.Keys.{callsign_cmp, offer_key}
use Rattle.room_types.specs.Texts.{Callsign}
use Rattle.room_types.specs.declared.changes.Change.TheVariants.{DropOffer, PutOffer}
use Rattle.room_types.specs.declared.tables.Offer.{Offer}
use Rattle.sqlite.specs.Listing.{understood}
use Rattle.sqlite_schema.specs.Rules.{equal}
use Rattle.sqlite_tied.specs.Compute.{everything}
use Rattle.sqlite_value.specs.Order.{column}
use Rattle.sqlite_value.specs.declared.keys.Collation.TheVariants.{Binary}
use Rattle.sqlite_value.specs.declared.value.Value.TheVariants.{Text}
use Rattle.std.proofs.Common.{List, [], refl, ◌∷◌}
use Rattle.std.specs.Ordering.{is_eq}

abbrev all_of : Configuration → Room → List Offer
all_of config room = room.offers

pub offers_apart : StandsApart room_schema 12 offers_table
offers_apart = record { is_there = refl; unreferenced = λ olds news. refl; uncounted = refl }

abbrev pub offers_held : IsHeld callsign_cmp offer_key offer_row offers_table all_of
offers_held = record {
  faithful = offer_faithful;
  others = (2 ∷ 3 ∷ 4 ∷ 5 ∷ []);
  places_are = refl;
  at = 12;
  apart = offers_apart;
  held = λ trees config room h. h.offers;
}

pub all_offers_means : Selects room_schema ALL_OFFERS.now 21 (1 ∷ 2 ∷ 3 ∷ 4 ∷ 5 ∷ []) (1 ∷ []) ([])
unfolding understood everything
all_offers_means = record { names = _; command = refl; plain = (refl, refl); unlisted = refl }

pub offer_at_means : Selects room_schema OFFER_AT.now 21 (1 ∷ 2 ∷ 3 ∷ 4 ∷ 5 ∷ []) (1 ∷ []) (equals 1 0 ∷ [])
unfolding understood everything
offer_at_means = record { names = _; command = refl; plain = (refl, refl); unlisted = refl }

pub offer_at_chooses : (k : Callsign)
    → SelectsChosen offers_table offer_row OFFER_AT.now (Text k ∷ []) (λ x. is_eq (callsign_cmp k (offer_key x)))
offer_at_chooses k = record {
  terms = equals 1 0 ∷ [];
  selects = offer_at_means;
  chooses = record {
    test = λ r. equal Binary (column r 0) (Text k);
    agrees = λ r. and_last refl;
    same = λ x. tie-texts x.callsign k;
  };
}

pub put_offer_means : Upserts room_schema PUT_OFFER.now 12 offers_table (1 ∷ []) 5 (row_values 5) (row_update 5)
unfolding understood everything
put_offer_means = record { command = refl; plain = (refl, refl) }

pub offer_stores : (x : Offer)
    → Stores room_schema offers_table (1 ∷ 2 ∷ 3 ∷ 4 ∷ 5 ∷ []) (1 ∷ []) 5 (row_values 5) (row_update 5) (offer_row x)
unfolding Rattle.sqlite_value.specs.Keys.first_key
offer_stores x = stores_row room_schema offers_table (1 ∷ 2 ∷ 3 ∷ 4 ∷ 5 ∷ []) (1 ∷ []) 5 (offer_row x)
    (refl, (cast-Int _, (cast-Int _, (cast-Int _, (cast-Int _, tt))))) refl (λ id. refl)
    (λ id r. conflict_of_one (column r 1) (Text x.callsign) refl) (λ id r. refl) (λ id r. refl)

pub offer_puts : PutsRow offers_table offer_row 12 PUT_OFFER.now
offer_puts = record {
  columns = 5;
  values = row_values 5;
  update = row_update 5;
  upserts = put_offer_means;
  stores = offer_stores;
}

pub offers_are : IsTable callsign_cmp offer_key offer_row text_cells offers_table (λ room. room.offers) PutOffer
    (record { all = ALL_OFFERS.now; at = OFFER_AT.now; put = PUT_OFFER.now })
offers_are = record {
  is_held = offers_held;
  selects_all = all_offers_means;
  selects_at = λ k. offer_at_chooses k;
  puts = offer_puts;
  leads = λ old new config room x h only is. with_offers old new config room h only _ is;
}

pub drop_offer_means : Deletes room_schema DROP_OFFER.now 12 offers_table (equals 1 0 ∷ [])
unfolding understood everything
drop_offer_means = record { command = refl; plain = (refl, refl) }

pub offers_dropped : IsDropped callsign_cmp offer_key offer_row text_cells offers_table (λ room. room.offers) DropOffer
    DROP_OFFER.now
offers_dropped = record {
  at = 12;
  apart = offers_apart;
  deletes =
      λ k. record {
        terms = equals 1 0 ∷ [];
        deletes = drop_offer_means;
        chooses = record {
          test = λ r. equal Binary (column r 0) (Text k);
          agrees = λ r. and_last refl;
          same = λ x. tie-texts x.callsign k;
        };
      };
  leads = λ old new config room k h only is. with_offers old new config room h only _ is;
}
