-- What the statements on the table calls say, and what they make of a room. (Written by tools/tables.py.)
use Rattle.room_model.specs.Room.{Room}
use Rattle.room_tables_rows.proofs.Kept.{with_calls}
use Rattle.room_tables_rows.proofs.Loads.{Shows, chosen_rows}
use Rattle.room_tables_rows.proofs.RowLaws.{call_faithful}
use Rattle.room_tables_rows.specs.CallSql.{call_row}
use Rattle.room_tables_rows.specs.KeyColumns.{pair_cells}
use Rattle.room_tables_rows.specs.RoomsInTables.{Configuration}
use Rattle.room_tables_rows.specs.Tables.{InsertsRow, IsHeld, IsTable, PutsRow, SelectsChosen}
use Rattle.room_tables_rows.specs.declared.call_sql.TheConstants.{ALL_CALLS, CALLS_BY, CALLS_OF}
use Rattle.room_tables_rows.specs.declared.call_sql.TheConstants.{CALL_AT, INSERT_CALL, PUT_CALL}
use Rattle.room_tables_schema.proofs.ColumnValues.{cast-Int}
use Rattle.room_tables_schema.proofs.Comparisons.{and_last, and_then, conflict_of_two}
use Rattle.room_tables_schema.proofs.Comparisons.{equal-numbers, is_eq-then, tie-numbers}
use Rattle.room_tables_schema.proofs.StoredRows.{stores_row}
use Rattle.room_tables_schema.specs.Schema.{calls_table, room_schema}
use Rattle.room_tables_schema.specs.Statements.{Inserts, Selects, StandsApart, Stores, Upserts}
use Rattle.room_tables_schema.specs.Statements.{equals, row_update, row_values}
use Rattle.room_tables_schema.specs.TypedRows.{number}
use Rattle.room_types.specs.Keys.{call_key, pair_cmp}
use Rattle.room_types.specs.declared.changes.Change.TheVariants.{PutCall}
use Rattle.room_types.specs.declared.tables.Call.{Call}
use Rattle.sqlite.specs.Listing.{understood}
use Rattle.sqlite_schema.specs.Rules.{equal}
use Rattle.sqlite_tied.specs.Compute.{everything}
use Rattle.sqlite_value.specs.Order.{column}
use Rattle.sqlite_value.specs.declared.keys.Collation.TheVariants.{Binary}
use Rattle.std.proofs.Common.{List, [], filter, refl, sym, ℕ, ◌&&◌, ◌==◌, ◌∙◌, ◌∷◌, ◌≡◌}
use Rattle.std.specs.Ordering.{is_eq, nat_cmp}

abbrev all_of : Configuration → Room → List Call
all_of config room = room.calls

pub calls_apart : StandsApart room_schema 5 calls_table
calls_apart = record { is_there = refl; unreferenced = λ olds news. refl; uncounted = refl }

abbrev pub calls_held : IsHeld pair_cmp call_key call_row calls_table all_of
calls_held = record {
  faithful = call_faithful;
  others = (3 ∷ 4 ∷ 5 ∷ 6 ∷ 7 ∷ 8 ∷ 9 ∷ 10 ∷ 11 ∷ 12 ∷ 13 ∷ 14 ∷ []);
  places_are = refl;
  at = 5;
  apart = calls_apart;
  held = λ trees config room h. h.calls;
}

pub all_calls_means : Selects room_schema ALL_CALLS.now 7
    (1 ∷ 2 ∷ 3 ∷ 4 ∷ 5 ∷ 6 ∷ 7 ∷ 8 ∷ 9 ∷ 10 ∷ 11 ∷ 12 ∷ 13 ∷ 14 ∷ []) (1 ∷ 2 ∷ []) ([])
unfolding understood everything
all_calls_means = record { names = _; command = refl; plain = (refl, refl); unlisted = refl }

pub call_at_means : Selects room_schema CALL_AT.now 7 (1 ∷ 2 ∷ 3 ∷ 4 ∷ 5 ∷ 6 ∷ 7 ∷ 8 ∷ 9 ∷ 10 ∷ 11 ∷ 12 ∷ 13 ∷ 14 ∷ [])
    (1 ∷ 2 ∷ []) (equals 1 0 ∷ equals 2 1 ∷ [])
unfolding understood everything
call_at_means = record { names = _; command = refl; plain = (refl, refl); unlisted = refl }

pub call_at_chooses : (j k : ℕ)
    → SelectsChosen calls_table call_row CALL_AT.now (number j ∷ number k ∷ [])
    (λ x. is_eq (pair_cmp (j, k) (call_key x)))
call_at_chooses j k = record {
  terms = equals 1 0 ∷ equals 2 1 ∷ [];
  selects = call_at_means;
  chooses = record {
    test = λ r. equal Binary (column r 0) (number j) && equal Binary (column r 1) (number k);
    agrees = λ r. and_then refl (and_last refl);
    same =
        λ x.
        and_then (tie-numbers x.position j) (tie-numbers x.serial k)
        ∙ sym (is_eq-then (nat_cmp j x.position) (nat_cmp k x.serial));
  };
}

pub calls_of_means : Selects room_schema CALLS_OF.now 7
    (1 ∷ 2 ∷ 3 ∷ 4 ∷ 5 ∷ 6 ∷ 7 ∷ 8 ∷ 9 ∷ 10 ∷ 11 ∷ 12 ∷ 13 ∷ 14 ∷ []) (1 ∷ 2 ∷ []) (equals 4 0 ∷ equals 3 1 ∷ [])
unfolding understood everything
calls_of_means = record { names = _; command = refl; plain = (refl, refl); unlisted = refl }

pub calls_of_chooses : (d n : ℕ)
    → SelectsChosen calls_table call_row CALLS_OF.now (number n ∷ number d ∷ [])
    (λ x. x.incident == n && x.division == d)
calls_of_chooses d n = record {
  terms = equals 4 0 ∷ equals 3 1 ∷ [];
  selects = calls_of_means;
  chooses = record {
    test = λ r. equal Binary (column r 3) (number n) && equal Binary (column r 2) (number d);
    agrees = λ r. and_then refl (and_last refl);
    same = λ x. and_then (equal-numbers x.incident n) (equal-numbers x.division d);
  };
}

pub calls_of_are : (d n : ℕ)
    → Shows call_row CALLS_OF.now (number n ∷ number d ∷ [])
    (λ found config room. found ≡ filter (λ x. x.incident == n && x.division == d) room.calls)
calls_of_are d n =
    chosen_rows calls_held CALLS_OF.now (number n ∷ number d ∷ []) (λ x. x.incident == n && x.division == d)
    (calls_of_chooses d n)

pub calls_by_means : Selects room_schema CALLS_BY.now 7
    (1 ∷ 2 ∷ 3 ∷ 4 ∷ 5 ∷ 6 ∷ 7 ∷ 8 ∷ 9 ∷ 10 ∷ 11 ∷ 12 ∷ 13 ∷ 14 ∷ []) (1 ∷ 2 ∷ []) (equals 1 0 ∷ [])
unfolding understood everything
calls_by_means = record { names = _; command = refl; plain = (refl, refl); unlisted = refl }

pub calls_by_chooses : (p : ℕ) → SelectsChosen calls_table call_row CALLS_BY.now (number p ∷ []) (λ x. x.position == p)
calls_by_chooses p = record {
  terms = equals 1 0 ∷ [];
  selects = calls_by_means;
  chooses = record {
    test = λ r. equal Binary (column r 0) (number p);
    agrees = λ r. and_last refl;
    same = λ x. equal-numbers x.position p;
  };
}

pub calls_by_are : (p : ℕ)
    → Shows call_row CALLS_BY.now (number p ∷ [])
    (λ found config room. found ≡ filter (λ x. x.position == p) room.calls)
calls_by_are p = chosen_rows calls_held CALLS_BY.now (number p ∷ []) (λ x. x.position == p) (calls_by_chooses p)

pub put_call_means : Upserts room_schema PUT_CALL.now 5 calls_table (1 ∷ 2 ∷ []) 14 (row_values 14) (row_update 14)
unfolding understood everything
put_call_means = record { command = refl; plain = (refl, refl) }

pub call_stores : (x : Call)
    → Stores room_schema calls_table (1 ∷ 2 ∷ 3 ∷ 4 ∷ 5 ∷ 6 ∷ 7 ∷ 8 ∷ 9 ∷ 10 ∷ 11 ∷ 12 ∷ 13 ∷ 14 ∷ []) (1 ∷ 2 ∷ []) 14
    (row_values 14) (row_update 14) (call_row x)
unfolding Rattle.sqlite_value.specs.Keys.first_key
call_stores x =
    stores_row room_schema calls_table (1 ∷ 2 ∷ 3 ∷ 4 ∷ 5 ∷ 6 ∷ 7 ∷ 8 ∷ 9 ∷ 10 ∷ 11 ∷ 12 ∷ 13 ∷ 14 ∷ []) (1 ∷ 2 ∷ []) 14
    (call_row x) (
      cast-Int _,
      (
        cast-Int _,
        (
          cast-Int _,
          (
            cast-Int _,
            (
              cast-Int _,
              (
                cast-Int _,
                (
                  cast-Int _,
                  (cast-Int _, (cast-Int _, (cast-Int _, (cast-Int _, (cast-Int _, (refl, (cast-Int _, tt))))))),
                ),
              ),
            ),
          ),
        ),
      ),
    ) refl (λ id. refl)
    (λ id r. conflict_of_two (column r 1) (column r 2) (number x.position) (number x.serial) refl refl) (λ id r. refl)
    (λ id r. refl)

pub call_puts : PutsRow calls_table call_row 5 PUT_CALL.now
call_puts = record {
  columns = 14;
  values = row_values 14;
  update = row_update 14;
  upserts = put_call_means;
  stores = call_stores;
}

pub calls_are : IsTable pair_cmp call_key call_row pair_cells calls_table (λ room. room.calls) PutCall
    (record { all = ALL_CALLS.now; at = CALL_AT.now; put = PUT_CALL.now })
calls_are = record {
  is_held = calls_held;
  selects_all = all_calls_means;
  selects_at = λ k. call_at_chooses k.0 k.1;
  puts = call_puts;
  leads = λ old new config room x h only is. with_calls old new config room h only _ is;
}

pub insert_call_means : Inserts room_schema INSERT_CALL.now 5 14 (row_values 14)
unfolding understood everything
insert_call_means = record { command = refl; plain = (refl, refl) }

pub call_inserts : InsertsRow calls_table call_row calls_are.is_held.at INSERT_CALL.now
unfolding calls_are
call_inserts = record {
  columns = 14;
  values = row_values 14;
  update = row_update 14;
  inserts = insert_call_means;
  stores = call_stores;
}
