-- What the statements on the table turns say, and what they make of a room. (Written by tools/tables.py.)
use Rattle.room_model.specs.Room.{Room}
use Rattle.room_tables_rows.proofs.Kept.{with_turns}
use Rattle.room_tables_rows.proofs.Loads.{Shows, chosen_rows}
use Rattle.room_tables_rows.proofs.RowLaws.{turn_faithful}
use Rattle.room_tables_rows.specs.KeyColumns.{numbered_cells}
use Rattle.room_tables_rows.specs.RoomsInTables.{Configuration}
use Rattle.room_tables_rows.specs.Tables.{InsertsRow, IsHeld, IsOverwritten, IsTable, PutsRow}
use Rattle.room_tables_rows.specs.Tables.{SelectsChosen}
use Rattle.room_tables_rows.specs.TurnSql.{turn_row}
use Rattle.room_tables_rows.specs.declared.turn_sql.TheConstants.{ALL_TURNS, INSERT_TURN}
use Rattle.room_tables_rows.specs.declared.turn_sql.TheConstants.{OVERWRITE_TURN, PUT_TURN}
use Rattle.room_tables_rows.specs.declared.turn_sql.TheConstants.{TURNS_OF, TURN_AT, VEHICLE_TURNS}
use Rattle.room_tables_schema.proofs.ColumnValues.{AreKept, cast-Int, cast-number_or_null}
use Rattle.room_tables_schema.proofs.Comparisons.{and_last, and_then, conflict_of_two}
use Rattle.room_tables_schema.proofs.Comparisons.{equal-numbers, is_eq-then, tie-numbers, tie-texts}
use Rattle.room_tables_schema.proofs.Comparisons.{tie_of_two}
use Rattle.room_tables_schema.proofs.StoredRows.{covers_row, stores_row}
use Rattle.room_tables_schema.specs.Schema.{room_schema, turns_table}
use Rattle.room_tables_schema.specs.Statements.{Covers, Inserts, Overwrites, Selects, StandsApart}
use Rattle.room_tables_schema.specs.Statements.{Stores, Upserts, equals, row_update, row_values}
use Rattle.room_tables_schema.specs.TypedRows.{number}
use Rattle.room_types.specs.Keys.{callsign_cmp, numbered_cmp, turn_key}
use Rattle.room_types.specs.Texts.{Callsign}
use Rattle.room_types.specs.declared.changes.Change.TheVariants.{PutTurn}
use Rattle.room_types.specs.declared.tables.Turn.{Turn}
use Rattle.sqlite.specs.Listing.{understood}
use Rattle.sqlite_schema.specs.Rules.{equal}
use Rattle.sqlite_tied.specs.Compute.{everything}
use Rattle.sqlite_value.specs.Order.{column}
use Rattle.sqlite_value.specs.declared.keys.Collation.TheVariants.{Binary}
use Rattle.sqlite_value.specs.declared.value.Value.TheVariants.{Text}
use Rattle.std.proofs.Common.{List, [], filter, refl, sym, ℕ, ◌&&◌, ◌==◌, ◌∙◌, ◌∷◌, ◌≡◌}
use Rattle.std.specs.Ordering.{is_eq, nat_cmp}

abbrev all_of : Configuration → Room → List Turn
all_of config room = room.turns

pub turns_apart : StandsApart room_schema 7 turns_table
turns_apart = record { is_there = refl; unreferenced = λ olds news. refl; uncounted = refl }

abbrev pub turns_held : IsHeld numbered_cmp turn_key turn_row turns_table all_of
turns_held = record {
  faithful = turn_faithful;
  others = (3 ∷ 4 ∷ 5 ∷ 6 ∷ 7 ∷ 8 ∷ 9 ∷ 10 ∷ 11 ∷ 12 ∷ []);
  places_are = refl;
  at = 7;
  apart = turns_apart;
  held = λ trees config room h. h.turns;
}

pub all_turns_means : Selects room_schema ALL_TURNS.now 11 (1 ∷ 2 ∷ 3 ∷ 4 ∷ 5 ∷ 6 ∷ 7 ∷ 8 ∷ 9 ∷ 10 ∷ 11 ∷ 12 ∷ [])
    (1 ∷ 2 ∷ []) ([])
unfolding understood everything
all_turns_means = record { names = _; command = refl; plain = (refl, refl); unlisted = refl }

pub turn_at_means : Selects room_schema TURN_AT.now 11 (1 ∷ 2 ∷ 3 ∷ 4 ∷ 5 ∷ 6 ∷ 7 ∷ 8 ∷ 9 ∷ 10 ∷ 11 ∷ 12 ∷ [])
    (1 ∷ 2 ∷ []) (equals 1 0 ∷ equals 2 1 ∷ [])
unfolding understood everything
turn_at_means = record { names = _; command = refl; plain = (refl, refl); unlisted = refl }

pub turn_at_chooses : (j : Callsign) (k : ℕ)
    → SelectsChosen turns_table turn_row TURN_AT.now (Text j ∷ number k ∷ [])
    (λ x. is_eq (numbered_cmp (j, k) (turn_key x)))
turn_at_chooses j k = record {
  terms = equals 1 0 ∷ equals 2 1 ∷ [];
  selects = turn_at_means;
  chooses = record {
    test = λ r. equal Binary (column r 0) (Text j) && equal Binary (column r 1) (number k);
    agrees = λ r. and_then refl (and_last refl);
    same =
        λ x.
        and_then (tie-texts x.callsign j) (tie-numbers x.order k)
        ∙ sym (is_eq-then (callsign_cmp j x.callsign) (nat_cmp k x.order));
  };
}

pub turns_of_means : Selects room_schema TURNS_OF.now 11 (1 ∷ 2 ∷ 3 ∷ 4 ∷ 5 ∷ 6 ∷ 7 ∷ 8 ∷ 9 ∷ 10 ∷ 11 ∷ 12 ∷ [])
    (1 ∷ 2 ∷ []) (equals 4 0 ∷ equals 3 1 ∷ [])
unfolding understood everything
turns_of_means = record { names = _; command = refl; plain = (refl, refl); unlisted = refl }

pub turns_of_chooses : (d n : ℕ)
    → SelectsChosen turns_table turn_row TURNS_OF.now (number n ∷ number d ∷ [])
    (λ x. x.incident == n && x.division == d)
turns_of_chooses d n = record {
  terms = equals 4 0 ∷ equals 3 1 ∷ [];
  selects = turns_of_means;
  chooses = record {
    test = λ r. equal Binary (column r 3) (number n) && equal Binary (column r 2) (number d);
    agrees = λ r. and_then refl (and_last refl);
    same = λ x. and_then (equal-numbers x.incident n) (equal-numbers x.division d);
  };
}

pub turns_of_are : (d n : ℕ)
    → Shows turn_row TURNS_OF.now (number n ∷ number d ∷ [])
    (λ found config room. found ≡ filter (λ x. x.incident == n && x.division == d) room.turns)
turns_of_are d n =
    chosen_rows turns_held TURNS_OF.now (number n ∷ number d ∷ []) (λ x. x.incident == n && x.division == d)
    (turns_of_chooses d n)

pub vehicle_turns_means : Selects room_schema VEHICLE_TURNS.now 11
    (1 ∷ 2 ∷ 3 ∷ 4 ∷ 5 ∷ 6 ∷ 7 ∷ 8 ∷ 9 ∷ 10 ∷ 11 ∷ 12 ∷ []) (1 ∷ 2 ∷ []) (equals 1 0 ∷ equals 3 1 ∷ [])
unfolding understood everything
vehicle_turns_means = record { names = _; command = refl; plain = (refl, refl); unlisted = refl }

pub vehicle_turns_chooses : (c : Callsign) (d : ℕ)
    → SelectsChosen turns_table turn_row VEHICLE_TURNS.now (Text c ∷ number d ∷ [])
    (λ x. is_eq (callsign_cmp c x.callsign) && x.division == d)
vehicle_turns_chooses c d = record {
  terms = equals 1 0 ∷ equals 3 1 ∷ [];
  selects = vehicle_turns_means;
  chooses = record {
    test = λ r. equal Binary (column r 0) (Text c) && equal Binary (column r 2) (number d);
    agrees = λ r. and_then refl (and_last refl);
    same = λ x. and_then (tie-texts x.callsign c) (equal-numbers x.division d);
  };
}

pub vehicle_turns_are : (c : Callsign) (d : ℕ)
    → Shows turn_row VEHICLE_TURNS.now (Text c ∷ number d ∷ [])
    (λ found config room. found ≡ filter (λ x. is_eq (callsign_cmp c x.callsign) && x.division == d) room.turns)
vehicle_turns_are c d =
    chosen_rows turns_held VEHICLE_TURNS.now (Text c ∷ number d ∷ [])
    (λ x. is_eq (callsign_cmp c x.callsign) && x.division == d) (vehicle_turns_chooses c d)

pub put_turn_means : Upserts room_schema PUT_TURN.now 7 turns_table (1 ∷ 2 ∷ []) 12 (row_values 12) (row_update 12)
unfolding understood everything
put_turn_means = record { command = refl; plain = (refl, refl) }

turn_kept : (x : Turn) → AreKept turns_table.columns (turn_row x)
turn_kept x = (
  refl,
  (
    cast-Int _,
    (
      cast-Int _,
      (
        cast-Int _,
        (
          cast-Int _,
          (
            cast-Int _,
            (
              cast-number_or_null _,
              (
                cast-number_or_null _,
                (cast-number_or_null _, (cast-number_or_null _, (cast-number_or_null _, (cast-Int _, tt)))),
              ),
            ),
          ),
        ),
      ),
    ),
  ),
)

pub turn_stores : (x : Turn)
    → Stores room_schema turns_table (1 ∷ 2 ∷ 3 ∷ 4 ∷ 5 ∷ 6 ∷ 7 ∷ 8 ∷ 9 ∷ 10 ∷ 11 ∷ 12 ∷ []) (1 ∷ 2 ∷ []) 12
    (row_values 12) (row_update 12) (turn_row x)
unfolding Rattle.sqlite_value.specs.Keys.first_key
turn_stores x =
    stores_row room_schema turns_table (1 ∷ 2 ∷ 3 ∷ 4 ∷ 5 ∷ 6 ∷ 7 ∷ 8 ∷ 9 ∷ 10 ∷ 11 ∷ 12 ∷ []) (1 ∷ 2 ∷ []) 12
    (turn_row x)
    (turn_kept x) refl (λ id. refl)
    (λ id r. conflict_of_two (column r 1) (column r 2) (Text x.callsign) (number x.order) refl refl) (λ id r. refl)
    (λ id r. refl)

pub turn_puts : PutsRow turns_table turn_row 7 PUT_TURN.now
turn_puts = record {
  columns = 12;
  values = row_values 12;
  update = row_update 12;
  upserts = put_turn_means;
  stores = turn_stores;
}

pub turns_are : IsTable numbered_cmp turn_key turn_row numbered_cells turns_table (λ room. room.turns) PutTurn
    (record { all = ALL_TURNS.now; at = TURN_AT.now; put = PUT_TURN.now })
turns_are = record {
  is_held = turns_held;
  selects_all = all_turns_means;
  selects_at = λ k. turn_at_chooses k.0 k.1;
  puts = turn_puts;
  leads = λ old new config room x h only is. with_turns old new config room h only _ is;
}

pub insert_turn_means : Inserts room_schema INSERT_TURN.now 7 12 (row_values 12)
unfolding understood everything
insert_turn_means = record { command = refl; plain = (refl, refl) }

pub turn_inserts : InsertsRow turns_table turn_row turns_are.is_held.at INSERT_TURN.now
unfolding turns_are
turn_inserts = record {
  columns = 12;
  values = row_values 12;
  update = row_update 12;
  inserts = insert_turn_means;
  stores = turn_stores;
}

pub overwrite_turn_means : Overwrites room_schema OVERWRITE_TURN.now 7 turns_table (1 ∷ 2 ∷ []) 12
unfolding understood everything
overwrite_turn_means = record { command = refl; plain = (refl, refl) }

pub turn_covers : (x : Turn)
    → Covers turns_table (1 ∷ 2 ∷ 3 ∷ 4 ∷ 5 ∷ 6 ∷ 7 ∷ 8 ∷ 9 ∷ 10 ∷ 11 ∷ 12 ∷ []) (1 ∷ 2 ∷ []) 12 (turn_row x)
unfolding Rattle.sqlite_value.specs.Keys.first_key
turn_covers x =
    covers_row room_schema turns_table (1 ∷ 2 ∷ 3 ∷ 4 ∷ 5 ∷ 6 ∷ 7 ∷ 8 ∷ 9 ∷ 10 ∷ 11 ∷ 12 ∷ []) (1 ∷ 2 ∷ []) 12
    (turn_row x) (turn_kept x) (λ id. refl)
    (λ r. tie_of_two (column r 1) (column r 2) (Text x.callsign) (number x.order) refl refl) (λ r. refl)

pub turns_overwritten : IsOverwritten turns_table turn_row (λ room. room.turns) OVERWRITE_TURN.now
turns_overwritten = record {
  at = 7;
  apart = turns_apart;
  columns = 12;
  overwrites = overwrite_turn_means;
  covers = turn_covers;
  stays = λ old new config room h only is. with_turns old new config room h only _ is;
}
