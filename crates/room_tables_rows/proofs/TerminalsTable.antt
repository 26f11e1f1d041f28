-- What the statements on the table terminals say, and what they make of a room. (Written by tools/tables.py.)
use Rattle.room_model.specs.FleetRows.{terminal_key, token_cmp}
use Rattle.room_model.specs.Room.{Room}
use Rattle.room_tables_rows.proofs.Kept.{with_terminals}
use Rattle.room_tables_rows.proofs.Loads.{ShowsAll, ShowsRow, all_rows, row_of_key}
use Rattle.room_tables_rows.proofs.Puts.{put_changes}
use Rattle.room_tables_rows.proofs.RowLaws.{terminal_faithful}
use Rattle.room_tables_rows.proofs.Tests.{cast-text_or_null}
use Rattle.room_tables_rows.specs.RoomsInTables.{Configuration}
use Rattle.room_tables_rows.specs.Tables.{IsHeld, PutsRow, SelectsChosen}
use Rattle.room_tables_rows.specs.TerminalSql.{terminal_row}
use Rattle.room_tables_rows.specs.Writes.{Changes}
use Rattle.room_tables_rows.specs.declared.terminal_sql.TheConstants.{ALL_TERMINALS, PUT_TERMINAL}
use Rattle.room_tables_rows.specs.declared.terminal_sql.TheConstants.{TERMINAL_AT}
use Rattle.room_tables_schema.proofs.ColumnValues.{cast-Int}
use Rattle.room_tables_schema.proofs.Comparisons.{and_last, conflict_of_one, tie-texts}
use Rattle.room_tables_schema.proofs.StoredRows.{stores_row}
use Rattle.room_tables_schema.specs.Outcomes.{Inside}
use Rattle.room_tables_schema.specs.Schema.{room_schema, terminals_table}
use Rattle.room_tables_schema.specs.Statements.{Selects, StandsApart, Stores, Upserts, equals}
use Rattle.room_tables_schema.specs.Statements.{row_update, row_values}
use Rattle.room_types.specs.KeyedRows.{put_row, row_at}
use Rattle.room_types.specs.Texts.{Token}
use Rattle.room_types.specs.declared.fleet.Terminal.{Terminal}
use Rattle.sqlite.specs.Listing.{understood}
use Rattle.sqlite.specs.State.{Executes, State}
use Rattle.sqlite_schema.specs.Rules.{equal}
use Rattle.sqlite_tied.specs.Compute.{everything}
use Rattle.sqlite_value.specs.Order.{column}
use Rattle.sqlite_value.specs.declared.keys.Collation.TheVariants.{Binary}
use Rattle.sqlite_value.specs.declared.value.Value.TheVariants.{Text}
use Rattle.std.proofs.Common.{List, Ok, [], refl, ℕ, ◌∷◌, ◌≡◌}
use Rattle.std.specs.Ordering.{is_eq}

abbrev all_of : Configuration → Room → List Terminal
all_of config room = config.terminals

pub terminals_apart : StandsApart room_schema 2 terminals_table
terminals_apart = record { is_there = refl; unreferenced = λ olds news. refl; uncounted = refl }

abbrev pub terminals_held : IsHeld token_cmp terminal_key terminal_row terminals_table all_of
terminals_held = record {
  faithful = terminal_faithful;
  others = (2 ∷ 3 ∷ 4 ∷ []);
  places_are = refl;
  at = 2;
  apart = terminals_apart;
  held = λ trees config room h. h.terminals;
}

pub all_terminals_means : Selects room_schema ALL_TERMINALS.now 2 (1 ∷ 2 ∷ 3 ∷ 4 ∷ []) (1 ∷ []) ([])
unfolding understood everything
all_terminals_means = record { names = _; command = refl; plain = (refl, refl); unlisted = refl }

pub all_terminals_are : ShowsAll token_cmp terminal_key terminal_row terminals_table ALL_TERMINALS.now all_of
all_terminals_are = all_rows terminals_held ALL_TERMINALS.now all_terminals_means

pub terminal_at_means : Selects room_schema TERMINAL_AT.now 2 (1 ∷ 2 ∷ 3 ∷ 4 ∷ []) (1 ∷ []) (equals 1 0 ∷ [])
unfolding understood everything
terminal_at_means = record { names = _; command = refl; plain = (refl, refl); unlisted = refl }

pub terminal_at_chooses : (k : Token)
    → SelectsChosen terminals_table terminal_row TERMINAL_AT.now (Text k ∷ [])
    (λ x. is_eq (token_cmp k (terminal_key x)))
terminal_at_chooses k = record {
  terms = equals 1 0 ∷ [];
  selects = terminal_at_means;
  chooses = record {
    test = λ r. equal Binary (column r 0) (Text k);
    agrees = λ r. and_last refl;
    same = λ x. tie-texts x.token k;
  };
}

pub terminal_at_is : (k : Token)
    → ShowsRow terminal_row TERMINAL_AT.now (Text k ∷ [])
    (λ found config room. found ≡ row_at token_cmp terminal_key config.terminals k)
terminal_at_is k = row_of_key terminals_held TERMINAL_AT.now (Text k ∷ []) k (terminal_at_chooses k)

pub put_terminal_means : Upserts room_schema PUT_TERMINAL.now 2 terminals_table (1 ∷ []) 4 (row_values 4) (row_update 4)
unfolding understood everything
put_terminal_means = record { command = refl; plain = (refl, refl) }

pub terminal_stores : (x : Terminal)
    → Stores room_schema terminals_table (1 ∷ 2 ∷ 3 ∷ 4 ∷ []) (1 ∷ []) 4 (row_values 4) (row_update 4) (terminal_row x)
unfolding Rattle.sqlite_value.specs.Keys.first_key
terminal_stores x = stores_row room_schema terminals_table (1 ∷ 2 ∷ 3 ∷ 4 ∷ []) (1 ∷ []) 4 (terminal_row x)
    (refl, (cast-Int _, (cast-Int _, (cast-text_or_null _, tt)))) refl (λ id. refl)
    (λ id r. conflict_of_one (column r 1) (Text x.token) refl) (λ id r. refl) (λ id r. refl)

pub terminal_puts : PutsRow terminals_table terminal_row 2 PUT_TERMINAL.now
terminal_puts = record {
  columns = 4;
  values = row_values 4;
  update = row_update 4;
  upserts = put_terminal_means;
  stores = terminal_stores;
}

pub put_terminal_makes : (x : Terminal) (old new : State) (count : ℕ) → old.now.schema ≡ room_schema → Inside old new
    → Executes PUT_TERMINAL.now (terminal_row x) old new (Ok count)
    → Changes old new (λ config. record config { terminals = put_row token_cmp terminal_key config.terminals x })
    (λ room. room)
put_terminal_makes x =
    put_changes terminals_held PUT_TERMINAL.now terminal_puts x
    (λ config. record config { terminals = put_row token_cmp terminal_key config.terminals x }) (λ room. room)
    (λ old new config room h only is. with_terminals old new config room h only _ is)
