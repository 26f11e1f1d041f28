-- What the statements say that drop terminals, and what they make of a room.
use Rattle.std.proofs.Common.{Bool, List, Ok, [], ap, false, filter, is_eq, map, not, refl, subst}
use Rattle.std.proofs.Common.{ℕ, ◌&&◌, ◌==◌, ◌∙◌, ◌∷◌, ◌≡◌}
use Rattle.sqlite.specs.Listing.{understood}
use Rattle.sqlite.specs.State.{Executes, State}
use Rattle.sqlite_schema.specs.Rules.{equal}
use Rattle.sqlite_tied.specs.Compute.{everything}
use Rattle.sqlite_trees.proofs.ListLemmas.{filter-map}
use Rattle.sqlite_value.specs.Order.{Row, column}
use Rattle.sqlite_value.specs.declared.keys.Collation.TheVariants.{Binary}
use Rattle.sqlite_value.specs.declared.value.Value.TheVariants.{Null, Text}
use Rattle.sqlite_value.proofs.OrderLemmas.{value_cmp-Null}
use Rattle.sqlite.specs.Values.{or_null}
use Rattle.room_tables_schema.proofs.Comparisons.{and_last, and_then, equal-numbers, equal-texts}
use Rattle.room_tables_schema.proofs.Comparisons.{equal-value_cmp}
use Rattle.room_tables_schema.proofs.Deletions.{deleted}
use Rattle.room_tables_schema.specs.Outcomes.{Inside}
use Rattle.room_tables_schema.specs.Statements.{Deletes, equals}
use Rattle.room_tables_schema.specs.TableTrees.{Holds}
use Rattle.room_tables_schema.specs.TypedRows.{number}
use Rattle.room_types.specs.Texts.{Callsign}
use Rattle.room_types.specs.declared.asks.Who.{Who}
use Rattle.room_types.specs.declared.asks.Who.TheVariants.{Crew, Desk, Position}
use Rattle.room_types.specs.declared.fleet.Terminal.{Terminal}
use Rattle.room_model.specs.FleetRows.{is_crew}
use Rattle.room_tables_schema.specs.Schema.{room_schema, terminals_table}
use Rattle.room_tables_rows.proofs.Kept.{with_terminals}
use Rattle.room_tables_rows.proofs.TerminalsTable.{terminals_apart}
use Rattle.room_tables_rows.specs.RoomsInTables.{places}
use Rattle.room_tables_rows.specs.Tables.{DeletesChosen}
use Rattle.room_tables_rows.specs.TerminalSql.{crew_of, number_of, role_of, terminal_row}
use Rattle.room_tables_rows.specs.Writes.{Changes}
use Rattle.room_store_writes.specs.TerminalHolders.{is_desk, is_position}
use Rattle.room_store_writes.specs.declared.dropped_terminals.TheConstants.{DROP_CREWS}
use Rattle.room_store_writes.specs.declared.dropped_terminals.TheConstants.{DROP_NUMBERED}

-- the rows of those that are not chosen
kept_rows : (test : Row → Bool) (chosen : Terminal → Bool)
    → ((x : Terminal) → test (terminal_row x) ≡ chosen x) → (xs : List Terminal)
    → filter (λ r. not (test r)) (map terminal_row xs)
    ≡ map terminal_row (filter (λ x. not (chosen x)) xs)
kept_rows test chosen same xs =
    filter-map (λ r. not (test r)) terminal_row xs
    ∙ ap (λ (p : Terminal → Bool). map terminal_row (filter (λ x. not (p x)) xs)) (λ i x. same x i)

-- a deletion drops the terminals that are chosen
pub drops : (text : List ℕ) (params : Row) (chosen : Terminal → Bool)
    → DeletesChosen terminals_table terminal_row 2 text params chosen
    → (old new : State) (count : ℕ) → old.now.schema ≡ room_schema → Inside old new
    → Executes text params old new (Ok count)
    → Changes old new (λ config. record config { terminals = filter (λ t. not (chosen t)) config.terminals })
    (λ room. room)
drops text params chosen means old new count has inside ran =
    let it = deleted room_schema text 2 terminals_table terminals_apart means.terms means.deletes old new params count
    has ran in
    record {
      inside = inside;
      schema = it.0.schema_is ∙ has;
      stands = λ config room h.
          let now = it.1 (places terminals_table) terminals_table.primary (map terminal_row config.terminals)
          means.chooses.test h.terminals means.chooses.agrees in
          with_terminals old.now new.now config room h it.0 _
          (subst (Holds (places terminals_table) terminals_table.primary (new.now.trees 2))
          (kept_rows means.chooses.test chosen means.chooses.same config.terminals) now);
    }

-- ---- a desk's, and a position's
drop_numbered_means : Deletes room_schema DROP_NUMBERED.now 2 terminals_table (equals 2 0 ∷ equals 3 1 ∷ [])
unfolding understood everything
drop_numbered_means = record { command = refl; plain = (refl, refl) }

by_numbers : (role n : ℕ) (chosen : Terminal → Bool)
    → ((x : Terminal) → (role_of x.who == role && number_of x.who == n) ≡ chosen x)
    → DeletesChosen terminals_table terminal_row 2 DROP_NUMBERED.now (number role ∷ number n ∷ []) chosen
by_numbers role n chosen same = record {
  terms = equals 2 0 ∷ equals 3 1 ∷ [];
  deletes = drop_numbered_means;
  chooses = record {
    test = λ r. equal Binary (column r 1) (number role) && equal Binary (column r 2) (number n);
    agrees = λ r. and_then refl (and_last refl);
    same = λ x. and_then (equal-numbers (role_of x.who) role) (equal-numbers (number_of x.who) n) ∙ same x;
  };
}

desk_by_numbers : (d : ℕ) (who : Who) → (role_of who == 0 && number_of who == d) ≡ is_desk d who
desk_by_numbers d (Desk e) = refl
desk_by_numbers d (Position p) = refl
desk_by_numbers d (Crew c) = refl

position_by_numbers : (p : ℕ) (who : Who) → (role_of who == 1 && number_of who == p) ≡ is_position p who
position_by_numbers p (Desk d) = refl
position_by_numbers p (Position q) = refl
position_by_numbers p (Crew c) = refl

pub drops_desk : (d : ℕ)
    → DeletesChosen terminals_table terminal_row 2 DROP_NUMBERED.now (number 0 ∷ number d ∷ []) (λ t. is_desk d t.who)
drops_desk d = by_numbers 0 d (λ t. is_desk d t.who) (λ x. desk_by_numbers d x.who)

pub drops_position : (p : ℕ)
    → DeletesChosen terminals_table terminal_row 2 DROP_NUMBERED.now (number 1 ∷ number p ∷ [])
    (λ t. is_position p t.who)
drops_position p = by_numbers 1 p (λ t. is_position p t.who) (λ x. position_by_numbers p x.who)

-- ---- a crew's
drop_crews_means : Deletes room_schema DROP_CREWS.now 2 terminals_table (equals 4 0 ∷ [])
unfolding understood everything
drop_crews_means = record { command = refl; plain = (refl, refl) }

no_crew : (c : Callsign) → equal Binary Null (Text c) ≡ false
no_crew c = equal-value_cmp Null (Text c) refl ∙ ap is_eq (value_cmp-Null (Text c))

crew_by_callsign : (c : Callsign) (who : Who) → equal Binary (or_null Text (crew_of who)) (Text c) ≡ is_crew c who
crew_by_callsign c (Desk d) = no_crew c
crew_by_callsign c (Position p) = no_crew c
crew_by_callsign c (Crew k) = equal-texts k c

pub drops_crew : (c : Callsign)
    → DeletesChosen terminals_table terminal_row 2 DROP_CREWS.now (Text c ∷ []) (λ t. is_crew c t.who)
drops_crew c = record {
  terms = equals 4 0 ∷ [];
  deletes = drop_crews_means;
  chooses = record {
    test = λ r. equal Binary (column r 3) (Text c);
    agrees = λ r. and_last refl;
    same = λ x. crew_by_callsign c x.who;
  };
}
