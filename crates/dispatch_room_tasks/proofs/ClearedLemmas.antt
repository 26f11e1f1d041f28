-- What the statements say that empty a table, and what they make of a room.
use Rattle.std.proofs.Common.{List, Ok, [], filter, map, not, refl, subst, true, ℕ, ◌∙◌, ◌∷◌, ◌≡◌}
use Rattle.sqlite.specs.Listing.{understood}
use Rattle.sqlite.specs.State.{Executes, State}
use Rattle.sqlite_tied.specs.Compute.{everything}
use Rattle.sqlite_value.specs.Order.{Row}
use Rattle.room_tables_schema.proofs.Deletions.{deleted}
use Rattle.room_tables_schema.specs.Outcomes.{Inside}
use Rattle.room_tables_schema.specs.Statements.{Deletes}
use Rattle.room_tables_schema.specs.TableTrees.{Holds}
use Rattle.room_tables_schema.specs.Schema.{areas_table, room_schema, terminals_table}
use Rattle.room_tables_rows.proofs.Kept.{with_areas, with_terminals}
use Rattle.room_tables_rows.proofs.AreasTable.{areas_apart}
use Rattle.room_tables_rows.proofs.TerminalsTable.{terminals_apart}
use Rattle.room_tables_rows.specs.RoomsInTables.{numbered, places}
use Rattle.room_tables_rows.specs.AreaSql.{area_row}
use Rattle.room_tables_rows.specs.TerminalSql.{terminal_row}
use Rattle.room_tables_rows.specs.Writes.{Changes}
use Rattle.dispatch_room_tasks.specs.declared.cleared_tables.TheConstants.{CLEAR_AREAS}
use Rattle.dispatch_room_tasks.specs.declared.cleared_tables.TheConstants.{CLEAR_TERMINALS}

none_left : (rows : List Row) → filter (λ r. not true) rows ≡ []
none_left [] = refl
none_left (r ∷ rows) = none_left rows

-- ---- terminals
clear_terminals_means : Deletes room_schema CLEAR_TERMINALS.now 2 terminals_table []
unfolding understood everything
clear_terminals_means = record { command = refl; plain = (refl, refl) }

pub clears_terminals : (params : Row) (old new : State) (count : ℕ) → old.now.schema ≡ room_schema
    → Inside old new → Executes CLEAR_TERMINALS.now params old new (Ok count)
    → Changes old new (λ config. record config { terminals = [] }) (λ room. room)
clears_terminals params old new count has inside ran =
    let it = deleted room_schema CLEAR_TERMINALS.now 2 terminals_table terminals_apart [] clear_terminals_means old new
    params count has ran in
    record {
      inside = inside;
      schema = it.0.schema_is ∙ has;
      stands = λ config room h.
          let rows = map terminal_row config.terminals in
          let now = it.1 (places terminals_table) terminals_table.primary rows (λ r. true) h.terminals (λ r. refl) in
          with_terminals old.now new.now config room h it.0 []
          (subst (Holds (places terminals_table) terminals_table.primary (new.now.trees 2)) (none_left rows) now);
    }

-- ---- areas
clear_areas_means : Deletes room_schema CLEAR_AREAS.now 1 areas_table []
unfolding understood everything
clear_areas_means = record { command = refl; plain = (refl, refl) }

pub clears_areas : (params : Row) (old new : State) (count : ℕ) → old.now.schema ≡ room_schema
    → Inside old new → Executes CLEAR_AREAS.now params old new (Ok count)
    → Changes old new (λ config. config) (λ room. record room { plan = [] })
clears_areas params old new count has inside ran =
    let it = deleted room_schema CLEAR_AREAS.now 1 areas_table areas_apart [] clear_areas_means old new params count has
    ran in
    record {
      inside = inside;
      schema = it.0.schema_is ∙ has;
      stands = λ config room h.
          let rows = map area_row (numbered 1 room.plan) in
          let now = it.1 (places areas_table) areas_table.primary rows (λ r. true) h.areas (λ r. refl) in
          with_areas old.now new.now config room h it.0 []
          (subst (Holds (places areas_table) areas_table.primary (new.now.trees 1)) (none_left rows) now);
    }
