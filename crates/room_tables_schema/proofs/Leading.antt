-- What each text makes of the schema before it, and all of them together.
use Rattle.std.specs.Prelude.{ℕ, ◌+◌, [], ◌++◌, take, drop, map, fold}
use Rattle.std.proofs.Common.{refl, inl, inr}
use Rattle.sqlite_tied.specs.Compute.{everything}
use Rattle.sqlite_schema.specs.declared.schema.Table.{Table}
use Rattle.sqlite_schema.specs.declared.schema.Index.{Index}
use Rattle.sqlite_schema.specs.declared.schema.Schema.{Schema}
use Rattle.sqlite_catalog.specs.Change.{created}
use Rattle.sqlite.specs.Listing.{understood}
use Rattle.room_tables_schema.specs.Statements.{Creates, Indexes}
use Rattle.room_tables_schema.specs.Definitions.{Drops, Lead}
use Rattle.room_tables_schema.specs.Schema.{first_schema, first_tables, first_tables_schema}
use Rattle.room_tables_schema.specs.Schema.{no_schema, room_tables, indexes_in, tables_schema}
use Rattle.room_tables_schema.specs.Schema.{room_schema, meta_table, areas_table, terminals_table}
use Rattle.room_tables_schema.specs.Schema.{divisions_table, incidents_table, calls_table}
use Rattle.room_tables_schema.specs.Schema.{vehicles_table, turns_table, assignments_table}
use Rattle.room_tables_schema.specs.Schema.{points_table, loans_table, reports_table, offers_table}
use Rattle.room_tables_schema.specs.Schema.{incidents_by_state, incidents_by_opening}
use Rattle.room_tables_schema.specs.Schema.{calls_by_incident, turns_by_incident}
use Rattle.room_tables_schema.specs.Schema.{reports_by_outcome}
use Rattle.room_tables_schema.specs.declared.schema_tables.TheConstants.{FIRST_INDEXES}
use Rattle.room_tables_schema.specs.declared.schema_tables.TheConstants.{FIRST_KEY_INDEXES, INDEXES}
use Rattle.room_tables_schema.specs.declared.schema_tables.TheConstants.{KEY_INDEXES}
use Rattle.room_tables_schema.specs.declared.schema_sql.TheConstants.{DEFINITIONS}
use Rattle.room_tables_schema.specs.declared.schema_sql.TheConstants.{TABLE_DEFINITIONS, MOVES}
use Rattle.room_tables_schema.specs.declared.schema_sql.TheConstants.{DROPS, META, AREAS, TERMINALS}
use Rattle.room_tables_schema.specs.declared.schema_sql.TheConstants.{DIVISIONS, INCIDENTS, CALLS}
use Rattle.room_tables_schema.specs.declared.schema_sql.TheConstants.{VEHICLES, TURNS, ASSIGNMENTS}
use Rattle.room_tables_schema.specs.declared.schema_sql.TheConstants.{POINTS, LOANS, REPORTS}
use Rattle.room_tables_schema.specs.declared.schema_sql.TheConstants.{OFFERS, INCIDENTS_BY_STATE}
use Rattle.room_tables_schema.specs.declared.schema_sql.TheConstants.{INCIDENTS_BY_OPENING}
use Rattle.room_tables_schema.specs.declared.schema_sql.TheConstants.{CALLS_BY_INCIDENT}
use Rattle.room_tables_schema.specs.declared.schema_sql.TheConstants.{TURNS_BY_INCIDENT}
use Rattle.room_tables_schema.specs.declared.schema_sql.TheConstants.{REPORTS_BY_OUTCOME}
use Rattle.room_tables_schema.specs.declared.schema_sql.TheConstants.{DROP_INCIDENTS_BY_STATE}
use Rattle.room_tables_schema.specs.declared.schema_sql.TheConstants.{DROP_INCIDENTS_BY_OPENING}
use Rattle.room_tables_schema.specs.declared.schema_sql.TheConstants.{DROP_CALLS_BY_INCIDENT}
use Rattle.room_tables_schema.specs.declared.schema_sql.TheConstants.{DROP_TURNS_BY_INCIDENT}
use Rattle.room_tables_schema.specs.declared.schema_sql.TheConstants.{DROP_REPORTS_BY_OUTCOME}

-- a table or index as its text has it, before it has a tree
abbrev unplaced : Table → Table
unplaced table = record table { tree = 0 }

abbrev unplaced_index : Index → Index
unplaced_index index = record index { tree = 0 }

-- the schemas on the way: with the first so many tables, and with all of them and the first so many
-- indexes
abbrev tables_upto : ℕ → Schema
tables_upto n = fold (λ s t. created s (unplaced t)) no_schema (take n room_tables)

abbrev indexes_upto : ℕ → Schema
indexes_upto n = record { tables = room_tables; indexes = indexes_in (take (KEY_INDEXES + n) INDEXES); views = [] }

meta_creates : Creates (tables_upto 0) META.now (unplaced meta_table)
unfolding understood everything
meta_creates = record { command = refl; plain = (refl, refl); whole = refl; defined = refl; uncounted = refl }

areas_creates : Creates (tables_upto 1) AREAS.now (unplaced areas_table)
unfolding understood everything
areas_creates = record { command = refl; plain = (refl, refl); whole = refl; defined = refl; uncounted = refl }

terminals_creates : Creates (tables_upto 2) TERMINALS.now (unplaced terminals_table)
unfolding understood everything
terminals_creates = record { command = refl; plain = (refl, refl); whole = refl; defined = refl; uncounted = refl }

divisions_creates : Creates (tables_upto 3) DIVISIONS.now (unplaced divisions_table)
unfolding understood everything
divisions_creates = record { command = refl; plain = (refl, refl); whole = refl; defined = refl; uncounted = refl }

incidents_creates : Creates (tables_upto 4) INCIDENTS.now (unplaced incidents_table)
unfolding understood everything
incidents_creates = record { command = refl; plain = (refl, refl); whole = refl; defined = refl; uncounted = refl }

calls_creates : Creates (tables_upto 5) CALLS.now (unplaced calls_table)
unfolding understood everything
calls_creates = record { command = refl; plain = (refl, refl); whole = refl; defined = refl; uncounted = refl }

vehicles_creates : Creates (tables_upto 6) VEHICLES.now (unplaced vehicles_table)
unfolding understood everything
vehicles_creates = record { command = refl; plain = (refl, refl); whole = refl; defined = refl; uncounted = refl }

turns_creates : Creates (tables_upto 7) TURNS.now (unplaced turns_table)
unfolding understood everything
turns_creates = record { command = refl; plain = (refl, refl); whole = refl; defined = refl; uncounted = refl }

assignments_creates : Creates (tables_upto 8) ASSIGNMENTS.now (unplaced assignments_table)
unfolding understood everything
assignments_creates = record { command = refl; plain = (refl, refl); whole = refl; defined = refl; uncounted = refl }

points_creates : Creates (tables_upto 9) POINTS.now (unplaced points_table)
unfolding understood everything
points_creates = record { command = refl; plain = (refl, refl); whole = refl; defined = refl; uncounted = refl }

loans_creates : Creates (tables_upto 10) LOANS.now (unplaced loans_table)
unfolding understood everything
loans_creates = record { command = refl; plain = (refl, refl); whole = refl; defined = refl; uncounted = refl }

reports_creates : Creates (tables_upto 11) REPORTS.now (unplaced reports_table)
unfolding understood everything
reports_creates = record { command = refl; plain = (refl, refl); whole = refl; defined = refl; uncounted = refl }

offers_creates : Creates (tables_upto 12) OFFERS.now (unplaced offers_table)
unfolding understood everything
offers_creates = record { command = refl; plain = (refl, refl); whole = refl; defined = refl; uncounted = refl }

incidents_by_state_indexes : Indexes (indexes_upto 0) INCIDENTS_BY_STATE.now 4 incidents_table
    (unplaced_index incidents_by_state)
unfolding understood everything
incidents_by_state_indexes =
    record { command = refl; plain = (refl, refl); whole = refl; is_there = refl; defined = refl }

incidents_by_opening_indexes : Indexes (indexes_upto 1) INCIDENTS_BY_OPENING.now 4 incidents_table
    (unplaced_index incidents_by_opening)
unfolding understood everything
incidents_by_opening_indexes =
    record { command = refl; plain = (refl, refl); whole = refl; is_there = refl; defined = refl }

calls_by_incident_indexes : Indexes (indexes_upto 2) CALLS_BY_INCIDENT.now 5 calls_table
    (unplaced_index calls_by_incident)
unfolding understood everything
calls_by_incident_indexes =
    record { command = refl; plain = (refl, refl); whole = refl; is_there = refl; defined = refl }

turns_by_incident_indexes : Indexes (indexes_upto 3) TURNS_BY_INCIDENT.now 7 turns_table
    (unplaced_index turns_by_incident)
unfolding understood everything
turns_by_incident_indexes =
    record { command = refl; plain = (refl, refl); whole = refl; is_there = refl; defined = refl }

reports_by_outcome_indexes : Indexes (indexes_upto 4) REPORTS_BY_OUTCOME.now 11 reports_table
    (unplaced_index reports_by_outcome)
unfolding understood everything
reports_by_outcome_indexes =
    record { command = refl; plain = (refl, refl); whole = refl; is_there = refl; defined = refl }

pub indexes_lead : Lead tables_schema
    (map (λ t. t.now) (drop TABLE_DEFINITIONS DEFINITIONS)) room_schema
unfolding everything
indexes_lead = (
  indexes_upto 1,
  inr (inl (4, incidents_table, unplaced_index incidents_by_state, incidents_by_state_indexes, refl)),
  (
    indexes_upto 2,
    inr (inl (4, incidents_table, unplaced_index incidents_by_opening, incidents_by_opening_indexes, refl)),
    (
      indexes_upto 3,
      inr (inl (5, calls_table, unplaced_index calls_by_incident, calls_by_incident_indexes, refl)),
      (
        indexes_upto 4,
        inr (inl (7, turns_table, unplaced_index turns_by_incident, turns_by_incident_indexes, refl)),
        (
          indexes_upto 5,
          inr (inl (11, reports_table, unplaced_index reports_by_outcome, reports_by_outcome_indexes, refl)),
          refl,
        ),
      ),
    ),
  ),
)

pub definitions_lead : Lead no_schema (map (λ t. t.now) DEFINITIONS) room_schema
unfolding everything
definitions_lead = (
  tables_upto 1,
  inl (unplaced meta_table, meta_creates, refl),
  (
    tables_upto 2,
    inl (unplaced areas_table, areas_creates, refl),
    (
      tables_upto 3,
      inl (unplaced terminals_table, terminals_creates, refl),
      (
        tables_upto 4,
        inl (unplaced divisions_table, divisions_creates, refl),
        (
          tables_upto 5,
          inl (unplaced incidents_table, incidents_creates, refl),
          (
            tables_upto 6,
            inl (unplaced calls_table, calls_creates, refl),
            (
              tables_upto 7,
              inl (unplaced vehicles_table, vehicles_creates, refl),
              (
                tables_upto 8,
                inl (unplaced turns_table, turns_creates, refl),
                (
                  tables_upto 9,
                  inl (unplaced assignments_table, assignments_creates, refl),
                  (
                    tables_upto 10,
                    inl (unplaced points_table, points_creates, refl),
                    (
                      tables_upto 11,
                      inl (unplaced loans_table, loans_creates, refl),
                      (
                        tables_upto 12,
                        inl (unplaced reports_table, reports_creates, refl),
                        (
                          tables_schema,
                          inl (unplaced offers_table, offers_creates, refl),
                          indexes_lead,
                        ),
                      ),
                    ),
                  ),
                ),
              ),
            ),
          ),
        ),
      ),
    ),
  ),
)

-- ---- from the first version's schema

-- its tables, and its indexes without the first so many of those that find working rows
abbrev first_without : ℕ → Schema
first_without n = record {
  tables = first_tables;
  indexes = indexes_in (take FIRST_KEY_INDEXES FIRST_INDEXES ++ drop (FIRST_KEY_INDEXES + n) FIRST_INDEXES);
  views = [];
}

-- an index with the tree that it had there
abbrev first_index : Index → ℕ → Index
first_index index tree = record index { tree = tree }

incidents_by_state_drops : Drops (first_without 0) DROP_INCIDENTS_BY_STATE.now 9
    (first_index incidents_by_state 21)
unfolding understood everything
incidents_by_state_drops = record { command = refl; plain = (refl, refl); is_there = refl }

incidents_by_opening_drops : Drops (first_without 1) DROP_INCIDENTS_BY_OPENING.now 9
    (first_index incidents_by_opening 22)
unfolding understood everything
incidents_by_opening_drops = record { command = refl; plain = (refl, refl); is_there = refl }

calls_by_incident_drops : Drops (first_without 2) DROP_CALLS_BY_INCIDENT.now 9
    (first_index calls_by_incident 23)
unfolding understood everything
calls_by_incident_drops = record { command = refl; plain = (refl, refl); is_there = refl }

turns_by_incident_drops : Drops (first_without 3) DROP_TURNS_BY_INCIDENT.now 9
    (first_index turns_by_incident 24)
unfolding understood everything
turns_by_incident_drops = record { command = refl; plain = (refl, refl); is_there = refl }

reports_by_outcome_drops : Drops (first_without 4) DROP_REPORTS_BY_OUTCOME.now 9
    (first_index reports_by_outcome 25)
unfolding understood everything
reports_by_outcome_drops = record { command = refl; plain = (refl, refl); is_there = refl }

pub first_tables_lead : Lead first_tables_schema (map (λ t. t.now) (drop DROPS MOVES)) room_schema
unfolding everything
first_tables_lead = (tables_schema, inl (unplaced offers_table, offers_creates, refl), indexes_lead)

pub first_lead : Lead first_schema (map (λ t. t.now) MOVES) room_schema
unfolding everything
first_lead = (
  first_without 1,
  inr (inr (9, first_index incidents_by_state 21, incidents_by_state_drops, refl)),
  (
    first_without 2,
    inr (inr (9, first_index incidents_by_opening 22, incidents_by_opening_drops, refl)),
    (
      first_without 3,
      inr (inr (9, first_index calls_by_incident 23, calls_by_incident_drops, refl)),
      (
        first_without 4,
        inr (inr (9, first_index turns_by_incident 24, turns_by_incident_drops, refl)),
        (
          first_without 5,
          inr (inr (9, first_index reports_by_outcome 25, reports_by_outcome_drops, refl)),
          first_tables_lead,
        ),
      ),
    ),
  ),
)
