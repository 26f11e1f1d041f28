-- The tables and indexes that a room's file has, with the columns that `src/schema_tables.rt`
-- lists; the texts that make them are proved to make just these.
use Rattle.std.specs.Prelude.{ℕ, List, [], Bool, take, map}
use Rattle.sqlite_schema.specs.declared.schema.Table.{Table}
use Rattle.sqlite_schema.specs.declared.schema.Index.{Index}
use Rattle.sqlite_schema.specs.declared.schema.Schema.{Schema}
use Rattle.room_tables_schema.specs.Forms.{column_of, table_keyed, index_of}
use Rattle.room_tables_schema.specs.declared.forms.Rule.{Rule}
use Rattle.room_tables_schema.specs.declared.schema_tables.TheConstants.{META, AREAS, TERMINALS}
use Rattle.room_tables_schema.specs.declared.schema_tables.TheConstants.{DIVISIONS, INCIDENTS}
use Rattle.room_tables_schema.specs.declared.schema_tables.TheConstants.{CALLS, VEHICLES, TURNS}
use Rattle.room_tables_schema.specs.declared.schema_tables.TheConstants.{ASSIGNMENTS, POINTS, LOANS}
use Rattle.room_tables_schema.specs.declared.schema_tables.TheConstants.{REPORTS, OFFERS}
use Rattle.room_tables_schema.specs.declared.schema_tables.TheConstants.{INCIDENTS_BY_STATE}
use Rattle.room_tables_schema.specs.declared.schema_tables.TheConstants.{INCIDENTS_BY_OPENING}
use Rattle.room_tables_schema.specs.declared.schema_tables.TheConstants.{CALLS_BY_INCIDENT}
use Rattle.room_tables_schema.specs.declared.schema_tables.TheConstants.{TURNS_BY_INCIDENT}
use Rattle.room_tables_schema.specs.declared.schema_tables.TheConstants.{REPORTS_BY_OUTCOME, TABLES}
use Rattle.room_tables_schema.specs.declared.schema_tables.TheConstants.{INDEXES, KEY_INDEXES}
use Rattle.room_tables_schema.specs.declared.schema_tables.TheConstants.{FIRST_TABLES}
use Rattle.room_tables_schema.specs.declared.schema_tables.TheConstants.{FIRST_INDEXES}
use Rattle.room_tables_schema.specs.declared.schema_tables.TheConstants.{FIRST_KEY_INDEXES}

-- ---- what the constants of that file say, where a reference is known by what it points to

abbrev Known : Type 0 → Type 0
Known X = record { now : X }

abbrev table_in : Known (List ℕ) × ℕ × Known (List ℕ) × Known (List (Known (List ℕ) × Rule)) → Table
table_in form =
    table_keyed form.2.now form.1 form.0.now (map (λ c. column_of c.0.now c.1) form.3.now)

abbrev index_in : Known (List ℕ) × ℕ × ℕ × Known (List ℕ) × Bool → Index
index_in form = index_of form.0.now form.1 form.2 form.3.now form.4

abbrev pub tables_in : List (Known (List ℕ) × ℕ × Known (List ℕ)
    × Known (List (Known (List ℕ) × Rule))) → List Table
tables_in = map table_in

abbrev pub indexes_in : List (Known (List ℕ) × ℕ × ℕ × Known (List ℕ) × Bool) → List Index
indexes_in = map index_in

-- ---- tables

-- The room as a whole: one row, numbered 1, with the version of these tables and the zone of its
-- days.
abbrev pub meta_table : Table
meta_table = table_in META

-- The areas of the plan in its order, numbered from 1.
abbrev pub areas_table : Table
areas_table = table_in AREAS

-- The terminals: a token, its role (0 desk, 1 position, 2 crew), the number of its division or
-- position, and a crew's callsign.
abbrev pub terminals_table : Table
terminals_table = table_in TERMINALS

-- The rows of the room, a table a type, with its fields in their order: a place as two columns,
-- needs as three, a state as its number and, where it is merged, the incident that it was merged
-- into. What SQL keeps for itself is named otherwise: `ord`, `moment`, `left_at`.
abbrev pub divisions_table : Table
divisions_table = table_in DIVISIONS

abbrev pub incidents_table : Table
incidents_table = table_in INCIDENTS

abbrev pub calls_table : Table
calls_table = table_in CALLS

abbrev pub vehicles_table : Table
vehicles_table = table_in VEHICLES

abbrev pub turns_table : Table
turns_table = table_in TURNS

abbrev pub assignments_table : Table
assignments_table = table_in ASSIGNMENTS

abbrev pub points_table : Table
points_table = table_in POINTS

abbrev pub loans_table : Table
loans_table = table_in LOANS

abbrev pub reports_table : Table
reports_table = table_in REPORTS

abbrev pub offers_table : Table
offers_table = table_in OFFERS

-- The tables in the order in which they are made. A key that is no rowid takes the tree after its
-- table's.
abbrev pub room_tables : List Table
room_tables = tables_in TABLES

-- those of the first version, which had no offers
abbrev pub first_tables : List Table
first_tables = take FIRST_TABLES room_tables

-- ---- indexes

-- all of them, in the order in which they are made
abbrev pub room_indexes : List Index
room_indexes = indexes_in INDEXES

-- those that keep the tables' keys; SQL names them
abbrev pub key_indexes : List Index
key_indexes = take KEY_INDEXES room_indexes

-- those of the first version
abbrev pub indexes_of_first : List Index
indexes_of_first = indexes_in FIRST_INDEXES

-- The indexes by which working rows are found, made after all tables. No meaning of the room
-- depends on them.
abbrev pub incidents_by_state : Index
incidents_by_state = index_in INCIDENTS_BY_STATE

abbrev pub incidents_by_opening : Index
incidents_by_opening = index_in INCIDENTS_BY_OPENING

abbrev pub calls_by_incident : Index
calls_by_incident = index_in CALLS_BY_INCIDENT

abbrev pub turns_by_incident : Index
turns_by_incident = index_in TURNS_BY_INCIDENT

abbrev pub reports_by_outcome : Index
reports_by_outcome = index_in REPORTS_BY_OUTCOME

-- ---- schemas

-- of a new file
abbrev pub no_schema : Schema
no_schema = record { tables = []; indexes = []; views = [] }

-- of only a room's tables
abbrev pub tables_schema : Schema
tables_schema = record { tables = room_tables; indexes = key_indexes; views = [] }

-- of a room
abbrev pub room_schema : Schema
room_schema = record { tables = room_tables; indexes = room_indexes; views = [] }

-- of only the first version's tables
abbrev pub first_tables_schema : Schema
first_tables_schema = record {
  tables = first_tables;
  indexes = take FIRST_KEY_INDEXES indexes_of_first;
  views = [];
}

-- of a room of the first version
abbrev pub first_schema : Schema
first_schema = record { tables = first_tables; indexes = indexes_of_first; views = [] }
