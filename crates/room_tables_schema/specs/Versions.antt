-- Files of this version or another.
use Rattle.std.specs.Prelude.{◌≡◌, ◌⊎◌, [], Some, slice_get}
use Rattle.sqlite_schema.specs.declared.schema.Schema.{Schema}
use Rattle.room_tables_schema.specs.Schema.{first_schema, first_tables_schema, meta_table}
use Rattle.room_tables_schema.specs.Schema.{room_schema, tables_schema}

-- The schema begins as that of a room does, whatever the version: `meta` is its first table, and it
-- has no view.
abbrev pub BeginsAsRoom : Schema → Type 0
BeginsAsRoom schema = (slice_get schema.tables 0 ≡ Some meta_table) × (schema.views ≡ [])

-- The file has a room's tables, with its indexes or without them.
abbrev pub HasTables : Schema → Type 0
HasTables schema = (schema ≡ room_schema) ⊎ (schema ≡ tables_schema)

-- It has the tables of a room of the first version, with its indexes or without them.
abbrev pub HasFirstTables : Schema → Type 0
HasFirstTables schema = (schema ≡ first_schema) ⊎ (schema ≡ first_tables_schema)
