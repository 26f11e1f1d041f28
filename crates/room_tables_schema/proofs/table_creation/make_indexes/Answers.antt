use Rattle.std.proofs.Common.{sym, subst, map, drop}
use Rattle.room_tables_schema.specs.Schema.{room_schema}
use Rattle.room_tables_schema.specs.Definitions.{Lead}
use Rattle.room_tables_schema.specs.declared.schema_sql.TheConstants.{DEFINITIONS}
use Rattle.room_tables_schema.specs.declared.schema_sql.TheConstants.{TABLE_DEFINITIONS}
use Rattle.room_tables_schema.proofs.Leading.{indexes_lead}
use Rattle.room_tables_schema.proofs.table_creation.make_indexes.Goals as goal

pub define_all-requires-clause-lead : goal.define_all-requires-clause-lead
define_all-requires-clause-lead g c clean =
    subst (λ s. Lead s (map (λ t. t.now) (drop TABLE_DEFINITIONS DEFINITIONS)) room_schema)
    (sym (c.requires.tables clean)) indexes_lead
