use Rattle.room_tables_rows.proofs.MetaTable.{all_meta_means}
use Rattle.room_tables_rows.specs.declared.meta_sql.TheConstants.{ALL_META}
use Rattle.room_tables_schema.proofs.Refusals.{plain_here}
use Rattle.room_tables_schema.specs.Schema.{room_schema}
use Rattle.room_store.proofs.store.can_read.Goals as goal

pub select-requires : goal.select-requires
select-requires g c clean = plain_here room_schema _ ALL_META.now (c.requires.room clean) all_meta_means.plain
