use Rattle.std.proofs.Common.{sym, subst, map, arith}
use Rattle.sqlite_rules.proofs.ViewLemmas.{on_ok_both}
use Rattle.sqlite.specs.Held.{state}
use Rattle.sqlite.specs.State.{HasCleanDisk}
use Rattle.room_tables_schema.specs.Schema.{room_schema}
use Rattle.room_tables_schema.specs.Definitions.{Lead}
use Rattle.room_tables_schema.specs.declared.schema_sql.TheConstants.{DEFINITIONS}
use Rattle.room_tables_schema.proofs.Leading.{definitions_lead}
use Rattle.room_tables_schema.proofs.Growth.{is_blank}
use Rattle.room_tables_schema.proofs.table_creation.make.Goals as goal

pub define_all-requires-clause-lead : goal.define_all-requires-clause-lead
define_all-requires-clause-lead g c clean =
    subst (λ s. Lead s (map (λ t. t.now) DEFINITIONS) room_schema) (sym (c.requires.empty clean)) definitions_lead

pub returns-clause-blank : goal.returns-clause-blank
returns-clause-blank g c clean =
    let old = state g.S.Store c.args.tx.now.conn.now in
    let new = state g.S.Store c.define_all.new.tx.conn.now in
    let early : HasCleanDisk old = omega (arith, c.define_all.ensures.commits.survives.clean) in
    on_ok_both c.define_all.result (λ rows may. is_blank old.now new.now (c.requires.empty early) rows (may.room clean))
    (c.define_all.ensures.rows clean) c.define_all.ensures.inside
