use Rattle.std.proofs.Common.{ap, cond, drop, map, subst, sym, ◌∙◌}
use Rattle.std.specs.Result.{IfErr}
use Rattle.sqlite.specs.Held.{Held, state}
use Rattle.room_tables_schema.specs.Schema.{first_schema, first_tables_schema, room_schema}
use Rattle.room_tables_schema.specs.Definitions.{FailsAt, Lead}
use Rattle.room_tables_schema.specs.declared.schema_sql.TheConstants.{DROPS, MOVES}
use Rattle.room_tables_schema.proofs.Leading.{first_lead, first_tables_lead}
use Rattle.room_tables_schema.proofs.table_creation.make_last.Goals as goal

pub define_all-requires-clause-lead : goal.define_all-requires-clause-lead
define_all-requires-clause-lead g c clean =
    let is = c.requires.tables clean ∙ ap (λ b. cond b first_schema first_tables_schema) c.if-is_indexed.true in
    subst (λ s. Lead s (map (λ t. t.now) MOVES) room_schema) (sym is) first_lead

pub define_all-requires-else-is_indexed-clause-lead : goal.define_all-requires-else-is_indexed-clause-lead
define_all-requires-else-is_indexed-clause-lead g c clean =
    let is = c.requires.tables clean ∙ ap (λ b. cond b first_schema first_tables_schema) c.if-is_indexed.false in
    subst (λ s. Lead s (map (λ t. t.now) (drop DROPS MOVES)) room_schema) (sym is) first_tables_lead

pub returns-then-is_indexed-clause-why : goal.returns-then-is_indexed-clause-why
returns-then-is_indexed-clause-why g c clean =
    subst (λ b.
    IfErr c.define_all.result (λ fault.
    (mid : Held g.row.S.Denot)
    × FailsAt (map (λ t. t.now) (cond b MOVES (drop DROPS MOVES))) (state g.S.Store c.args.tx.now.conn.now)
    (state g.S.Store mid) (state g.S.Store c.define_all.new.tx.conn.now) fault)) (sym c.if-is_indexed.true)
    (c.define_all.ensures.why clean)

pub returns-else-is_indexed-clause-why : goal.returns-else-is_indexed-clause-why
returns-else-is_indexed-clause-why g c clean =
    subst (λ b.
    IfErr c.define_all-else-is_indexed.result (λ fault.
    (mid : Held g.row.S.Denot)
    × FailsAt (map (λ t. t.now) (cond b MOVES (drop DROPS MOVES))) (state g.S.Store c.args.tx.now.conn.now)
    (state g.S.Store mid) (state g.S.Store c.define_all-else-is_indexed.new.tx.conn.now) fault))
    (sym c.if-is_indexed.false) (c.define_all-else-is_indexed.ensures.why clean)
