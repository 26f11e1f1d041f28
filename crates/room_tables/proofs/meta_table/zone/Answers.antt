use Rattle.std.proofs.Common.{arith, refl, subst, sym, ◌∙◌, []}
use Rattle.std.specs.Prelude.{string_bytes}
use Rattle.std.proofs.lemmas.Result.{IfOk-weaker, IfErr-weaker}
use Rattle.sqlite.specs.Held.{state}
use Rattle.sqlite.specs.State.{HasCleanDisk}
use Rattle.room_tables_schema.proofs.Refusals.{plain_here}
use Rattle.room_tables_schema.specs.Schema.{room_schema}
use Rattle.room_tables_schema.specs.Versions.{BeginsAsRoom}
use Rattle.room_tables_rows.specs.declared.meta_sql.TheConstants.{ALL_META}
use Rattle.room_tables_rows.proofs.MetaTable.{all_meta_means}
use Rattle.room_tables_rows.proofs.Version.{version_found}
use Rattle.room_tables_schema.proofs.ReadLaws.{ends_inside, fails_inside}
use Rattle.room_tables.proofs.ReadFailures.{shown_fails}
use Rattle.room_tables.specs.Failures.{AreNotJustOne}
use Rattle.room_tables_rows.specs.MetaSql.{is_meta_row}
use Rattle.room_tables.proofs.meta_table.zone.Goals as goal

pub select_inside-requires : goal.select_inside-requires
select_inside-requires g c clean = plain_here room_schema _ ALL_META.now (c.requires.room clean) all_meta_means.plain

pub returns-clause-found : goal.returns-clause-found
returns-clause-found g c clean =
    let old = state g.S.Store c.args.tx.now.conn.now in
    let early : HasCleanDisk old = omega (arith, c.select_inside.ensures.reads.survives.clean) in
    let begins : BeginsAsRoom old.now.schema = subst BeginsAsRoom (sym (c.requires.room early)) (refl, refl) in
    IfOk-weaker c.zone_in.result _ _
    (λ zone is.
    version_found old _ _ begins (c.in_ok-shown.ensures.shown clean) c.args.version (string_bytes zone)
    (is ∙ c.as_slice.ensures.value)) c.zone_in.ensures.zone

pub returns-clause-why : goal.returns-clause-why
returns-clause-why g c clean =
    IfErr-weaker c.zone_in.result _ _ (shown_fails ALL_META.now [] (state g.S.Store c.args.tx.now.conn.now)
    (state g.S.Store c.select_inside.new.tx.conn.now) (AreNotJustOne (is_meta_row c.args.version))
    c.in_ok-shown.shown.items (c.in_ok-shown.ensures.shown clean))
    (rw c.as_slice.ensures.value at c.zone_in.ensures.why)

pub returns-clause-reads : goal.returns-clause-reads
returns-clause-reads g c = ends_inside c.zone_in.result c.in_ok-shown.ensures.reads

pub returns-in_err-shown-clause-reads : goal.returns-in_err-shown-clause-reads
returns-in_err-shown-clause-reads g c = fails_inside c.from_residual.ensures.0 c.in_err-shown.ensures.reads
